-- The output of a rectangle is one of the outputs.
use Rattle.std.proofs.Common.{◌≡◌, ℕ, ◌≤◌, Bool, true, false, ◌||◌, List, [], ◌∷◌, Option, Some, None, refl, sym, ◌∙◌, ap, subst, arith}
use Rattle.std.specs.Prelude.{find, max, slice_get, if◌then◌else◌}
use Rattle.std.specs.List.{All, list_any}
use Rattle.std.proofs.lemmas.List.Elements.{All-nil, All-cons, All-head, All-tail, All-weaker}
use Rattle.gui_num.specs.declared.Rect.{Rect}
use Rattle.gui_num.specs.Rects.{has, area}
use Rattle.desk_laws.specs.Layers.{or_else}
use Rattle.desk_laws.specs.Outputs.{corner, output_of, largest}

module _ (P : Rect → Type 0) (output : Rect) where
  found-has : (test : Rect → Bool) (outputs : List Rect) → All P outputs → find test outputs ≡ Some output → P output
  found-has test [] all is = absurd (cc)
  found-has test (o ∷ outputs) all is = by_test (test o) is (λ e. found-has test outputs (All-tail P o outputs all) e)
    where
      by_test : (b : Bool) → (if b then Some o else find test outputs) ≡ Some output → (find test outputs ≡ Some output → P output) → P output
      by_test true e further = let same : o ≡ output = cc in subst P same (All-head P o outputs all)
      by_test false e further = further e

  first-has : (outputs : List Rect) → All P outputs → slice_get outputs 0 ≡ Some output → P output
  first-has [] all is = absurd (cc)
  first-has (o ∷ outputs) all is = let same : o ≡ output = cc in subst P same (All-head P o outputs all)

  -- what holds of all outputs holds of a rectangle's
  pub output-has : (outputs : List Rect) (r : Rect) → All P outputs → output_of outputs r ≡ Some output → P output
  output-has outputs r all is = by_found (find test outputs) refl is
    where
      test : Rect → Bool
      test o = has o (corner r)

      by_found : (o : Option Rect) → find test outputs ≡ o → or_else o (slice_get outputs 0) ≡ Some output → P output
      by_found None e first = first-has outputs all first
      by_found (Some found) e here = found-has test outputs all (e ∙ here)

-- each output passes where one that passes is enough
all-any : (test : Rect → Bool) (outputs : List Rect) → All (λ o. test o ≡ true → list_any test outputs ≡ true) outputs
all-any test [] = All-nil (λ o. test o ≡ true → list_any test [] ≡ true)
all-any test (first ∷ outputs) =
    All-cons P first outputs (λ e. ap (λ b. b || list_any test outputs) e)
    (All-weaker (λ o. test o ≡ true → list_any test outputs ≡ true) P (λ o any e. later (test first) (any e)) outputs (all-any test outputs))
  where
    P : Rect → Type 0
    P o = test o ≡ true → list_any test (first ∷ outputs) ≡ true

    later : (b : Bool) → list_any test outputs ≡ true → (b || list_any test outputs) ≡ true
    later true e = refl
    later false e = e

-- where a rectangle's output passes a test, some output does
pub output-any : (test : Rect → Bool) (outputs : List Rect) (r output : Rect) → output_of outputs r ≡ Some output → test output ≡ true
    → list_any test outputs ≡ true
output-any test outputs r output is = output-has (λ o. test o ≡ true → list_any test outputs ≡ true) output outputs r (all-any test outputs) is

max-left : (a b : ℕ) → a ≤ max a b
max-left a b = omega arith

max-right : (a b n : ℕ) → n ≤ b → n ≤ max a b
max-right a b n less = omega arith

all-largest : (outputs : List Rect) → All (λ o. area o ≤ largest outputs) outputs
all-largest [] = All-nil (λ o. area o ≤ 0)
all-largest (first ∷ outputs) =
    All-cons (λ o. area o ≤ largest (first ∷ outputs)) first outputs (max-left (area first) (largest outputs))
    (All-weaker (λ o. area o ≤ largest outputs) (λ o. area o ≤ largest (first ∷ outputs))
    (λ o less. max-right (area first) (largest outputs) (area o) less) outputs (all-largest outputs))

-- a rectangle's output is no larger than the largest
pub output-largest : (outputs : List Rect) (r output : Rect) → output_of outputs r ≡ Some output → area output ≤ largest outputs
output-largest outputs r output is = output-has (λ o. area o ≤ largest outputs) output outputs r (all-largest outputs) is
