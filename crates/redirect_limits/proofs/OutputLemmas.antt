-- The search for the output of a rectangle, one output after the other.
use Rattle.std.proofs.Common.{◌≡◌, ℕ, ◌+◌, ◌≤◌, ◌<◌, Bool, true, false, cond, List, [], ◌∷◌, length, get_or, drop, Option, Some, refl, sym, ap, ◌∙◌, arith}
use Rattle.std.specs.Prelude.{find, slice_get}
use Rattle.std.proofs.lemmas.List.{at_drop_more, at_drop_all}
use Rattle.gui_num.specs.declared.Rect.{Rect}
use Rattle.gui_num.specs.declared.Point.{Point}
use Rattle.gui_num.specs.Rects.{has}
use Rattle.desk_laws.specs.Layers.{or_else}
use Rattle.desk_laws.specs.Outputs.{corner, output_of}

module _ (p : Point) (outputs : List Rect) (i : ℕ) (d : Rect) where
  -- the first output that has the point, among those from i on
  abbrev found_from : ℕ → Option Rect
  found_from n = find (λ output. has output p) (drop n outputs)

  step : (b : Bool) → i < length outputs → b ≡ has (get_or outputs i d) p → found_from i ≡ cond b (Some (get_or outputs i d)) (found_from (i + 1))
  step b within e =
      at_drop_more (find (λ output. has output p)) outputs i d within ∙ ap (λ t. cond t (Some (get_or outputs i d)) (found_from (i + 1))) (sym e)

  -- an output that hasn't the point is passed over
  pub goes-on : i < length outputs → false ≡ has (get_or outputs i d) p → found_from i ≡ find (λ output. has output p) outputs
      → found_from (i + 1) ≡ find (λ output. has output p) outputs
  goes-on within e known = sym (step false within e) ∙ known

-- the output that has the corner
pub found-output : (r : Rect) (p : Point) (outputs : List Rect) (i : ℕ) (d : Rect) → p ≡ corner r → i < length outputs → true ≡ has (get_or outputs i d) p
    → find (λ output. has output p) (drop i outputs) ≡ find (λ output. has output p) outputs → output_of outputs r ≡ Some (get_or outputs i d)
found-output r p outputs i d first within e known =
    ap (λ q. or_else (find (λ output. has output q) outputs) (slice_get outputs 0)) (sym first)
    ∙ ap (λ o. or_else o (slice_get outputs 0)) (sym known ∙ step p outputs i d true within e)

first-is : (outputs : List Rect) (d : Rect) → 1 ≤ length outputs → slice_get outputs 0 ≡ Some (get_or outputs 0 d)
first-is [] d some = absurd (omega arith)
first-is (o ∷ outputs) d some = refl

-- the first one, where none has the corner
pub first-output : (r : Rect) (p : Point) (outputs : List Rect) (i : ℕ) (d : Rect) → p ≡ corner r → length outputs ≤ i → 1 ≤ length outputs
    → find (λ output. has output p) (drop i outputs) ≡ find (λ output. has output p) outputs → output_of outputs r ≡ Some (get_or outputs 0 d)
first-output r p outputs i d first past some known =
    ap (λ q. or_else (find (λ output. has output q) outputs) (slice_get outputs 0)) (sym first)
    ∙ ap (λ o. or_else o (slice_get outputs 0)) (sym known ∙ at_drop_all (find (λ output. has output p)) outputs i past)
    ∙ first-is outputs d some
