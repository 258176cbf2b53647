-- The desktop of a setup, and its outputs.
use Rattle.std.proofs.Common.{◌≡◌, ℕ, zero, suc, ◌+◌, ◌*◌, ◌≤◌, Bool, true, false, cond, ◌==◌, nat_le, get_or, List, [], ◌∷◌, length, Option, Some, None, ℤ, pos, ◌+ℤ◌, ◌-ℤ◌, ◌≤ℤ◌, int_le, refl, sym, subst, arith}
use Rattle.std.specs.Bool.{OnTrue}
use Rattle.std.specs.List.{All, list_all}
use Rattle.std.proofs.lemmas.Bool.{and_parts, leb-true}
use Rattle.std.proofs.lemmas.Int.{ints}
use Rattle.std.proofs.lemmas.List.Elements.{All-nil, All-cons}
use Rattle.std.proofs.lemmas.Nat.{mul-le}
use Rattle.gui_num.specs.declared.Rect.{Rect}
use Rattle.gui_num.specs.Rects.{grown}
use Rattle.desk_laws.specs.declared.setup.Setup.{Setup}
use Rattle.desk_laws.specs.Outputs.{output_of, lies_in}
use Rattle.desk_laws.specs.Ranges.{IsPlace}
use Rattle.desk_laws.specs.Pairs.{clip_limit}
use Rattle.desk_laws.specs.Rules.{within, is_output, rules, later_rules, or_later, first_false, first_broken}
use Rattle.desk_laws.specs.Sizes.{sizes_of}
use Rattle.desk_laws.proofs.OutputLemmas.{output-has}
use Rattle.guest_session.specs.declared.desk.Desk.{Desk}
use Rattle.guest_session.specs.Desk.{FitDesk, FitOutput, desk_of}

-- ---- a setup that keeps the rules

-- where no rule is broken, each holds
rule-holds : (n : ℕ) (bs : List Bool) (k : ℕ) → first_false n bs ≡ None → get_or bs k true ≡ true
rule-holds n [] k is = refl
rule-holds n (true ∷ bs) zero is = refl
rule-holds n (true ∷ bs) (suc k) is = rule-holds (n + 1) bs k is
rule-holds n (false ∷ bs) k is = cc

first-none : (a b : Option ℕ) → or_later a b ≡ None → (a ≡ None) × (b ≡ None)
first-none None b is = (refl, is)
first-none (Some n) b is = cc

most : (least n m : ℕ) → within least n m ≡ true → m ≤ n
most least n m is = leb-true m n (and_parts (nat_le least m) (nat_le m n) is).1

least : (n m k : ℕ) → within n m k ≡ true → n ≤ k
least n m k is = leb-true n k (and_parts (nat_le n k) (nat_le k m) is).0

clip-least : (b : Bool) → 65000 ≤ cond b 256000 65000
clip-least true = omega arith
clip-least false = omega arith

clip-most : (b : Bool) → cond b 256000 65000 ≤ 256000
clip-most true = omega arith
clip-most false = omega arith

pub setup-fits : (s : Setup) → first_broken s ≡ None → FitDesk (desk_of (sizes_of s))
setup-fits s kept =
    let both = first-none (first_false 1 (rules s)) (first_false 17 (later_rules s)) kept in
    record {
      wide = most 1 8192 s.width (rule-holds 1 (rules s) 1 both.0);
      high = most 1 8192 s.height (rule-holds 1 (rules s) 2 both.0);
      pixels = leb-true (s.width * s.height) 33177600 (rule-holds 1 (rules s) 3 both.0);
      border = most 1 16 s.border (rule-holds 1 (rules s) 4 both.0);
      percent = most 1 90 s.percent (rule-holds 1 (rules s) 7 both.0);
      some_outputs = least 1 8 (length s.outputs) (rule-holds 17 (later_rules s) 0 both.1);
      in_plane = rule-holds 17 (later_rules s) 1 both.1;
      least_clip = clip-least (s.clip == 2);
      most_clip = clip-most (s.clip == 2);
    }

-- what is kept of it is such a desktop
pub kept-fits : (s : Setup) (outputs : List Rect) (limit : ℕ) → first_broken s ≡ None → outputs ≡ s.outputs → limit ≡ clip_limit s.clip
    → FitDesk (record { width = s.width; height = s.height; border = s.border; percent = s.percent; outputs = outputs; clip_limit = limit })
kept-fits s outputs limit kept same held =
    let P : List Rect → Type 0 = λ os. FitDesk (record { width = s.width; height = s.height; border = s.border; percent = s.percent; outputs = os; clip_limit = limit }) in
    let Q : ℕ → Type 0 = λ n. FitDesk (record { width = s.width; height = s.height; border = s.border; percent = s.percent; outputs = s.outputs; clip_limit = n }) in
    subst P (sym same) (subst Q (sym held) (setup-fits s kept))

-- ---- its outputs

all-from : (p : Rect → Bool) (outputs : List Rect) → list_all p outputs ≡ true → All (λ o. p o ≡ true) outputs
all-from p [] e = All-nil (λ o. p o ≡ true)
all-from p (o ∷ outputs) e =
    let parts = and_parts (p o) (list_all p outputs) e in
    All-cons (λ o. p o ≡ true) o outputs parts.0 (all-from p outputs parts.1)

true-le : (a b : ℤ) → int_le a b ≡ true → a ≤ℤ b
true-le a b is = grind (arith, ints)

side-within : (a : ℤ) (n side : ℕ) → pos 0 ≤ℤ a → (a +ℤ pos n) ≤ℤ (pos 0 +ℤ pos side) → n ≤ side
side-within a n side low high = omega (arith, ints)

begins-within : (a : ℤ) (n side : ℕ) → 1 ≤ n → side ≤ 8192 → (a +ℤ pos n) ≤ℤ (pos 0 +ℤ pos side) → a ≤ℤ pos 8191
begins-within a n side some small high = omega (arith, ints)

in-plane : (w h : ℕ) (o : Rect) → w ≤ 8192 → h ≤ 8192 → w * h ≤ 33177600 → is_output w h o ≡ true → FitOutput o
in-plane w h o wide high pixels is =
    let parts = and_parts _ _ is in
    let some = and_parts _ _ parts.0 in
    let edges = and_parts _ _ parts.1 in
    let first = and_parts _ _ edges.0 in
    let last = and_parts _ _ edges.1 in
    let left : pos 0 ≤ℤ o.x = true-le (pos 0) o.x first.0 in
    let top : pos 0 ≤ℤ o.y = true-le (pos 0) o.y first.1 in
    let right : (o.x +ℤ pos o.w) ≤ℤ (pos 0 +ℤ pos w) = true-le (o.x +ℤ pos o.w) (pos 0 +ℤ pos w) last.0 in
    let bottom : (o.y +ℤ pos o.h) ≤ℤ (pos 0 +ℤ pos h) = true-le (o.y +ℤ pos o.h) (pos 0 +ℤ pos h) last.1 in
    let narrow : o.w ≤ w = side-within o.x o.w w left right in
    let low : o.h ≤ h = side-within o.y o.h h top bottom in
    let fewer = mul-le o.w o.h w h narrow low in
    record {
      left = left;
      left_most = begins-within o.x o.w w (leb-true 1 o.w some.0) wide right;
      top = top;
      top_most = begins-within o.y o.h h (leb-true 1 o.h some.1) high bottom;
      width = omega (arith, narrow, wide);
      height = omega (arith, low, high);
      pixels = omega (arith, fewer, pixels);
    }

-- the output of a place is one of the desktop's
pub output-fits : (desk : Desk) (place output : Rect) → FitDesk desk → output_of desk.outputs place ≡ Some output → FitOutput output
output-fits desk place output fit is =
    in-plane desk.width desk.height output fit.wide fit.high fit.pixels
    (output-has (λ o. is_output desk.width desk.height o ≡ true) output desk.outputs place
    (all-from (is_output desk.width desk.height) desk.outputs fit.in_plane) is)

-- ---- a window that was put in one

placed-side : (a : ℤ) (limit : ℕ) (z : ℤ) (size border : ℕ) → pos 0 ≤ℤ a → a ≤ℤ pos 8191 → limit ≤ 8192 → a ≤ℤ (z -ℤ pos border) → ((z -ℤ pos border) +ℤ pos (size + 2 * border)) ≤ℤ (a +ℤ pos limit)
    → (pos 0 ≤ℤ z) × (z ≤ℤ pos 16383)
placed-side a limit z size border low high small first last = (omega (arith, ints), omega (arith, ints))

-- a window that was put in an output, or left where it was, has a place in range
pub placed-place : (output place rect : Rect) (over : Bool) (border : ℕ) → FitOutput output → IsPlace place
    → OnTrue over (lies_in output (grown rect border) ≡ true) → (rect.w ≡ place.w) × (rect.h ≡ place.h) → (over ≡ false → rect ≡ place) → IsPlace rect
placed-place output place rect false border fit is inside size stays = subst IsPlace (sym (stays refl)) is
placed-place output place rect true border fit is inside size stays =
    let edges = and_parts _ _ inside in
    let first = and_parts _ _ edges.0 in
    let last = and_parts _ _ edges.1 in
    let x = placed-side output.x output.w rect.x rect.w border fit.left fit.left_most fit.width (true-le _ _ first.0) (true-le _ _ last.0) in
    let y = placed-side output.y output.h rect.y rect.h border fit.top fit.top_most fit.height (true-le _ _ first.1) (true-le _ _ last.1) in
    let wide = size.0 in
    let high = size.1 in
    record {
      x_low = omega (arith, ints, x.0);
      x_high = omega (arith, ints, x.1);
      y_low = omega (arith, ints, y.0);
      y_high = omega (arith, ints, y.1);
      w_low = omega (arith, is.w_low, wide);
      w_high = omega (arith, is.w_high, wide);
      h_low = omega (arith, is.h_low, high);
      h_high = omega (arith, is.h_high, high);
    }
