use Rattle.std.proofs.Common.{◌≡◌, ℕ, ◌<◌, ℤ, pos, ◌+ℤ◌, Bool, true, ◌&&◌, Option, Some, sym, ◌∙◌, ap, arith}
use Rattle.std.specs.Prelude.{int_le, int_lt, nat_lt}
use Rattle.std.proofs.lemmas.Int.{ints}
use Rattle.std.proofs.lemmas.Bool.{and_parts, and_from, lt-ltb, cond-true}
use Rattle.gui_num.specs.declared.Rect.{Rect}
use Rattle.gui_num.specs.declared.Point.{Point}
use Rattle.gui_num.specs.Rects.{has, on_side, right}
use Rattle.label_border.specs.Rings.{has_at, among, columns_of}
use Rattle.label_border.proofs.ring_row.Goals as goal

-- a rectangle with a point reaches the point's row
reached : (r : Rect) (p : Point) (y : ℤ) → has r p ≡ true → p.y ≡ y → on_side r.y r.h y ≡ true
reached r p y h e = ap (on_side r.y r.h) (sym e) ∙ (and_parts (on_side r.x r.w p.x) (on_side r.y r.h p.y) h).1

-- n places from a on that have one are some
some-places : (a p : ℤ) (n : ℕ) → on_side a n p ≡ true → 0 < n
some-places a p n h =
    let parts = and_parts (int_le a p) (int_lt p (a +ℤ pos n)) h in
    positive parts.0 parts.1
  where
    positive : int_le a p ≡ true → int_lt p (a +ℤ pos n) ≡ true → 0 < n
    positive low high = grind (arith, ints)

abbrev columns : ℤ → ℤ → Option (ℤ × ℤ)
columns a b = Some (a, b)

-- a rectangle with a point in a row has the columns of its width there
row-is : (r : Rect) (p : Point) (y a b : ℤ) → has r p ≡ true → p.y ≡ y → a ≡ r.x → b ≡ right r → columns a b ≡ columns_of r y
row-is r p y a b h e first past =
    let some : nat_lt 0 r.w ≡ true = lt-ltb 0 r.w (some-places r.x p.x r.w (and_parts (on_side r.x r.w p.x) (on_side r.y r.h p.y) h).0) in
    let here : (nat_lt 0 r.w && on_side r.y r.h y) ≡ true = and_from _ _ some (reached r p y h e) in
    pair first past ∙ sym (cond-true (nat_lt 0 r.w && on_side r.y r.h y) _ _ here)
  where
    pair : {c d e f : ℤ} → c ≡ e → d ≡ f → columns c d ≡ columns e f
    pair s t = cc

-- in a row that the rectangle reaches it has the columns of its width
row-columns : (r : Rect) (x y a b : ℤ) → on_side r.y r.h y ≡ true → a ≡ r.x → b ≡ right r → has_at r x y ≡ among (a, b) x
row-columns r x y a b here first past =
    ap (λ v. on_side r.x r.w x && v) here ∙ all (on_side r.x r.w x) ∙ cc
  where
    all : (v : Bool) → (v && true) ≡ v
    all v = grind arith

pub returns-clause-is : goal.returns-clause-is
returns-clause-is c =
    row-is c.args.r _ c.args.y _ _ (sym c.has.ensures ∙ c.if-not-has.false) (omega (arith, ints)) (omega (arith, ints)) (omega (arith, ints))

pub returns-clause-columns : goal.returns-clause-columns
returns-clause-columns c = λ x.
    let r = c.args.r in
    row-columns r x c.args.y _ _ (reached r _ c.args.y (sym c.has.ensures ∙ c.if-not-has.false) (omega (arith, ints))) (omega (arith, ints)) (omega (arith, ints))
