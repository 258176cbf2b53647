-- The points of the parts that a cut leaves.
use Rattle.std.proofs.Common.{◌≡◌, ℕ, ◌+◌, Bool, true, false, List, [], ◌∷◌, ◌++◌, refl, sym, ◌∙◌, ap, arith, if◌then◌else◌}
use Rattle.std.specs.Prelude.{◌&&◌, ℤ, pos, negsuc, ◌+ℤ◌, ◌-ℤ◌, ◌≤ℤ◌, ◌<ℤ◌, int_le, int_lt}
use Rattle.std.specs.Int.{int_max, int_min}
use Rattle.std.specs.List.{All}
use Rattle.std.proofs.lemmas.List.Elements.{All-nil, All-cons, All-append}
use Rattle.std.proofs.lemmas.Int.{ints, clamps}
use Rattle.gui_num.specs.declared.Rect.{Rect}
use Rattle.gui_num.specs.declared.Point.{Point}
use Rattle.gui_num.specs.Rects.{has, right, bottom, nat_of, size_between, spanned, on_side}
use Rattle.region_clip.specs.RectCuts.{meets, part, parts, cut_by, IsNear, bit, holders}

-- whether q lies from a on and before b
abbrev within : ℤ → ℤ → ℤ → Bool
within a b q = int_le a q && int_lt q b

nat_of-is : (z : ℤ) → pos 0 ≤ℤ z → pos (nat_of z) ≡ z
nat_of-is z h = elim z as (λ v. pos 0 ≤ℤ v → pos (nat_of v) ≡ v) [ pos n ↦ λ _. refl | negsuc n ↦ λ k. absurd (omega (arith, ints)) ] h

on_side-between : (a b q : ℤ) → int_lt a b ≡ true → on_side a (size_between a b) q ≡ within a b q
on_side-between a b q h =
    let e : a +ℤ pos (size_between a b) ≡ b = let i : pos (size_between a b) ≡ b -ℤ a = nat_of-is (b -ℤ a) (grind (arith, ints)) in omega (arith, ints) in
    ap (λ z. int_le a q && int_lt q z) e

-- a part has the points between its corners
part-holders : (x0 y0 x1 y1 : ℤ) (q : Point) → holders (part x0 y0 x1 y1) q ≡ bit (within x0 x1 q.x && within y0 y1 q.y)
part-holders x0 y0 x1 y1 q = by_open (int_lt x0 x1) (int_lt y0 y1) refl refl
  where
    by_open : (a b : Bool) → int_lt x0 x1 ≡ a → int_lt y0 y1 ≡ b → holders (if a && b then spanned x0 y0 x1 y1 ∷ [] else []) q ≡ bit (within x0 x1 q.x && within y0 y1 q.y)
    by_open true true f g = let e = on_side-between x0 x1 q.x f in let k = on_side-between y0 y1 q.y g in grind (arith, e, k)
    by_open true false f g = grind (arith, ints)
    by_open false b f g = grind (arith, ints)

-- a side p, cut by a side h: what is before h, in h and behind it
side : (a b c d q : ℤ) → int_lt a d ≡ true → int_lt c b ≡ true → c ≤ℤ d →
    bit (within a c q) + bit (within a b q && within c d q) + bit (within d b q) ≡ bit (within a b q)
side a b c d q f g h = grind (arith, ints)

middle : (a b c d q : ℤ) → within (int_max a c) (int_min b d) q ≡ (within a b q && within c d q)
middle a b c d q = grind (arith, ints, clamps)

bits : (lx mx ux px ly my uy py : Bool) → bit lx + bit (px && mx) + bit ux ≡ bit px → bit ly + bit (py && my) + bit uy ≡ bit py
    → bit (px && ly) + (bit (px && uy) + (bit (lx && (py && my)) + bit (ux && (py && my)))) ≡ (if mx && my then 0 else bit (px && py))
bits lx mx ux px ly my uy py e f = grind arith

pub append-holders : (xs ys : List Rect) (q : Point) → holders (xs ++ ys) q ≡ holders xs q + holders ys q
append-holders [] ys q = omega arith
append-holders (x ∷ xs) ys q = omega (arith, append-holders xs ys q)

four-holders : (a b c d : List Rect) (q : Point) → holders (a ++ (b ++ (c ++ d))) q ≡ holders a q + (holders b q + (holders c q + holders d q))
four-holders a b c d q = omega (arith, append-holders a (b ++ (c ++ d)) q, append-holders b (c ++ d) q, append-holders c d q)

both : (a b : Bool) → (a && b) ≡ true → (a ≡ true) × (b ≡ true)
both true true e = (refl, refl)
both true false e = cc
both false b e = cc

open-side : (a b c d : ℤ) → int_lt (int_max a c) (int_min b d) ≡ true → (int_lt a d ≡ true) × (int_lt c b ≡ true)
open-side a b c d e = (grind (arith, ints, clamps), grind (arith, ints, clamps))

shut : (a b q : ℤ) → int_lt a b ≡ false → within a b q ≡ false
shut a b q e = grind (arith, ints)

shut-side : (a b c d q : ℤ) → int_lt (int_max a c) (int_min b d) ≡ false → (within a b q && within c d q) ≡ false
shut-side a b c d q e = sym (middle a b c d q) ∙ shut (int_max a c) (int_min b d) q e

-- the parts of a piece p have the points of p that the cut h hasn't, each one once
parts-holders : (h p : Rect) (q : Point) → meets p h ≡ true → holders (parts h p) q ≡ (if has h q then 0 else bit (has p q))
parts-holders h p q m =
    let m2 = both (int_lt (int_max p.x h.x) (int_min (right p) (right h))) (int_lt (int_max p.y h.y) (int_min (bottom p) (bottom h))) m in
    let mx = open-side p.x (right p) h.x (right h) m2.0 in
    let my = open-side p.y (bottom p) h.y (bottom h) m2.1 in
    let x = side p.x (right p) h.x (right h) q.x mx.0 mx.1 (omega (arith, ints)) in
    let y = side p.y (bottom p) h.y (bottom h) q.y my.0 my.1 (omega (arith, ints)) in
    four-holders _ _ _ _ q
    ∙ plus4 (part-holders p.x p.y (right p) h.y q)
    (part-holders p.x (bottom h) (right p) (bottom p) q)
    (part-holders p.x (int_max p.y h.y) h.x (int_min (bottom p) (bottom h)) q ∙ ap (λ b. bit (within p.x h.x q.x && b)) (middle p.y (bottom p) h.y (bottom h) q.y))
    (part-holders (right h) (int_max p.y h.y) (right p) (int_min (bottom p) (bottom h)) q ∙ ap (λ b. bit (within (right h) (right p) q.x && b)) (middle p.y (bottom p) h.y (bottom h) q.y))
    ∙ bits _ _ _ _ _ _ _ _ x y
  where
    plus4 : {a b c d e f g i : ℕ} → a ≡ e → b ≡ f → c ≡ g → d ≡ i → a + (b + (c + d)) ≡ e + (f + (g + i))
    plus4 s t u v = cc

disjoint-here : (h p : Rect) (q : Point) → meets p h ≡ false → bit (has p q) + 0 ≡ (if has h q then 0 else bit (has p q))
disjoint-here h p q m = four (within h.x (right h) q.x) (within p.x (right p) q.x) (within h.y (bottom h) q.y) (within p.y (bottom p) q.y) (shut-side p.x (right p) h.x (right h) q.x) (shut-side p.y (bottom p) h.y (bottom h) q.y)
    (int_lt (int_max p.x h.x) (int_min (right p) (right h))) (int_lt (int_max p.y h.y) (int_min (bottom p) (bottom h))) refl refl m
  where
    four : (hx px hy py : Bool) → (int_lt (int_max p.x h.x) (int_min (right p) (right h)) ≡ false → (px && hx) ≡ false) → (int_lt (int_max p.y h.y) (int_min (bottom p) (bottom h)) ≡ false → (py && hy) ≡ false)
        → (a b : Bool) → int_lt (int_max p.x h.x) (int_min (right p) (right h)) ≡ a → int_lt (int_max p.y h.y) (int_min (bottom p) (bottom h)) ≡ b → (a && b) ≡ false
        → bit (px && py) + 0 ≡ (if hx && hy then 0 else bit (px && py))
    four hx px hy py f g true true e k n = cc
    four hx px hy py f g true false e k n = let z = g k in grind (arith, z)
    four hx px hy py f g false b e k n = let z = f e in grind (arith, z)

pub cut-holders : (h p : Rect) (q : Point) → holders (cut_by h p) q ≡ (if has h q then 0 else bit (has p q))
cut-holders h p q = by_meets (meets p h) refl
  where
    by_meets : (b : Bool) → meets p h ≡ b → holders (if b then parts h p else p ∷ []) q ≡ (if has h q then 0 else bit (has p q))
    by_meets true m = parts-holders h p q m
    by_meets false m = disjoint-here h p q m

-- ---- the parts lie near

record InBounds (x0 y0 x1 y1 : ℤ) : Type 0 where
  x_low : negsuc 65535 ≤ℤ x0
  y_low : negsuc 65535 ≤ℤ y0
  x_high : x1 ≤ℤ pos 98304
  y_high : y1 ≤ℤ pos 98304

near-part : (x0 y0 x1 y1 : ℤ) → InBounds x0 y0 x1 y1 → All IsNear (part x0 y0 x1 y1)
near-part x0 y0 x1 y1 b = by_open (int_lt x0 x1) (int_lt y0 y1) refl refl
  where
    end : (x0 x1 : ℤ) → int_lt x0 x1 ≡ true → x0 +ℤ pos (size_between x0 x1) ≡ x1
    end x0 x1 h = let i : pos (size_between x0 x1) ≡ x1 -ℤ x0 = nat_of-is (x1 -ℤ x0) (grind (arith, ints)) in omega (arith, ints)

    by_open : (f g : Bool) → int_lt x0 x1 ≡ f → int_lt y0 y1 ≡ g → All IsNear (if f && g then spanned x0 y0 x1 y1 ∷ [] else [])
    by_open true true f g = All-cons IsNear (spanned x0 y0 x1 y1) [] (record { x_low = b.x_low; y_low = b.y_low; x_high = rw (end x0 x1 f) b.x_high; y_high = rw (end y0 y1 g) b.y_high }) (All-nil IsNear)
    by_open true false f g = All-nil IsNear
    by_open false g f k = All-nil IsNear

pub near-cut_by : (h p : Rect) → IsNear h → IsNear p → All IsNear (cut_by h p)
near-cut_by h p n m = by_meets (meets p h) refl
  where
    by_meets : (b : Bool) → meets p h ≡ b → All IsNear (if b then parts h p else p ∷ [])
    by_meets false e = All-cons IsNear p [] m (All-nil IsNear)
    by_meets true e =
        let s = both (int_lt (int_max p.x h.x) (int_min (right p) (right h))) (int_lt (int_max p.y h.y) (int_min (bottom p) (bottom h))) e in
        let mx = open-side p.x (right p) h.x (right h) s.0 in
        let my = open-side p.y (bottom p) h.y (bottom h) s.1 in
        let x : p.x <ℤ right h = grind (arith, ints) in
        let y : p.y <ℤ bottom h = grind (arith, ints) in
        let x' : h.x <ℤ right p = grind (arith, ints) in
        let y' : h.y <ℤ bottom p = grind (arith, ints) in
        All-append IsNear _ _ (near-part p.x p.y (right p) h.y (record { x_low = m.x_low; y_low = m.y_low; x_high = m.x_high; y_high = omega (arith, ints) }))
        (All-append IsNear _ _ (near-part p.x (bottom h) (right p) (bottom p) (record { x_low = m.x_low; y_low = omega (arith, ints); x_high = m.x_high; y_high = m.y_high }))
        (All-append IsNear _ _ (near-part p.x (int_max p.y h.y) h.x (int_min (bottom p) (bottom h)) (record { x_low = m.x_low; y_low = omega (arith, ints, clamps); x_high = omega (arith, ints); y_high = omega (arith, ints, clamps) }))
        (near-part (right h) (int_max p.y h.y) (right p) (int_min (bottom p) (bottom h)) (record { x_low = omega (arith, ints); y_low = omega (arith, ints, clamps); x_high = m.x_high; y_high = omega (arith, ints, clamps) }))))
