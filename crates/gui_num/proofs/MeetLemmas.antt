-- The points that two rectangles have in common.
use Rattle.std.proofs.Common.{◌≡◌, ◌<◌, Bool, true, false, ◌&&◌, ℤ, pos, negsuc, ◌+ℤ◌, ◌-ℤ◌, ◌≤ℤ◌, Option, Some, None, MatchOption, IfSome, refl, sym, ◌∙◌, ap, arith}
use Rattle.std.specs.Prelude.{int_le, int_lt, if◌then◌else◌}
use Rattle.std.specs.Int.{int_max, int_min}
use Rattle.std.proofs.lemmas.Int.{ints, clamps}
use Rattle.gui_num.specs.declared.Rect.{Rect}
use Rattle.gui_num.specs.declared.Point.{Point}
use Rattle.gui_num.specs.Rects.{has, right, bottom, on_side, nat_of, size_between, spanned, between, common}

-- whether q lies from a on and before b
abbrev within : ℤ → ℤ → ℤ → Bool
within a b q = int_le a q && int_lt q b

nat_of-is : (z : ℤ) → pos 0 ≤ℤ z → pos (nat_of z) ≡ z
nat_of-is z h = elim z as (λ v. pos 0 ≤ℤ v → pos (nat_of v) ≡ v) [ pos n ↦ λ _. refl | negsuc n ↦ λ k. absurd (omega (arith, ints)) ] h

size-end : (a b : ℤ) → int_lt a b ≡ true → a +ℤ pos (size_between a b) ≡ b
size-end a b h = let i : pos (size_between a b) ≡ b -ℤ a = nat_of-is (b -ℤ a) (grind (arith, ints)) in omega (arith, ints)

size-some : (a b : ℤ) → int_lt a b ≡ true → 0 < size_between a b
size-some a b h = let i : pos (size_between a b) ≡ b -ℤ a = nat_of-is (b -ℤ a) (grind (arith, ints)) in grind (arith, ints)

on_side-between : (a b q : ℤ) → int_lt a b ≡ true → on_side a (size_between a b) q ≡ within a b q
on_side-between a b q h = ap (λ z. int_le a q && int_lt q z) (size-end a b h)

middle : (a b c d q : ℤ) → within (int_max a c) (int_min b d) q ≡ (within a b q && within c d q)
middle a b c d q = grind (arith, ints, clamps)

shut : (a b q : ℤ) → int_lt a b ≡ false → within a b q ≡ false
shut a b q e = grind (arith, ints)

-- the sides of two rectangles, sorted by direction
crossed : (a b c d : Bool) → ((a && b) && (c && d)) ≡ ((a && c) && (b && d))
crossed a b c d = grind arith

-- the points between the corners of the common part
common-within : (a b : Rect) (p : Point)
    → (within (int_max a.x b.x) (int_min (right a) (right b)) p.x && within (int_max a.y b.y) (int_min (bottom a) (bottom b)) p.y) ≡ (has a p && has b p)
common-within a b p =
    ap (λ v. v && within (int_max a.y b.y) (int_min (bottom a) (bottom b)) p.y) (middle a.x (right a) b.x (right b) p.x)
    ∙ ap (λ v. (within a.x (right a) p.x && within b.x (right b) p.x) && v) (middle a.y (bottom a) b.y (bottom b) p.y)
    ∙ crossed (within a.x (right a) p.x) (within b.x (right b) p.x) (within a.y (bottom a) p.y) (within b.y (bottom b) p.y)

-- the rectangle between two corners has the points between them
between-points : (x0 y0 x1 y1 : ℤ)
    → MatchOption (between x0 y0 x1 y1) ((p : Point) → (within x0 x1 p.x && within y0 y1 p.y) ≡ false) (λ r. (p : Point) → has r p ≡ (within x0 x1 p.x && within y0 y1 p.y))
between-points x0 y0 x1 y1 = by_open (int_lt x0 x1) (int_lt y0 y1) refl refl
  where
    by_open : (f g : Bool) → int_lt x0 x1 ≡ f → int_lt y0 y1 ≡ g
        → MatchOption (if f && g then Some (spanned x0 y0 x1 y1) else None) ((p : Point) → (within x0 x1 p.x && within y0 y1 p.y) ≡ false) (λ r. (p : Point) → has r p ≡ (within x0 x1 p.x && within y0 y1 p.y))
    by_open true true e k = λ p. let s = on_side-between x0 x1 p.x e in let t = on_side-between y0 y1 p.y k in cc
    by_open true false e k = λ p. let s = shut y0 y1 p.y k in grind (arith, s)
    by_open false g e k = λ p. let s = shut x0 x1 p.x e in grind (arith, s)

-- facts on no point and on the rectangle, by way of the points between two corners
on_points : (r : Option Rect) (t u : Point → Bool) → ((p : Point) → t p ≡ u p)
    → MatchOption r ((p : Point) → t p ≡ false) (λ s. (p : Point) → has s p ≡ t p)
    → MatchOption r ((p : Point) → u p ≡ false) (λ s. (p : Point) → has s p ≡ u p)
on_points None t u e h = λ p. sym (e p) ∙ h p
on_points (Some s) t u e h = λ p. h p ∙ e p

pub common-points : (a b : Rect)
    → MatchOption (common a b) ((p : Point) → (has a p && has b p) ≡ false) (λ r. (p : Point) → has r p ≡ (has a p && has b p))
common-points a b =
    on_points (common a b) (λ p. within (int_max a.x b.x) (int_min (right a) (right b)) p.x && within (int_max a.y b.y) (int_min (bottom a) (bottom b)) p.y) (λ p. has a p && has b p)
    (common-within a b)
    (between-points (int_max a.x b.x) (int_max a.y b.y) (int_min (right a) (right b)) (int_min (bottom a) (bottom b)))

pub between-size : (x0 y0 x1 y1 : ℤ) → IfSome (between x0 y0 x1 y1) (λ r. (0 < r.w) × (0 < r.h))
between-size x0 y0 x1 y1 = by_open (int_lt x0 x1) (int_lt y0 y1) refl refl
  where
    by_open : (f g : Bool) → int_lt x0 x1 ≡ f → int_lt y0 y1 ≡ g → IfSome (if f && g then Some (spanned x0 y0 x1 y1) else None) (λ r. (0 < r.w) × (0 < r.h))
    by_open true true e k = (size-some x0 x1 e, size-some y0 y1 k)
    by_open true false e k = tt
    by_open false g e k = tt
