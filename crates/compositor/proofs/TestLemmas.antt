-- Facts of the panes that the tests draw.
use Rattle.std.proofs.Common.{◌≡◌, ℕ, zero, suc, ◌+◌, Bool, true, Some, refl, ap, arith}
use Rattle.std.specs.Prelude.{◌&&◌, slice_get, ℤ, pos, ◌-ℤ◌}
use Rattle.std.proofs.lemmas.Bool.{and_parts}
use Rattle.std.proofs.lemmas.Int.{ints}
use Rattle.gui_num.specs.declared.Point.{Point}
use Rattle.gui_num.specs.declared.Rect.{Rect}
use Rattle.gui_num.specs.Rects.{on_side, has, grown}
use Rattle.compositor.specs.Composed.{Pane}
use Rattle.compositor.specs.TestPanes.{ringed, filled, shown_panes}

side-in : (a : ℤ) (n : ℕ) (p : ℤ) → on_side a n p ≡ true → on_side (a -ℤ pos 1) (n + 2) p ≡ true
side-in a n p t = grind (arith, ints, t)

both : (a b : Bool) → a ≡ true → b ≡ true → (a && b) ≡ true
both a b s t = cc

-- a content lies in the rectangle with its border
pub content-inside : (content : Rect) (p : Point) → has content p ≡ true → has (grown content 1) p ≡ true
content-inside content p t =
    let parts = and_parts (on_side content.x content.w p.x) (on_side content.y content.h p.y) t in
    both _ _ (side-in content.x content.w p.x parts.0) (side-in content.y content.h p.y parts.1)

-- the last of the panes
abbrev last_pane : Pane
last_pane = record { view = ringed (record { x = pos 1; y = pos 1; w = 3; h = 2 }) 0xff0000; content = filled 0xffffff }

-- it has one colour
pub last-content : (k : ℕ) (pane : Pane) (x y : ℕ) → (k ≡ 0 → ⊥) → (k ≡ 1 → ⊥) → slice_get shown_panes k ≡ Some pane
    → Some (record { 0 = 0xffffff }) ≡ pane.content x y
last-content zero pane x y a b e = absurd (a refl)
last-content (suc zero) pane x y a b e = absurd (b refl)
last-content (suc (suc zero)) pane x y a b e =
    let same : last_pane ≡ pane = cc in ap (λ (q : Pane). q.content x y) same
last-content (suc (suc (suc k))) pane x y a b e = cc
