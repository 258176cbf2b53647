use Rattle.std.proofs.Common.{◌≡◌, ◌<◌, ◌+◌, ℕ, slice_index, Some}
use Rattle.std.specs.Prelude.{slice_get}
use Rattle.compositor.specs.Composed.{Pane, colour_or}
use Rattle.compositor.proofs.panes.Panes.content_row.Given as goal

-- the columns before this one are written
abbrev pub invariant-loop-i : goal.invariant-loop-i
invariant-loop-i g l =
    (pane : Pane) → slice_get (g.Self.Panes.panes l.self) l.k ≡ Some pane → (i : ℕ) → i < l.i → slice_index l.out i ≡ colour_or l.blank.0 (pane.content (l.x + i) l.y)
