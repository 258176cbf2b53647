use Rattle.std.proofs.Common.{◌≡◌, ◌<◌, ◌≤◌, ◌*◌, ◌∷◌, ℕ, List, Some, length, slice_get, slice_index}
use Rattle.compositor.specs.Bands.{AreAsWide, spans_at, will_show}
use Rattle.compositor.specs.Composed.{Pane}
use Rattle.compositor.proofs.draw.paint_down.Given as goal

-- the rows above this one are drawn, and the others are as they were
abbrev pub invariant-loop-j : goal.invariant-loop-j
invariant-loop-j g l = record {
  size : length l.pixels ≡ length l.initial.pixels;
  count : length l.rows ≡ length l.initial.rows;
  widths : AreAsWide l.width l.rows;
  above : (pane : Pane) → slice_get (g.Q.Panes.panes l.panes) l.k ≡ Some pane → (background : ℕ) (below : List Pane) (j x : ℕ) → j < l.j → x < l.width
      → will_show background below l.top l.width (record { rows = l.rows; pixels = l.pixels }) j x ≡ will_show background (pane ∷ below) l.top l.width (record { rows = l.initial.rows; pixels = l.initial.pixels }) j x;
  spans : (j : ℕ) → l.j ≤ j → spans_at l.rows j ≡ spans_at l.initial.rows j;
  pixels : (i : ℕ) → l.j * l.width ≤ i → slice_index l.pixels i ≡ slice_index l.initial.pixels i;
}
