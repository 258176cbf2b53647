use Rattle.std.proofs.Common.{◌≡◌, ◌<◌, ◌++◌, ℕ, List, length, drop}
use Rattle.compositor.specs.Bands.{numbered, AreAsWide, will_show}
use Rattle.compositor.specs.Composed.{Pane}
use Rattle.compositor.proofs.draw.paint_listed.Given as goal

-- what is drawn, and what drawing the other panes would give, is what drawing all gives
abbrev pub invariant-loop-k : goal.invariant-loop-k
invariant-loop-k g l = record {
  size : length l.pixels ≡ length l.initial.pixels;
  count : length l.rows ≡ length l.initial.rows;
  widths : AreAsWide l.width l.rows;
  shown : (background : ℕ) (below : List Pane) (j x : ℕ) → j < length l.initial.rows → x < l.width
      → will_show background (numbered (g.Q.Panes.panes l.panes) (drop l.k-index l.listed) ++ below) l.top l.width (record { rows = l.rows; pixels = l.pixels }) j x
      ≡ will_show background (numbered (g.Q.Panes.panes l.panes) l.listed ++ below) l.top l.width (record { rows = l.initial.rows; pixels = l.initial.pixels }) j x;
}
