use Rattle.std.proofs.Common.{◌≡◌, ◌<◌, ℕ, length, drop}
use Rattle.compositor.specs.Bands.{AreAsWide, will_show}
use Rattle.compositor.proofs.draw.paint_from.Given as goal

-- what is drawn, and what drawing the other panes would give, is what drawing all gives
abbrev pub invariant-loop-k : goal.invariant-loop-k
invariant-loop-k g l = record {
  size : length l.pixels ≡ length l.initial.pixels;
  count : length l.rows ≡ length l.initial.rows;
  widths : AreAsWide l.width l.rows;
  shown : (background j x : ℕ) → j < length l.initial.rows → x < l.width
      → will_show background (drop l.k (g.Q.Panes.panes l.panes)) l.top l.width (record { rows = l.rows; pixels = l.pixels }) j x
      ≡ will_show background (drop l.first (g.Q.Panes.panes l.panes)) l.top l.width (record { rows = l.initial.rows; pixels = l.initial.pixels }) j x;
}
