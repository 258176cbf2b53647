use Rattle.std.proofs.Common.{◌≡◌, ◌<◌, ◌≤◌, ◌+◌, ◌*◌, ◌-◌, ℕ, length, slice_index}
use Rattle.compositor.specs.Bands.{AreAsWide}
use Rattle.compositor.specs.Composed.{shown_at, at_pixel}
use Rattle.compositor.proofs.picture.paint_rows.Given as goal

-- the bands above are drawn, and those below are as they were
abbrev pub invariant-loop-top : goal.invariant-loop-top
invariant-loop-top g l = record {
  count : length l.rows ≡ 16;
  widths : AreAsWide l.width l.rows;
  size : length l.pixels ≡ l.height * l.width;
  within : l.top ≤ l.height;
  drawn : (x y : ℕ) → x < l.width → y < l.top → slice_index l.pixels (y * l.width + x) ≡ shown_at l.background (g.Q.Panes.panes l.panes) l.outputs (at_pixel x y);
  below : (i : ℕ) → l.top * l.width ≤ i → slice_index l.pixels i ≡ slice_index l.initial.pixels i;
}

abbrev pub decreases-loop-top : goal.decreases-loop-top
decreases-loop-top g l = l.height - l.top
