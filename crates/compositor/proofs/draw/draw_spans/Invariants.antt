use Rattle.std.proofs.Common.{◌≡◌, ◌<◌, ℕ, length, slice_index, if◌then◌else◌, Some}
use Rattle.std.specs.Prelude.{◌&&◌, slice_get}
use Rattle.region_clip.specs.Spans.{in_columns, in_spans}
use Rattle.compositor.specs.Composed.{Pane, pane_colour, at_pixel}
use Rattle.compositor.proofs.DrawLemmas.{AreWithin}
use Rattle.compositor.proofs.draw.draw_spans.Given as goal

-- what is drawn, and what drawing the spans that are left would give, is what drawing all gives
abbrev pub invariant-loop-start : goal.invariant-loop-start
invariant-loop-start g l = record {
  within : AreWithin (length l.initial.row) l.start-iterator;
  drawn : (pane : Pane) → slice_get (g.Q.Panes.panes l.panes) l.k ≡ Some pane → (x : ℕ) → x < length l.initial.row
      → (if in_spans l.start-iterator x && in_columns l.x0 l.x1 x then pane_colour pane (at_pixel x l.y) else slice_index l.row x)
      ≡ (if in_spans l.initial.start-iterator x && in_columns l.x0 l.x1 x then pane_colour pane (at_pixel x l.y) else slice_index l.initial.row x);
}
