use Rattle.std.proofs.Common.{◌≡◌, ◌<◌, ◌+◌, ℕ, length}
use Rattle.region_clip.specs.Spans.{in_spans}
use Rattle.compositor.specs.Bands.{AreAsWide, spans_at}
use Rattle.compositor.specs.Composed.{is_in, at_pixel}
use Rattle.compositor.proofs.outputs.reset_rows.Given as goal

abbrev pub invariant-loop-j : goal.invariant-loop-j
invariant-loop-j l = record {
  count : length l.rows ≡ length l.initial.rows;
  widths : AreAsWide l.width l.rows;
  columns : (j x : ℕ) → j < l.j → x < l.width → in_spans (spans_at l.rows j) x ≡ is_in l.outputs (at_pixel x (l.top + j));
}
