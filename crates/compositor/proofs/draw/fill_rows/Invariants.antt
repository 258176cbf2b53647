use Rattle.std.proofs.Common.{◌≡◌, ◌<◌, ◌≤◌, ◌+◌, ◌*◌, ℕ, length, slice_index, if◌then◌else◌}
use Rattle.region_clip.specs.Spans.{in_spans}
use Rattle.compositor.specs.Bands.{spans_at}
use Rattle.compositor.proofs.draw.fill_rows.Given as goal

-- the rows above this one are filled, and the others are as they were
abbrev pub invariant-loop-j : goal.invariant-loop-j
invariant-loop-j l = record {
  size : length l.pixels ≡ length l.initial.pixels;
  above : (j x : ℕ) → j < l.j → x < l.width → slice_index l.pixels (j * l.width + x) ≡ (if in_spans (spans_at l.rows j) x then l.colour else slice_index l.initial.pixels (j * l.width + x));
  pixels : (i : ℕ) → l.j * l.width ≤ i → slice_index l.pixels i ≡ slice_index l.initial.pixels i;
}
