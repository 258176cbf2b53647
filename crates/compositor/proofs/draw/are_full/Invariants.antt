use Rattle.std.proofs.Common.{◌≡◌, ◌<◌, ℕ, false}
use Rattle.region_clip.specs.Spans.{in_spans}
use Rattle.compositor.specs.Bands.{spans_at}
use Rattle.compositor.proofs.draw.are_full.Given as goal

abbrev pub invariant-loop-j : goal.invariant-loop-j
invariant-loop-j l = (j x : ℕ) → j < l.j → in_spans (spans_at l.rows j) x ≡ false
