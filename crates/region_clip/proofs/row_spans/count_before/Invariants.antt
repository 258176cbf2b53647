use Rattle.std.proofs.Common.{◌≤◌, ◌-◌, length}
use Rattle.region_clip.specs.Spans.{begun_before}
use Rattle.region_clip.proofs.row_spans.count_before.Given as goal

-- the number lies between both ends
abbrev pub invariant-loop-low : goal.invariant-loop-low
invariant-loop-low l = record {
  above : l.low ≤ begun_before l.x l.spans;
  below : begun_before l.x l.spans ≤ l.high;
  within : l.high ≤ length l.spans;
}

abbrev pub decreases-loop-low : goal.decreases-loop-low
decreases-loop-low l = l.high - l.low
