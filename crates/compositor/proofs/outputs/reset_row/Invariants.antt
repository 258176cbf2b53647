use Rattle.std.proofs.Common.{◌≡◌, ◌<◌, ◌≤◌, ◌-◌, ℕ, true}
use Rattle.region_clip.specs.Spans.{in_spans}
use Rattle.compositor.specs.Composed.{is_in, at_pixel}
use Rattle.compositor.proofs.outputs.reset_row.Given as goal

-- of the columns before this one those are left that outputs have, and of the others all
abbrev pub invariant-loop-x : goal.invariant-loop-x
invariant-loop-x l = record {
  width : l.row.width ≡ l.width;
  swept : (k : ℕ) → k < l.x → k < l.width → in_spans l.row.spans k ≡ is_in l.outputs (at_pixel k l.y);
  ahead : (k : ℕ) → l.x ≤ k → k < l.width → in_spans l.row.spans k ≡ true;
}

abbrev pub decreases-loop-x : goal.decreases-loop-x
decreases-loop-x l = l.width - l.x
