use Rattle.std.proofs.Common.{◌≡◌, ◌<◌, ◌≤◌, ℕ, drop}
use Rattle.compositor.specs.Composed.{is_in, at_pixel}
use Rattle.compositor.proofs.outputs.gap_end.Given as goal

-- the outputs before this one have none of the columns before the end
abbrev pub invariant-loop-output : goal.invariant-loop-output
invariant-loop-output l = record {
  past : l.x < l.end;
  within : l.end ≤ l.width;
  hidden : (k : ℕ) → l.x ≤ k → k < l.end → is_in l.outputs (at_pixel k l.y) ≡ is_in (drop l.output-index l.outputs) (at_pixel k l.y);
}
