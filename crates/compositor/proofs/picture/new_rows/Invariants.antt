use Rattle.std.proofs.Common.{◌≤◌, ◌-◌, vec_len, vec_capacity}
use Rattle.compositor.specs.Bands.{AreAsWide}
use Rattle.compositor.proofs.picture.new_rows.Given as goal

abbrev pub invariant-loop-alloc : goal.invariant-loop-alloc
invariant-loop-alloc l = record {
  room : 16 ≤ vec_capacity l.rows;
  few : vec_len l.rows ≤ 16;
  widths : AreAsWide l.width l.rows.items;
}

abbrev pub decreases-loop-alloc : goal.decreases-loop-alloc
decreases-loop-alloc l = 16 - vec_len l.rows
