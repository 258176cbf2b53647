use Rattle.std.proofs.Common.{◌<◌}
use Rattle.window_table.proofs.MoveLemmas.{MovedSoFar}
use Rattle.window_table.proofs.ref_lists.move_after.Given as goal

abbrev pub invariant-loop-k : goal.invariant-loop-k
invariant-loop-k l = MovedSoFar l.fn.places.items l.places.items l.slot l.taken l.given l.k × (l.slot < l.k)
