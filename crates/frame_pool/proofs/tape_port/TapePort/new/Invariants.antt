use Rattle.std.proofs.Common.{◌≡◌, ◌≤◌, [], replicate, vec_capacity}
use Rattle.frame_pool.proofs.tape_port.TapePort.new.Given as goal

abbrev pub invariant-loop : goal.invariant-loop
invariant-loop l = (l.tapes.items ≡ replicate l.counter []) × (l.guests ≤ vec_capacity l.tapes)
