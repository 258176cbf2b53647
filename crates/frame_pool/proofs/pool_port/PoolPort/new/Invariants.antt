use Rattle.std.proofs.Common.{◌≡◌, ◌≤◌, replicate, vec_capacity}
use Rattle.frame_pool.specs.Ports.{fresh}
use Rattle.frame_pool.proofs.pool_port.PoolPort.new.Given as goal

abbrev pub invariant-loop : goal.invariant-loop
invariant-loop l =
    (l.frames.items ≡ replicate l.counter (record { pages = l.pages; state = fresh l.pages })) × (l.guests ≤ vec_capacity l.frames)
