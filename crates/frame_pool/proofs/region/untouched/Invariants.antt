use Rattle.std.proofs.Common.{◌≡◌, ◌≤◌, false, replicate, vec_capacity}
use Rattle.frame_pool.proofs.region.untouched.Given as goal

abbrev pub invariant-loop : goal.invariant-loop
invariant-loop l = (l.touched.items ≡ replicate l.counter false) × (l.pages ≤ vec_capacity l.touched)
