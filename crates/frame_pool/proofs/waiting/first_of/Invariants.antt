use Rattle.std.proofs.Common.{ℕ, ◌<◌, ◌≤◌, length}
use Rattle.frame_pool.specs.Regions.{due_at}
use Rattle.frame_pool.proofs.waiting.first_of.Given as goal

abbrev pub invariant-loop-k : goal.invariant-loop-k
invariant-loop-k l =
    (l.first < length l.waiting) × ((j : ℕ) → j < l.k → due_at l.waiting l.first ≤ due_at l.waiting j)
    × ((j : ℕ) → j < l.first → due_at l.waiting l.first < due_at l.waiting j)
