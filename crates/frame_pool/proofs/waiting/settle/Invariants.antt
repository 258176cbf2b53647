use Rattle.std.proofs.Common.{◌≡◌, ◌≤◌, length, vec_capacity}
use Rattle.desk_laws.specs.Frames.{settled_words, still_waiting}
use Rattle.frame_pool.specs.Regions.{AllLieIn}
use Rattle.frame_pool.proofs.waiting.settle.Given as goal

abbrev pub invariant-loop-at : goal.invariant-loop-at
invariant-loop-at l =
    (settled_words l.glass l.loads l.waiting.items ≡ settled_words l.fn.glass l.loads l.fn.waiting.items)
    × (still_waiting l.loads l.waiting.items ≡ still_waiting l.loads l.fn.waiting.items)
    × AllLieIn (length l.glass) l.waiting.items × (length l.waiting.items ≤ length l.fn.waiting.items)
    × (length l.glass ≡ length l.fn.glass) × (vec_capacity l.waiting ≡ vec_capacity l.fn.waiting)

abbrev pub decreases-loop-at : goal.decreases-loop-at
decreases-loop-at l = length l.waiting.items
