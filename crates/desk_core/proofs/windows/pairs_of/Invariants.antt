use Rattle.std.proofs.Common.{◌≡◌, ◌≤◌, length, take, vec_capacity}
use Rattle.desk_core.proofs.windows.pairs_of.Given as goal

abbrev pub invariant-loop-pair : goal.invariant-loop-pair
invariant-loop-pair l = (l.pairs.items ≡ take l.pair-index l.denied) × (length l.denied ≤ vec_capacity l.pairs)
