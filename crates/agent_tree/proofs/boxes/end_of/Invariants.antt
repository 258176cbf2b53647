use Rattle.std.proofs.Common.{◌≡◌, ◌+◌, drop}
use Rattle.agent_tree.specs.Trees.{outer}
use Rattle.agent_tree.proofs.boxes.end_of.Given as goal

abbrev pub invariant-loop-k : goal.invariant-loop-k
invariant-loop-k l = outer l.level (drop l.k l.boxes) ≡ outer l.level (drop (l.fn.at + 1) l.boxes)
