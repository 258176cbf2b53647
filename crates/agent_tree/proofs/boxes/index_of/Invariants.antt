use Rattle.std.proofs.Common.{◌≡◌, false, take}
use Rattle.agent_tree.specs.Trees.{has_box}
use Rattle.agent_tree.proofs.boxes.index_of.Given as goal

abbrev pub invariant-loop-k : goal.invariant-loop-k
invariant-loop-k l = has_box l.id (take l.k l.boxes) ≡ false
