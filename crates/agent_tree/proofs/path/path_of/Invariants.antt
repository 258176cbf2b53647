use Rattle.std.proofs.Common.{◌≡◌, ◌++◌, reverse, take}
use Rattle.agent_tree.specs.Paths.{path}
use Rattle.agent_tree.proofs.path.path_of.Given as goal

-- what was found, and what is still to be found among the boxes that weren't looked at, is the whole path
abbrev pub invariant-loop-k : goal.invariant-loop-k
invariant-loop-k l = l.path.items ++ path l.lowest (reverse (take l.k l.boxes)) ≡ path l.fn.level (reverse (take l.fn.at l.boxes))
