use Rattle.std.proofs.Common.{◌≡◌, false, take}
use Rattle.std.specs.List.{list_any}
use Rattle.agent_tree.specs.Scenes.{is_named}
use Rattle.agent_tree.proofs.tops.top_at.Given as goal

abbrev pub invariant-loop-k : goal.invariant-loop-k
invariant-loop-k l = list_any (is_named l.id) (take l.k l.tops) ≡ false
