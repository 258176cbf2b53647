use Rattle.std.proofs.Common.{sym}
use Rattle.agent_tree.specs.Scenes.{holds}
use Rattle.agent_tree.proofs.ListLemmas.{any-first}
use Rattle.agent_tree.proofs.tops.is_held.Goals as goal

pub returns-in-Some : goal.returns-in-Some
returns-in-Some c = sym (any-first (holds c.args.id) c.args.tops.now _ c.in-Some.ensures.found)
