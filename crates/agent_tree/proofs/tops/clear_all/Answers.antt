use Rattle.std.proofs.Common.{◌==◌, if◌then◌else◌, arith}
use Rattle.std.specs.List.{list_any}
use Rattle.agent_tree.specs.Views.{TopView}
use Rattle.agent_tree.specs.Scenes.{undamaged}
use Rattle.agent_tree.proofs.ListLemmas.{mapped-on}
use Rattle.agent_tree.proofs.tops.clear_all.Goals as goal

pub loop-k-preserved : goal.loop-k-preserved
loop-k-preserved c =
    mapped-on (λ (t : TopView). if list_any (λ s. s == t.id) c.args.shown.now then undamaged t else t) c.args.tops.now.items c.loop-k.tops.items c.clear_shown.new.tops.items c.loop-k.k (omega (arith, c.loop-k-test.true, c.len-k-end.ensures, c.args.tops.now.ok)) c.loop-k.invariant (λ t is. c.clear_shown.ensures t is)
