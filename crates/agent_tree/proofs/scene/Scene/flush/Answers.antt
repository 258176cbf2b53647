use Rattle.std.proofs.Common.{◌==◌, sym, subst}
use Rattle.std.specs.List.{list_any}
use Rattle.agent_tree.specs.Limits.{IsScene}
use Rattle.agent_tree.proofs.EditLemmas.{flushed-limits}
use Rattle.agent_tree.proofs.scene.Scene.flush.Goals as goal

pub invariant_of-self : goal.invariant_of-self
invariant_of-self c =
    subst IsScene (sym c.clear_all.ensures) (flushed-limits (λ t. list_any (λ s. s == t.id) c.deref.result.now) c.self.inside.tops.items c.self.invariant)
