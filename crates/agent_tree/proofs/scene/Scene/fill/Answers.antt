use Rattle.std.proofs.Common.{◌≡◌, ◌∙◌, sym, ap, subst, List, set, refl}
use Rattle.agent_tree.specs.Lists.{IsFirst, at_first}
use Rattle.agent_tree.specs.declared.edits.BoxEdit.TheVariants.{Fill}
use Rattle.agent_tree.specs.Views.{TopView, SceneView}
use Rattle.agent_tree.specs.Scenes.{is_named, holds, top_filled, box_filled, filled}
use Rattle.agent_tree.specs.BoxEdits.{box_edited}
use Rattle.agent_tree.proofs.EditLemmas.{after-limits, edited-length, set-first}
use Rattle.agent_tree.proofs.SceneLemmas.{edited-top}
use Rattle.agent_tree.proofs.scene.Scene.fill.Goals as goal

pub returns-in-Some-clause-done : goal.returns-in-Some-clause-done
returns-in-Some-clause-done c =
    let id = c.args.id in
    let k = c.in-Some.k in
    let seen : SceneView = record { tops = c.self.inside.tops.items; shown = c.self.inside.shown.items } in
    let first : IsFirst (is_named id) seen.tops k = subst (λ (ts : List TopView). IsFirst (is_named id) ts k) c.deref.ensures.value c.in-Some.ensures.found in
    let new : set seen.tops k c.fill.new.self ≡ at_first (is_named id) (top_filled c.args.c) seen.tops = set-first (is_named id) (top_filled c.args.c) seen.tops k c.index_mut-top.result.now c.fill.new.self first c.index_mut-top.ensures.value c.fill.ensures in
    let new_view : SceneView = record seen { tops = set seen.tops k c.fill.new.self } in
    subst (λ (s : SceneView). new_view ≡ filled id c.args.c s) c.self.view_is
    (ap (λ ts. let s : SceneView = record seen { tops = ts } in s) new ∙ sym (edited-top seen id k (top_filled c.args.c) (box_filled id c.args.c) first))

pub invariant_of-self-2 : goal.invariant_of-self-2
invariant_of-self-2 c = after-limits (holds c.args.id) (box_edited (Fill c.args.c) c.args.id) c.self.inside.tops.items c.edit_box.new.tops.items c.edit_box.result (λ t. refl) (edited-length (Fill c.args.c) c.args.id) c.self.invariant c.edit_box.ensures.done c.edit_box.ensures.same
