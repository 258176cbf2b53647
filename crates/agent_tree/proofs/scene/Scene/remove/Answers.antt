use Rattle.std.proofs.Common.{◌≡◌, ◌∙◌, sym, ap, subst, List, ℕ, refl}
use Rattle.agent_tree.specs.Lists.{IsFirst, without_first}
use Rattle.agent_tree.specs.Views.{TopView, SceneView}
use Rattle.agent_tree.proofs.ListLemmas.{without_first-at, any-first, if-true}
use Rattle.agent_tree.specs.Scenes.{holds, box_removed, is_named, is_top, removed}
use Rattle.agent_tree.proofs.EditLemmas.{after-limits, removed-length}
use Rattle.agent_tree.proofs.scene.Scene.remove.Goals as goal

pub invariant_of-self-2 : goal.invariant_of-self-2
invariant_of-self-2 c = after-limits (holds c.args.id) (box_removed c.args.id) c.self.inside.tops.items c.remove_box.new.tops.items c.remove_box.result (λ t. refl) (removed-length c.args.id) c.self.invariant c.remove_box.ensures.done c.remove_box.ensures.same

pub returns-in-Some-clause-done : goal.returns-in-Some-clause-done
returns-in-Some-clause-done c =
    let id = c.args.id in
    let k = c.in-Some.k in
    let seen : SceneView = record { tops = c.self.inside.tops.items; shown = c.self.inside.shown.items } in
    let first : IsFirst (is_named id) seen.tops k = subst (λ (ts : List TopView). IsFirst (is_named id) ts k) c.deref.ensures.value c.in-Some.ensures.found in
    let new : c.remove.new.self.items ≡ without_first (is_named id) seen.tops = c.remove.ensures.items ∙ sym (without_first-at (is_named id) seen.tops k c.remove.result first) in
    let new_view : SceneView = record { tops = c.remove.new.self.items; shown = c.drop_id.new.ids.items } in
    subst (λ (s : SceneView). new_view ≡ removed id s) c.self.view_is
    (ap (λ ts. let s : SceneView = record { tops = ts; shown = c.drop_id.new.ids.items } in s) new
    ∙ ap (λ (xs : List ℕ). let s : SceneView = record { tops = without_first (is_named id) seen.tops; shown = xs } in s) c.drop_id.ensures
    ∙ sym (if-true _ _ (is_top seen id) (any-first (is_named id) seen.tops k first)))
