use Rattle.std.proofs.Common.{◌≡◌, ◌∙◌, sym, ap, subst, List, set, ℕ}
use Rattle.agent_tree.specs.Lists.{IsFirst, at_first}
use Rattle.agent_tree.specs.Views.{TopView, SceneView}
use Rattle.agent_tree.specs.Scenes.{is_named, spoilt, showed}
use Rattle.agent_tree.proofs.EditLemmas.{on-ok, set-first}
use Rattle.agent_tree.proofs.scene.Scene.show.Goals as goal

pub returns-clause-done : goal.returns-clause-done
returns-clause-done c =
    let id = c.args.id in
    let k = c.in-Some.k in
    let seen : SceneView = record { tops = c.self.inside.tops.items; shown = c.self.inside.shown.items } in
    let first : IsFirst (is_named id) seen.tops k = subst (λ (ts : List TopView). IsFirst (is_named id) ts k) c.deref.ensures.value c.in-Some.ensures.found in
    let new : set seen.tops k c.spoil.new.self ≡ at_first (is_named id) spoilt seen.tops = set-first (is_named id) spoilt seen.tops k c.index_mut-top.result.now c.spoil.new.self first c.index_mut-top.ensures.value c.spoil.ensures in
    let ids = on-ok c.put_id.result (sym c.if-is_err.ensures.value) c.put_id.ensures.done in
    let new_view : SceneView = record { tops = set seen.tops k c.spoil.new.self; shown = c.put_id.new.ids.items } in
    subst (λ (s : SceneView). new_view ≡ showed id s) c.self.view_is
    (ap (λ ts. let s : SceneView = record { tops = ts; shown = c.put_id.new.ids.items } in s) new ∙ ap (λ (xs : List ℕ). let s : SceneView = record { tops = at_first (is_named id) spoilt seen.tops; shown = xs } in s) ids)
