use Rattle.std.proofs.Common.{◌≡◌, ◌∙◌, sym, ap, subst, Some, None, List, false}
use Rattle.std.specs.List.{list_any}
use Rattle.std.specs.Prelude.{option_map}
use Rattle.agent_tree.specs.Lists.{IsFirst}
use Rattle.agent_tree.specs.Views.{TopView, SceneView}
use Rattle.agent_tree.specs.Scenes.{is_named, top_of}
use Rattle.agent_tree.proofs.SceneLemmas.{top-found, top-none}
use Rattle.agent_tree.proofs.scene.Scene.window.Goals as goal

pub returns-in_default-clause-is : goal.returns-in_default-clause-is
returns-in_default-clause-is c =
    let seen : SceneView = record { tops = c.self.inside.tops.items; shown = c.self.inside.shown.items } in
    subst (λ (s : SceneView). None ≡ option_map (λ (t : TopView). t.place) (top_of s c.args.id)) c.self.view_is
    (sym (ap (option_map (λ (t : TopView). t.place)) (top-none seen c.args.id (subst (λ (ts : List TopView). list_any (is_named c.args.id) ts ≡ false) c.deref.ensures.value c.in_default.ensures.none))))

pub returns-clause-is : goal.returns-clause-is
returns-clause-is c =
    let seen : SceneView = record { tops = c.self.inside.tops.items; shown = c.self.inside.shown.items } in
    let first : IsFirst (is_named c.args.id) seen.tops c.in-Some.k = subst (λ (ts : List TopView). IsFirst (is_named c.args.id) ts c.in-Some.k) c.deref.ensures.value c.in-Some.ensures.found in
    let found : top_of seen c.args.id ≡ Some c.index-top.result.now = top-found seen c.args.id c.in-Some.k c.index-top.result.now first c.index-top.ensures in
    subst (λ (s : SceneView). Some c.place.result ≡ option_map (λ (t : TopView). t.place) (top_of s c.args.id)) c.self.view_is
    (ap Some c.place.ensures.is ∙ sym (ap (option_map (λ (t : TopView). t.place)) found))
