use Rattle.std.proofs.Common.{◌≡◌, ◌∙◌, sym, ap, subst, Option, Some, None, List, false}
use Rattle.std.specs.List.{list_any}
use Rattle.std.specs.Prelude.{option_and_then, slice_get, IfSome}
use Rattle.agent_tree.specs.Lists.{IsFirst}
use Rattle.agent_tree.specs.Views.{TopView, SceneView}
use Rattle.agent_tree.specs.Scenes.{is_named, top_of, whole}
use Rattle.agent_tree.specs.Frames.{IsPart}
use Rattle.agent_tree.proofs.SceneLemmas.{top-found, top-none}
use Rattle.agent_tree.proofs.scene.Scene.damage.Goals as goal

pub returns-in_default-clause-is : goal.returns-in_default-clause-is
returns-in_default-clause-is c =
    let seen : SceneView = record { tops = c.self.inside.tops.items; shown = c.self.inside.shown.items } in
    subst (λ (s : SceneView). None ≡ option_and_then (λ (t : TopView). slice_get t.damage c.args.k) (top_of s c.args.id)) c.self.view_is
    (sym (ap (option_and_then (λ (t : TopView). slice_get t.damage c.args.k)) (top-none seen c.args.id (subst (λ (ts : List TopView). list_any (is_named c.args.id) ts ≡ false) c.deref.ensures.value c.in_default.ensures.none))))

pub returns-clause-is : goal.returns-clause-is
returns-clause-is c =
    let seen : SceneView = record { tops = c.self.inside.tops.items; shown = c.self.inside.shown.items } in
    let first : IsFirst (is_named c.args.id) seen.tops c.in-Some.at = subst (λ (ts : List TopView). IsFirst (is_named c.args.id) ts c.in-Some.at) c.deref.ensures.value c.in-Some.ensures.found in
    let found : top_of seen c.args.id ≡ Some c.index-top.result.now = top-found seen c.args.id c.in-Some.at c.index-top.result.now first c.index-top.ensures in
    subst (λ (s : SceneView). c.damage.result ≡ option_and_then (λ (t : TopView). slice_get t.damage c.args.k) (top_of s c.args.id)) c.self.view_is
    (c.damage.ensures.is ∙ sym (ap (option_and_then (λ (t : TopView). slice_get t.damage c.args.k)) found))

pub returns-clause-part : goal.returns-clause-part
returns-clause-part c = λ r e.
    let seen : SceneView = record { tops = c.self.inside.tops.items; shown = c.self.inside.shown.items } in
    let first : IsFirst (is_named c.args.id) seen.tops c.in-Some.at = subst (λ (ts : List TopView). IsFirst (is_named c.args.id) ts c.in-Some.at) c.deref.ensures.value c.in-Some.ensures.found in
    let found : top_of seen c.args.id ≡ Some c.index-top.result.now = top-found seen c.args.id c.in-Some.at c.index-top.result.now first c.index-top.ensures in
    subst (λ (s : SceneView). IfSome (top_of s c.args.id) (λ t. IsPart (whole t.place) r)) c.self.view_is
    (subst (λ (o : Option TopView). IfSome o (λ t. IsPart (whole t.place) r)) (sym found) (c.damage.ensures.part r e))
