use Rattle.std.proofs.Common.{◌≡◌, ◌∙◌, sym, ap, subst, Option, Some, None, List, false, nat_lt, if◌then◌else◌}
use Rattle.std.specs.List.{list_any}
use Rattle.std.specs.Prelude.{option_and_then, ◌&&◌, pos}
use Rattle.gui_num.specs.declared.Colour.{Colour}
use Rattle.agent_tree.specs.Lists.{IsFirst}
use Rattle.agent_tree.specs.Views.{TopView, SceneView}
use Rattle.agent_tree.specs.Scenes.{is_named, top_of, colour_of, pixel}
use Rattle.agent_tree.proofs.SceneLemmas.{top-found, top-none}
use Rattle.agent_tree.proofs.scene.Scene.colour_at.Goals as goal

pub returns-in_default : goal.returns-in_default
returns-in_default c =
    let seen : SceneView = record { tops = c.self.inside.tops.items; shown = c.self.inside.shown.items } in
    let g : TopView → Option Colour = λ t. if nat_lt c.args.x t.place.w && nat_lt c.args.y t.place.h then Some (colour_of t (record { x = pos c.args.x; y = pos c.args.y })) else None in
    subst (λ (s : SceneView). None ≡ pixel s c.args.id c.args.x c.args.y) c.self.view_is
    (sym (ap (option_and_then g) (top-none seen c.args.id (subst (λ (ts : List TopView). list_any (is_named c.args.id) ts ≡ false) c.deref.ensures.value c.in_default.ensures.none))))

pub returns : goal.returns
returns c =
    let seen : SceneView = record { tops = c.self.inside.tops.items; shown = c.self.inside.shown.items } in
    let g : TopView → Option Colour = λ t. if nat_lt c.args.x t.place.w && nat_lt c.args.y t.place.h then Some (colour_of t (record { x = pos c.args.x; y = pos c.args.y })) else None in
    let first : IsFirst (is_named c.args.id) seen.tops c.in-Some.k = subst (λ (ts : List TopView). IsFirst (is_named c.args.id) ts c.in-Some.k) c.deref.ensures.value c.in-Some.ensures.found in
    let found : top_of seen c.args.id ≡ Some c.index-top.result.now = top-found seen c.args.id c.in-Some.k c.index-top.result.now first c.index-top.ensures in
    subst (λ (s : SceneView). c.colour_at.result ≡ pixel s c.args.id c.args.x c.args.y) c.self.view_is
    (c.colour_at.ensures ∙ sym (ap (option_and_then g) found))
