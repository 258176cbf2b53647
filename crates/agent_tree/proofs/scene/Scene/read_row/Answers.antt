use Rattle.std.proofs.Common.{◌≡◌, ◌∙◌, ◌+◌, ◌<◌, ◌≤◌, ℕ, true, false, sym, ap, subst, List, Option, Some, None, get_or, length, nat_lt, arith, if◌then◌else◌}
use Rattle.std.specs.Prelude.{option_and_then, ◌&&◌, pos}
use Rattle.std.specs.List.{list_any}
use Rattle.std.specs.Option.{MatchOption}
use Rattle.std.proofs.lemmas.Bool.Decides.{nat_tests}
use Rattle.gui_num.specs.declared.Colour.{Colour}
use Rattle.agent_tree.specs.Lists.{IsFirst}
use Rattle.agent_tree.specs.Views.{TopView, SceneView}
use Rattle.agent_tree.specs.Scenes.{is_named, top_of, colour_of, pixel, HasRow}
use Rattle.agent_tree.proofs.ListLemmas.{if-true}
use Rattle.agent_tree.proofs.SceneLemmas.{top-found, top-none}
use Rattle.agent_tree.proofs.scene.Scene.read_row.Goals as goal

inside : (a b w h : ℕ) → a < w → b < h → (nat_lt a w && nat_lt b h) ≡ true
inside a b w h e f = grind (arith, nat_tests)

pub read_row-requires : goal.read_row-requires
read_row-requires c =
    let seen : SceneView = record { tops = c.self.inside.tops.items; shown = c.self.inside.shown.items } in
    let first : IsFirst (is_named c.args.id) seen.tops c.in-Some.k = subst (λ (ts : List TopView). IsFirst (is_named c.args.id) ts c.in-Some.k) c.deref.ensures.value c.in-Some.ensures.found in
    let found : top_of seen c.args.id ≡ Some c.index-top.result.now = top-found seen c.args.id c.in-Some.k c.index-top.result.now first c.index-top.ensures in
    let row : HasRow seen c.args.id c.args.x c.args.y (length c.args.room.now) = subst (λ (s : SceneView). HasRow s c.args.id c.args.x c.args.y (length c.args.room.now)) (sym c.self.view_is) c.requires in
    (subst (λ (o : Option TopView). MatchOption o ⊥ (λ t. (c.args.x + length c.args.room.now ≤ t.place.w) × (c.args.y < t.place.h))) found row).0

pub returns-in-Some : goal.returns-in-Some
returns-in-Some c = λ k h.
    let seen : SceneView = record { tops = c.self.inside.tops.items; shown = c.self.inside.shown.items } in
    let t : TopView = c.index-top.result.now in
    let first : IsFirst (is_named c.args.id) seen.tops c.in-Some.k = subst (λ (ts : List TopView). IsFirst (is_named c.args.id) ts c.in-Some.k) c.deref.ensures.value c.in-Some.ensures.found in
    let found : top_of seen c.args.id ≡ Some t = top-found seen c.args.id c.in-Some.k t first c.index-top.ensures in
    let row : HasRow seen c.args.id c.args.x c.args.y (length c.args.room.now) = subst (λ (s : SceneView). HasRow s c.args.id c.args.x c.args.y (length c.args.room.now)) (sym c.self.view_is) c.requires in
    let fits = subst (λ (o : Option TopView). MatchOption o ⊥ (λ t. (c.args.x + length c.args.room.now ≤ t.place.w) × (c.args.y < t.place.h))) found row in
    let wide : c.args.x + k < t.place.w = let f = fits.0 in omega arith in
    let high : c.args.y < t.place.h = fits.1 in
    let here : k < length c.read_row.new.room = omega arith in
    let g : TopView → Option Colour = λ t. if nat_lt (c.args.x + k) t.place.w && nat_lt c.args.y t.place.h then Some (colour_of t (record { x = pos (c.args.x + k); y = pos c.args.y })) else None in
    subst (λ (s : SceneView). pixel s c.args.id (c.args.x + k) c.args.y ≡ Some (record { 0 = get_or c.read_row.new.room k 0 })) c.self.view_is
    (ap (option_and_then g) found ∙ if-true _ _ (nat_lt (c.args.x + k) t.place.w && nat_lt c.args.y t.place.h) (inside (c.args.x + k) c.args.y t.place.w t.place.h wide high)
    ∙ ap (λ n. let q : Colour = record { 0 = n } in Some q) (sym (c.read_row.ensures k here)))

pub returns-in_default : goal.returns-in_default
returns-in_default c = λ k h.
    let seen : SceneView = record { tops = c.self.inside.tops.items; shown = c.self.inside.shown.items } in
    let none : top_of seen c.args.id ≡ None = top-none seen c.args.id (subst (λ (ts : List TopView). list_any (is_named c.args.id) ts ≡ false) c.deref.ensures.value c.in_default.ensures.none) in
    let row : HasRow seen c.args.id c.args.x c.args.y (length c.args.room.now) = subst (λ (s : SceneView). HasRow s c.args.id c.args.x c.args.y (length c.args.room.now)) (sym c.self.view_is) c.requires in
    absurd (subst (λ (o : Option TopView). MatchOption o ⊥ (λ t. (c.args.x + length c.args.room.now ≤ t.place.w) × (c.args.y < t.place.h))) none row)
