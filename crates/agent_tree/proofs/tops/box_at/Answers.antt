use Rattle.std.proofs.Common.{◌∙◌, sym, ap, subst, length, ◌<◌}
use Rattle.std.specs.Prelude.{pos}
use Rattle.std.proofs.lemmas.List.{get_or_default}
use Rattle.std.proofs.lemmas.Option.{get_or_from_slice_get}
use Rattle.agent_tree.specs.declared.boxes.SceneBox.{SceneBox}
use Rattle.agent_tree.specs.Lists.{IsFirst}
use Rattle.agent_tree.specs.Trees.{is_box}
use Rattle.agent_tree.specs.Views.{TopView}
use Rattle.agent_tree.specs.Scenes.{holds}
use Rattle.agent_tree.proofs.ListLemmas.{any-at}
use Rattle.agent_tree.proofs.tops.box_at.Goals as goal

abbrev nothing : SceneBox
nothing = record { id = 0; level = 0; place = record { x = pos 0; y = pos 0; w = 0; h = 0 }; colour = record { 0 = 0 } }

pub returns-in-Some-clause-found : goal.returns-in-Some-clause-found
returns-in-Some-clause-found c =
    let tops = c.args.tops.now in
    let k = c.loop-k.k in
    let t : TopView = c.index-tops-k.result in
    let h : k < length tops = c.loop-k-test.true in
    record {
      within = h;
      none = c.loop-k.invariant;
      here = λ d. ap (holds c.args.id) (get_or_default tops k d t h ∙ sym c.index-tops-k.is) ∙ any-at (is_box c.args.id) t.boxes c.in-Some.at nothing c.in-Some.ensures.found;
    }

pub returns-in-Some-clause-inside : goal.returns-in-Some-clause-inside
returns-in-Some-clause-inside c = λ t e.
    let found : TopView = c.index-tops-k.result in
    subst (λ (s : TopView). IsFirst (is_box c.args.id) s.boxes c.in-Some.at) (c.index-tops-k.is ∙ get_or_from_slice_get c.args.tops.now c.loop-k.k t found e) c.in-Some.ensures.found
