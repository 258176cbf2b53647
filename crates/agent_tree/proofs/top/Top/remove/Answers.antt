use Rattle.std.proofs.Common.{◌≡◌, ◌+◌, ◌<◌, ◌∙◌, sym, ap, subst, List, take, drop, reverse, length, get_or, arith}
use Rattle.agent_tree.specs.declared.boxes.SceneBox.{SceneBox}
use Rattle.agent_tree.specs.Frames.{clip}
use Rattle.agent_tree.specs.Lists.{IsFirst}
use Rattle.agent_tree.specs.Trees.{is_box, outer}
use Rattle.agent_tree.specs.Views.{TopView}
use Rattle.agent_tree.specs.Scenes.{whole, box_removed}
use Rattle.agent_tree.specs.Edits.{IsTop}
use Rattle.agent_tree.proofs.NestLemmas.{cut-kept, removed-is}
use Rattle.agent_tree.proofs.top.Top.remove.Goals as goal

pub invariant_of-self : goal.invariant_of-self
invariant_of-self c =
    let t = c.self.inside in
    let k = c.args.at in
    let old = c.index-old.result.now in
    let bs : List SceneBox = t.boxes.items in
    let e : bs ≡ c.args.self.now.boxes = ap (λ (t : TopView). t.boxes) c.self.view_is in
    let h : k < length bs = subst (λ (xs : List SceneBox). k < length xs) (sym e) c.requires in
    let rest : drop c.end_of-end.result bs ≡ outer (get_or bs k old).level (drop (k + 1) bs) =
    subst (λ (xs : List SceneBox). drop c.end_of-end.result xs ≡ outer old.level (drop (k + 1) xs)) c.deref-2.ensures.value c.end_of-end.ensures.rest
    ∙ ap (λ (b : SceneBox). outer b.level (drop (k + 1) bs)) c.index-old.ensures in
    subst (λ (xs : List SceneBox). IsTop t.place xs c.add_change.new.damage) (sym c.cut.ensures)
    (cut-kept t.place bs t.damage c.add_change.new.damage c.in_ok-before.before k c.end_of-end.result old c.self.invariant h (let o = c.end_of-end.ensures.order in omega arith) rest c.add_change.ensures c.in_ok-before.ensures.part)

pub returns-clause-done : goal.returns-clause-done
returns-clause-done c = λ id first.
    let t = c.self.inside in
    let k = c.args.at in
    let old = c.index-old.result.now in
    let bs : List SceneBox = t.boxes.items in
    let e : bs ≡ c.args.self.now.boxes = ap (λ (t : TopView). t.boxes) c.self.view_is in
    let here : IsFirst (is_box id) bs k = subst (λ (xs : List SceneBox). IsFirst (is_box id) xs k) (sym e) first in
    let rest : drop c.end_of-end.result bs ≡ outer old.level (drop (k + 1) bs) =
    subst (λ (xs : List SceneBox). drop c.end_of-end.result xs ≡ outer old.level (drop (k + 1) xs)) c.deref-2.ensures.value c.end_of-end.ensures.rest in
    let seen : TopView = record { id = t.id; place = t.place; colour = t.colour; boxes = bs; damage = t.damage } in
    let before : c.in_ok-before.before ≡ clip (whole t.place) old (reverse (take k bs)) =
    c.in_ok-before.ensures.clip ∙ ap (λ (xs : List SceneBox). clip (whole t.place) old (reverse (take k xs))) c.deref.ensures.value in
    let new_view : TopView = record seen { boxes = c.cut.new.boxes.items; damage = c.add_change.new.damage } in
    subst (λ (s : TopView). new_view ≡ box_removed id s) c.self.view_is
    (removed-is seen id k c.end_of-end.result old c.cut.new.boxes.items c.add_change.new.damage c.in_ok-before.before here c.index-old.ensures rest c.cut.ensures before c.add_change.ensures)
