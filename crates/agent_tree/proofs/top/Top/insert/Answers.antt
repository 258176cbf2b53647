use Rattle.std.proofs.Common.{◌≡◌, ◌+◌, ◌<◌, ◌≤◌, sym, ap, subst, List, take, drop, reverse, length}
use Rattle.agent_tree.specs.declared.boxes.SceneBox.{SceneBox}
use Rattle.agent_tree.specs.Paths.{level_of}
use Rattle.agent_tree.specs.Views.{TopView}
use Rattle.agent_tree.specs.Edits.{IsTop}
use Rattle.agent_tree.proofs.NestLemmas.{inserted-kept}
use Rattle.agent_tree.proofs.top.Top.insert.Goals as goal

pub invariant_of-self-2 : goal.invariant_of-self-2
invariant_of-self-2 c =
    let t = c.self.inside in
    let k = c.args.at in
    let new = c.args.new in
    let bs : List SceneBox = t.boxes.items in
    let e : bs ≡ c.args.self.now.boxes = ap (λ (t : TopView). t.boxes) c.self.view_is in
    let room : length bs < 65536 = subst (λ (xs : List SceneBox). length xs < 65536) (sym e) c.requires.room in
    let low : new.level ≤ level_of (reverse (take k bs)) + 1 = subst (λ (xs : List SceneBox). new.level ≤ level_of (reverse (take k xs)) + 1) (sym e) c.requires.before in
    let high : level_of (drop k bs) ≤ new.level + 1 = subst (λ (xs : List SceneBox). level_of (drop k xs) ≤ new.level + 1) (sym e) c.requires.behind in
    subst (λ (xs : List SceneBox). IsTop t.place xs c.add_change.new.damage) (sym c.in_ok-insert.ensures.items)
    (inserted-kept t.place bs t.damage c.add_change.new.damage c.in_ok-after.after k new c.self.invariant room c.requires.sound low high c.add_change.ensures c.in_ok-after.ensures.part)
