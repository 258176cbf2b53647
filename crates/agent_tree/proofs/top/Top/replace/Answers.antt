use Rattle.std.proofs.Common.{◌≡◌, ◌<◌, ◌∙◌, sym, ap, subst, Some, List, get_or, take, reverse, set, length, slice_get}
use Rattle.std.proofs.lemmas.Option.{slice_get-get_or}
use Rattle.agent_tree.specs.declared.boxes.SceneBox.{SceneBox}
use Rattle.agent_tree.specs.Frames.{clip}
use Rattle.agent_tree.specs.Views.{TopView}
use Rattle.agent_tree.specs.Scenes.{whole}
use Rattle.agent_tree.specs.Edits.{clip_at, replaced_at}
use Rattle.agent_tree.proofs.NestLemmas.{clip_at-is, changed-is, replaced-kept}
use Rattle.agent_tree.proofs.top.Top.replace.Goals as goal

pub invariant_of-self : goal.invariant_of-self
invariant_of-self c =
    let t = c.self.inside in
    let k = c.args.at in
    let new = c.args.new in
    let bs : List SceneBox = t.boxes.items in
    let e : bs ≡ c.args.self.now.boxes = ap (λ (t : TopView). t.boxes) c.self.view_is in
    let h : k < length bs = subst (λ (xs : List SceneBox). k < length xs) (sym e) c.requires.at in
    let l : new.level ≡ (get_or bs k new).level = subst (λ (xs : List SceneBox). new.level ≡ (get_or xs k new).level) (sym e) c.requires.level in
    replaced-kept t.place bs t.damage c.add_change.new.damage c.in_ok-before.before c.in_ok-before.after k new c.self.invariant h c.requires.sound l
    c.add_change.ensures c.in_ok-before.ensures.before_part c.in_ok-before.ensures.after_part

pub returns-clause-done : goal.returns-clause-done
returns-clause-done c =
    let t = c.self.inside in
    let k = c.args.at in
    let new = c.args.new in
    let bs : List SceneBox = t.boxes.items in
    let e : bs ≡ c.args.self.now.boxes = ap (λ (t : TopView). t.boxes) c.self.view_is in
    let h : k < length bs = subst (λ (xs : List SceneBox). k < length xs) (sym e) c.requires.at in
    let old = c.index-old.result.now in
    let got : slice_get bs k ≡ Some old = slice_get-get_or bs k old h ∙ ap Some (sym c.index-old.ensures) in
    let seen : TopView = record { id = t.id; place = t.place; colour = t.colour; boxes = bs; damage = t.damage } in
    let before : c.in_ok-before.before ≡ clip_at (whole t.place) bs k =
    c.in_ok-before.ensures.before ∙ ap (λ (xs : List SceneBox). clip (whole t.place) old (reverse (take k xs))) c.deref.ensures.value ∙ sym (clip_at-is (whole t.place) bs k old got) in
    let after : c.in_ok-before.after ≡ clip (whole t.place) new (reverse (take k bs)) =
    c.in_ok-before.ensures.after ∙ ap (λ (xs : List SceneBox). clip (whole t.place) new (reverse (take k xs))) c.deref.ensures.value in
    let new_view : TopView = record seen { boxes = set bs k new; damage = c.add_change.new.damage } in
    subst (λ (s : TopView). new_view ≡ replaced_at k new s) c.self.view_is
    (changed-is seen (set bs k new) c.add_change.new.damage c.in_ok-before.before c.in_ok-before.after _ _ c.add_change.ensures before after)
