use Rattle.std.proofs.Common.{◌≡◌, ◌∙◌, sym, ap, subst, List, refl}
use Rattle.std.proofs.lemmas.Result.{on_ok_weaker}
use Rattle.agent_tree.specs.declared.boxes.SceneBox.{SceneBox}
use Rattle.agent_tree.specs.Lists.{IsFirst}
use Rattle.agent_tree.specs.Views.{TopView, SceneView}
use Rattle.agent_tree.specs.Scenes.{holds, is_named, added, child_added, box_added, Answers, add_fault}
use Rattle.agent_tree.proofs.ListLemmas.{any-first}
use Rattle.agent_tree.proofs.SceneLemmas.{edited-top}
use Rattle.agent_tree.proofs.RoomLemmas.{added-limits, child-length, inside-length, child-room, inside-room, child-fault}
use Rattle.agent_tree.proofs.scene.Scene.add.Goals as goal

pub invariant_of-self : goal.invariant_of-self
invariant_of-self c =
    let parent = c.args.parent in
    let k = c.in-Some.k in
    let tops : List TopView = c.self.inside.tops.items in
    let first : IsFirst (is_named parent) tops k = subst (λ (ts : List TopView). IsFirst (is_named parent) ts k) c.deref.ensures.value c.in-Some.ensures.found in
    let new : SceneBox = record { id = c.args.id; level = 1; place = c.args.r; colour = c.args.c } in
    let r = c.add_child.result in
    added-limits (is_named parent) (child_added new) tops c.add_child.new.tops.items r (λ t. refl) (child-length new) c.self.invariant
    (on_ok_weaker r (λ d. d parent first) c.add_child.ensures.done) (child-room r c.args.id tops c.add_child.ensures.fault) c.add_child.ensures.same

pub invariant_of-self-2 : goal.invariant_of-self-2
invariant_of-self-2 c =
    let parent = c.args.parent in
    let tops : List TopView = c.self.inside.tops.items in
    let new : SceneBox = record { id = c.args.id; level = 1; place = c.args.r; colour = c.args.c } in
    let r = c.add_inside.result in
    added-limits (holds parent) (box_added parent new) tops c.add_inside.new.tops.items r (λ t. refl) (inside-length parent new) c.self.invariant
    c.add_inside.ensures.done (inside-room r c.args.id parent tops c.add_inside.ensures.fault) c.add_inside.ensures.same

pub returns-in-Some-clause-done : goal.returns-in-Some-clause-done
returns-in-Some-clause-done c =
    let parent = c.args.parent in
    let k = c.in-Some.k in
    let seen : SceneView = record { tops = c.self.inside.tops.items; shown = c.self.inside.shown.items } in
    let first : IsFirst (is_named parent) seen.tops k = subst (λ (ts : List TopView). IsFirst (is_named parent) ts k) c.deref.ensures.value c.in-Some.ensures.found in
    let new : SceneBox = record { id = c.args.id; level = 0; place = c.args.r; colour = c.args.c } in
    let r = c.add_child.result in
    let after : List TopView = c.add_child.new.tops.items in
    let new_view : SceneView = record seen { tops = after } in
    on_ok_weaker r (λ d. subst (λ (s : SceneView). new_view ≡ added c.args.id parent c.args.r c.args.c s) c.self.view_is
    (ap (λ ts. let s : SceneView = record seen { tops = ts } in s) (d parent first) ∙ sym (edited-top seen parent k (child_added new) (box_added parent new) first))) c.add_child.ensures.done

pub returns-in-Some-clause-fault : goal.returns-in-Some-clause-fault
returns-in-Some-clause-fault c =
    let id = c.args.id in
    let parent = c.args.parent in
    let k = c.in-Some.k in
    let seen : SceneView = record { tops = c.self.inside.tops.items; shown = c.self.inside.shown.items } in
    let first : IsFirst (is_named parent) seen.tops k = subst (λ (ts : List TopView). IsFirst (is_named parent) ts k) c.deref.ensures.value c.in-Some.ensures.found in
    let r = c.add_child.result in
    subst (λ (s : SceneView). Answers r (add_fault id parent s)) c.self.view_is
    (subst (Answers r) (child-fault seen id parent (any-first (is_named parent) seen.tops k first)) c.add_child.ensures.fault)
