use Rattle.std.proofs.Common.{◌≡◌, ◌∙◌, sym, ap, subst, List, refl, Result, Ok, Err}
use Rattle.std.specs.Prelude.{OnErr}
use Rattle.agent_tree.specs.declared.fault.SceneFault.{SceneFault}
use Rattle.std.proofs.lemmas.Result.{on_ok_weaker}
use Rattle.agent_tree.specs.Lists.{IsFirst}
use Rattle.agent_tree.specs.Views.{TopView, SceneView}
use Rattle.agent_tree.specs.declared.edits.BoxEdit.TheVariants.{Place}
use Rattle.agent_tree.specs.Scenes.{holds, is_named, placed, top_placed, box_placed, Answers, place_fault}
use Rattle.agent_tree.specs.BoxEdits.{box_edited}
use Rattle.agent_tree.proofs.EditLemmas.{after-limits, edited-length, placed-limits}
use Rattle.agent_tree.proofs.SceneLemmas.{edited-top, placed-answers}
use Rattle.agent_tree.proofs.scene.Scene.place.Goals as goal

pub invariant_of-self-2 : goal.invariant_of-self-2
invariant_of-self-2 c = after-limits (holds c.args.id) (box_edited (Place c.args.r) c.args.id) c.self.inside.tops.items c.edit_box.new.tops.items c.edit_box.result (λ t. refl) (edited-length (Place c.args.r) c.args.id) c.self.invariant c.edit_box.ensures.done c.edit_box.ensures.same

pub invariant_of-self : goal.invariant_of-self
invariant_of-self c =
    let id = c.args.id in
    let k = c.in-Some.k in
    let seen : SceneView = record { tops = c.self.inside.tops.items; shown = c.self.inside.shown.items } in
    let first : IsFirst (is_named id) seen.tops k = subst (λ (ts : List TopView). IsFirst (is_named id) ts k) c.deref.ensures.value c.in-Some.ensures.found in
    let r = c.place_top.result in
    let new : List TopView = c.place_top.new.tops.items in
    placed-limits (is_named id) c.args.r seen.tops new r c.self.invariant (on_ok_weaker r (λ d. d id first) c.place_top.ensures.done) c.place_top.ensures.fits c.place_top.ensures.same

pub returns-in-Some-clause-done : goal.returns-in-Some-clause-done
returns-in-Some-clause-done c =
    let id = c.args.id in
    let k = c.in-Some.k in
    let seen : SceneView = record { tops = c.self.inside.tops.items; shown = c.self.inside.shown.items } in
    let first : IsFirst (is_named id) seen.tops k = subst (λ (ts : List TopView). IsFirst (is_named id) ts k) c.deref.ensures.value c.in-Some.ensures.found in
    let r = c.place_top.result in
    let new : List TopView = c.place_top.new.tops.items in
    let new_view : SceneView = record seen { tops = new } in
    on_ok_weaker r (λ d. subst (λ (s : SceneView). new_view ≡ placed id c.args.r s) c.self.view_is
    (ap (λ ts. let s : SceneView = record seen { tops = ts } in s) (d id first) ∙ sym (edited-top seen id k (top_placed c.args.r) (box_placed id c.args.r) first))) c.place_top.ensures.done

pub returns-in-Some-clause-fault : goal.returns-in-Some-clause-fault
returns-in-Some-clause-fault c =
    let id = c.args.id in
    let k = c.in-Some.k in
    let seen : SceneView = record { tops = c.self.inside.tops.items; shown = c.self.inside.shown.items } in
    let first : IsFirst (is_named id) seen.tops k = subst (λ (ts : List TopView). IsFirst (is_named id) ts k) c.deref.ensures.value c.in-Some.ensures.found in
    let r = c.place_top.result in
    let new : List TopView = c.place_top.new.tops.items in
    subst (λ (s : SceneView). Answers r (place_fault id c.args.r s)) c.self.view_is
    (placed-answers seen id k c.args.r new r first (on_ok_weaker r (λ d. d id first) c.place_top.ensures.done) c.place_top.ensures.fits c.place_top.ensures.limit (by_err r (λ d. d id first) c.place_top.ensures.full))
  where
    by_err : {P Q : Type 0} (r : Result (Unit {0}) SceneFault) → (P → Q) → OnErr r P → OnErr r Q
    by_err (Ok x) f p = p
    by_err (Err x) f p = f p
