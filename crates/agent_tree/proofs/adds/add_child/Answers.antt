use Rattle.std.proofs.Common.{◌≡◌, ◌∙◌, sym, ap, Some, List, slice_get, false}
use Rattle.std.proofs.lemmas.Option.{slice_get-get_or}
use Rattle.agent_tree.specs.declared.boxes.SceneBox.{SceneBox}
use Rattle.agent_tree.specs.Views.{TopView}
use Rattle.agent_tree.specs.Scenes.{is_named, child_added}
use Rattle.agent_tree.specs.Edits.{inserted_at}
use Rattle.agent_tree.specs.Adds.{used}
use Rattle.agent_tree.proofs.AddLemmas.{unused, added-child}
use Rattle.agent_tree.proofs.EditLemmas.{on-ok, set-first}
use Rattle.agent_tree.proofs.adds.add_child.Goals as goal

pub returns-clause-done : goal.returns-clause-done
returns-clause-done c = λ id first.
    let tops : List TopView = c.args.tops.now.items in
    let k = c.args.k in
    let new : SceneBox = c.args.new in
    let t : TopView = c.index_mut-top.result.now in
    let free : used new.id tops ≡ false = ap (used new.id) (sym c.deref.ensures.value) ∙ sym c.if-is_used.ensures in
    let got : slice_get tops k ≡ Some t = slice_get-get_or tops k t first.within ∙ ap Some (sym c.index_mut-top.ensures.value) in
    let one : new ≡ record new { level = 1 } = ap (λ l. let b : SceneBox = record new { level = l } in b) c.requires.level in
    set-first (is_named id) (child_added new) tops k t c.insert.new.self first c.index_mut-top.ensures.value
    (on-ok c.insert.result (sym c.if-is_err.ensures.value) c.insert.ensures.done
    ∙ ap (λ n. inserted_at n new t) c.len-end.ensures ∙ added-child t new new (unused new.id tops k t free got) one)
