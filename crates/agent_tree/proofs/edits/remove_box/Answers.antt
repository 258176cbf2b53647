use Rattle.std.proofs.Common.{◌≡◌, ◌∙◌, sym, ap, subst, Some, List, slice_get}
use Rattle.std.proofs.lemmas.Option.{slice_get-get_or}
use Rattle.agent_tree.specs.Lists.{IsFirst}
use Rattle.agent_tree.specs.Views.{TopView}
use Rattle.agent_tree.specs.Scenes.{holds, box_removed}
use Rattle.agent_tree.proofs.EditLemmas.{on-ok, set-first}
use Rattle.agent_tree.proofs.edits.remove_box.Goals as goal

pub returns-clause-done : goal.returns-clause-done
returns-clause-done c =
    let tops : List TopView = c.args.tops.now.items in
    let id = c.args.id in
    let k = c.in-Some.k in
    let t : TopView = c.index_mut-top.result.now in
    let same = c.deref.ensures.value in
    let first : IsFirst (holds id) tops k = subst (λ (ts : List TopView). IsFirst (holds id) ts k) same c.in-Some.ensures.found in
    let got : slice_get tops k ≡ Some t = slice_get-get_or tops k t first.within ∙ ap Some (sym c.index_mut-top.ensures.value) in
    let inner = c.in-Some.ensures.inside t (ap (λ (ts : List TopView). slice_get ts k) same ∙ got) in
    set-first (holds id) (box_removed id) tops k t c.remove.new.self first c.index_mut-top.ensures.value
    (on-ok c.remove.result (sym c.if-is_err.ensures.value) c.remove.ensures.done id inner)
