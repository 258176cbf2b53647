use Rattle.std.proofs.Common.{◌≡◌, ◌∙◌, ◌<◌, ◌≤◌, sym, ap, subst, Some, List, slice_get, true, false, refl}
use Rattle.std.specs.List.{list_any}
use Rattle.std.proofs.lemmas.Option.{slice_get-get_or}
use Rattle.std.proofs.lemmas.List.{get_or_default}
use Rattle.agent_tree.specs.Lists.{IsFirst}
use Rattle.agent_tree.specs.Views.{TopView}
use Rattle.agent_tree.specs.Scenes.{holds, box_added, boxes_of}
use Rattle.agent_tree.specs.Adds.{used, level_among}
use Rattle.agent_tree.proofs.ListLemmas.{any-first}
use Rattle.agent_tree.proofs.AddLemmas.{unused, added-inside, refused-exists, refused-boxes, refused-level, refused-not, level-found, deep-enough, not-too-deep}
use Rattle.agent_tree.proofs.EditLemmas.{on-ok, set-first}
use Rattle.agent_tree.proofs.adds.add_inside.Goals as goal
use Rattle.agent_tree.proofs.adds.add_inside.Goals.{then-boxes_in-ge-MOST_BOXES-via-then-boxes_in-ge-MOST_BOXES, then-boxes_in-ge-MOST_BOXES-via-else-boxes_in-ge-MOST_BOXES+then-level-ge-MOST_LEVELS}

pub returns-then-is_used-clause-fault : goal.returns-then-is_used-clause-fault
returns-then-is_used-clause-fault c =
    let tops : List TopView = c.args.tops.now.items in
    let first : IsFirst (holds c.args.parent) tops c.in-Some.k = subst (λ (ts : List TopView). IsFirst (holds c.args.parent) ts c.in-Some.k) c.deref.ensures.value c.in-Some.ensures.found in
    refused-exists c.args.new.id c.args.parent tops (any-first (holds c.args.parent) tops c.in-Some.k first) (ap (used c.args.new.id) (sym c.deref-2.ensures.value) ∙ sym c.if-is_used.ensures)

pub get-level-requires : goal.get-level-requires
get-level-requires c =
    let tops : List TopView = c.args.tops.now.items in
    let t : TopView = c.index-holder.result.now in
    let first : IsFirst (holds c.args.parent) tops c.in-Some.k = subst (λ (ts : List TopView). IsFirst (holds c.args.parent) ts c.in-Some.k) c.deref.ensures.value c.in-Some.ensures.found in
    let got : slice_get tops c.in-Some.k ≡ Some t = slice_get-get_or tops c.in-Some.k t first.within ∙ ap Some (sym c.index-holder.ensures) in
    let inner = c.in-Some.ensures.inside t (ap (λ (ts : List TopView). slice_get ts c.in-Some.k) c.deref.ensures.value ∙ got) in
    inner.within

pub end_of-end-requires : goal.end_of-end-requires
end_of-end-requires c =
    let tops : List TopView = c.args.tops.now.items in
    let t : TopView = c.index_mut-top.result.now in
    let first : IsFirst (holds c.args.parent) tops c.in-Some.k = subst (λ (ts : List TopView). IsFirst (holds c.args.parent) ts c.in-Some.k) c.deref.ensures.value c.in-Some.ensures.found in
    let got : slice_get tops c.in-Some.k ≡ Some t = slice_get-get_or tops c.in-Some.k t first.within ∙ ap Some (sym c.index_mut-top.ensures.value) in
    let inner = c.in-Some.ensures.inside t (ap (λ (ts : List TopView). slice_get ts c.in-Some.k) c.deref.ensures.value ∙ got) in
    inner.within

pub returns-then-boxes_in-ge-MOST_BOXES-clause-fault : goal.returns-then-boxes_in-ge-MOST_BOXES-clause-fault
returns-then-boxes_in-ge-MOST_BOXES-clause-fault c =
    let tops : List TopView = c.args.tops.now.items in
    let k = c.in-Some.k in
    let at = c.in-Some.at in
    let first : IsFirst (holds c.args.parent) tops k = subst (λ (ts : List TopView). IsFirst (holds c.args.parent) ts k) c.deref.ensures.value c.in-Some.ensures.found in
    let some : list_any (holds c.args.parent) tops ≡ true = any-first (holds c.args.parent) tops k first in
    let free : used c.args.new.id tops ≡ false = ap (used c.args.new.id) (sym c.deref-2.ensures.value) ∙ sym c.if-is_used.ensures in
    let holder : TopView = c.index-holder.result.now in
    let held : slice_get tops k ≡ Some holder = slice_get-get_or tops k holder first.within ∙ ap Some (sym c.index-holder.ensures) in
    let in_held = c.in-Some.ensures.inside holder (ap (λ (ts : List TopView). slice_get ts k) c.deref.ensures.value ∙ held) in
    let level : level_among c.args.parent tops ≡ c.get-level.result.level = level-found c.args.parent tops k at holder c.get-level.result first c.index-holder.ensures in_held c.get-level.ensures.is in
    let count : c.boxes_in.result ≡ boxes_of tops = c.boxes_in.ensures ∙ ap boxes_of c.deref-3.ensures.value in
    elim c.then-boxes_in-ge-MOST_BOXES.branch [
      | then-boxes_in-ge-MOST_BOXES-via-then-boxes_in-ge-MOST_BOXES w ↦ refused-boxes c.args.new.id c.args.parent tops some free (subst (λ n. 65536 ≤ n) count w.if-boxes_in-ge-MOST_BOXES.true)
      | then-boxes_in-ge-MOST_BOXES-via-else-boxes_in-ge-MOST_BOXES+then-level-ge-MOST_LEVELS w ↦ refused-level c.args.new.id c.args.parent tops some free (subst (λ n. 64 ≤ n) (sym level) w.if-level-ge-MOST_LEVELS.true)
    ]

pub insert-requires-clause-before : goal.insert-requires-clause-before
insert-requires-clause-before c =
    let tops : List TopView = c.args.tops.now.items in
    let k = c.in-Some.k in
    let at = c.in-Some.at in
    let first : IsFirst (holds c.args.parent) tops k = subst (λ (ts : List TopView). IsFirst (holds c.args.parent) ts k) c.deref.ensures.value c.in-Some.ensures.found in
    let t : TopView = c.index_mut-top.result.now in
    let same : c.index-holder.result.now ≡ t = c.index-holder.ensures ∙ get_or_default tops k c.index-holder.result.now t first.within ∙ sym c.index_mut-top.ensures.value in
    let got_box : slice_get t.boxes at ≡ Some c.get-level.result = ap (λ (t : TopView). slice_get t.boxes at) (sym same) ∙ c.get-level.ensures.is in
    let rest = c.end_of-end.ensures.rest c.get-level.result got_box in
    deep-enough t.boxes at c.end_of-end.result c.get-level.result _ got_box rest refl

pub insert-requires-clause-behind : goal.insert-requires-clause-behind
insert-requires-clause-behind c =
    let tops : List TopView = c.args.tops.now.items in
    let k = c.in-Some.k in
    let at = c.in-Some.at in
    let first : IsFirst (holds c.args.parent) tops k = subst (λ (ts : List TopView). IsFirst (holds c.args.parent) ts k) c.deref.ensures.value c.in-Some.ensures.found in
    let t : TopView = c.index_mut-top.result.now in
    let same : c.index-holder.result.now ≡ t = c.index-holder.ensures ∙ get_or_default tops k c.index-holder.result.now t first.within ∙ sym c.index_mut-top.ensures.value in
    let got_box : slice_get t.boxes at ≡ Some c.get-level.result = ap (λ (t : TopView). slice_get t.boxes at) (sym same) ∙ c.get-level.ensures.is in
    let rest = c.end_of-end.ensures.rest c.get-level.result got_box in
    not-too-deep t.boxes at c.end_of-end.result c.get-level.result _ rest refl

pub returns-clause-done : goal.returns-clause-done
returns-clause-done c =
    let tops : List TopView = c.args.tops.now.items in
    let k = c.in-Some.k in
    let at = c.in-Some.at in
    let first : IsFirst (holds c.args.parent) tops k = subst (λ (ts : List TopView). IsFirst (holds c.args.parent) ts k) c.deref.ensures.value c.in-Some.ensures.found in
    let some : list_any (holds c.args.parent) tops ≡ true = any-first (holds c.args.parent) tops k first in
    let free : used c.args.new.id tops ≡ false = ap (used c.args.new.id) (sym c.deref-2.ensures.value) ∙ sym c.if-is_used.ensures in
    let t : TopView = c.index_mut-top.result.now in
    let same : c.index-holder.result.now ≡ t = c.index-holder.ensures ∙ get_or_default tops k c.index-holder.result.now t first.within ∙ sym c.index_mut-top.ensures.value in
    let got_box : slice_get t.boxes at ≡ Some c.get-level.result = ap (λ (t : TopView). slice_get t.boxes at) (sym same) ∙ c.get-level.ensures.is in
    let rest = c.end_of-end.ensures.rest c.get-level.result got_box in
    let got : slice_get tops k ≡ Some t = slice_get-get_or tops k t first.within ∙ ap Some (sym c.index_mut-top.ensures.value) in
    let inner = c.in-Some.ensures.inside t (ap (λ (ts : List TopView). slice_get ts k) c.deref.ensures.value ∙ got) in
    set-first (holds c.args.parent) (box_added c.args.parent c.args.new) tops k t c.insert.new.self first c.index_mut-top.ensures.value
    (on-ok c.insert.result (sym c.if-is_err.ensures.value) c.insert.ensures.done
    ∙ added-inside t c.args.parent at c.end_of-end.result c.get-level.result c.args.new _ (unused c.args.new.id tops k t free got) inner got_box rest refl)

pub returns-clause-fault : goal.returns-clause-fault
returns-clause-fault c =
    let tops : List TopView = c.args.tops.now.items in
    let k = c.in-Some.k in
    let at = c.in-Some.at in
    let first : IsFirst (holds c.args.parent) tops k = subst (λ (ts : List TopView). IsFirst (holds c.args.parent) ts k) c.deref.ensures.value c.in-Some.ensures.found in
    let some : list_any (holds c.args.parent) tops ≡ true = any-first (holds c.args.parent) tops k first in
    let free : used c.args.new.id tops ≡ false = ap (used c.args.new.id) (sym c.deref-2.ensures.value) ∙ sym c.if-is_used.ensures in
    let holder : TopView = c.index-holder.result.now in
    let held : slice_get tops k ≡ Some holder = slice_get-get_or tops k holder first.within ∙ ap Some (sym c.index-holder.ensures) in
    let in_held = c.in-Some.ensures.inside holder (ap (λ (ts : List TopView). slice_get ts k) c.deref.ensures.value ∙ held) in
    let level : level_among c.args.parent tops ≡ c.get-level.result.level = level-found c.args.parent tops k at holder c.get-level.result first c.index-holder.ensures in_held c.get-level.ensures.is in
    let count : c.boxes_in.result ≡ boxes_of tops = c.boxes_in.ensures ∙ ap boxes_of c.deref-3.ensures.value in
    refused-not c.args.new.id c.args.parent tops some free (subst (λ n. n < 65536) count c.if-boxes_in-ge-MOST_BOXES.false) (subst (λ n. n < 64) (sym level) c.if-level-ge-MOST_LEVELS.false)
