use Rattle.std.proofs.Common.{◌≡◌, ℕ, ◌+◌, List, [], ◌∷◌, ◌++◌, length, take, slice_index, Err, sym, ◌∙◌, arith, length-take}
use Rattle.io_ports.specs.declared.feed.RecordKind.{RecordKind}
use Rattle.io_ports.specs.declared.feed.RecordKind.TheVariants as kinds
use Rattle.record_format.specs.RecordGrammar.{item_at}
use Rattle.record_format.proofs.ItemAtLemmas.{kind_short, kind_unknown, fields_short}
use Rattle.replay_driver.proofs.ItemLemmas.{took_these, missing_first, missing_on, wrong_on, filled_on, one_byte, front_taken}
use Rattle.replay_driver.proofs.replay_feed.read_front.Goals as goal

-- what is known where there is no item, of whatever guests and pages
abbrev NoItem : List ℕ → RecordKind → Type 0
NoItem bs kind = (guests pages : ℕ) → item_at guests pages bs ≡ Err kind

pub returns-in-Err-clause-finds : goal.returns-in-Err-clause-finds
returns-in-Err-clause-finds g c = λ bytes told.
    missing_first NoItem c.args.at c.in-Err.part c.no_item.result c.fill_whole.new.room bytes _ c.no_item.ensures
    (λ xs short guests pages. kind_short guests pages xs (omega arith)) (c.in-Err.ensures.fills bytes told)

pub returns-in-None-clause-finds : goal.returns-in-None-clause-finds
returns-in-None-clause-finds g c = λ bytes told.
    let room = c.fill_whole.new.room in
    let kind = slice_index room 0 in
    let first = took_these bytes room (kind ∷ []) _ (one_byte room (omega arith)) (c.in-Ok.ensures.fills bytes told) in
    wrong_on NoItem c.args.at kinds.Kind c.bad.result (kind ∷ []) bytes _ c.bad.ensures
    (λ tail guests pages. kind_unknown guests pages kind tail (sym c.fixed_len.ensures.table ∙ c.in-None.is)) first

pub returns-in-Ok-fill_whole-clause-finds : goal.returns-in-Ok-fill_whole-clause-finds
returns-in-Ok-fill_whole-clause-finds g c = λ bytes told.
    let kind = c.fill_whole.new.room in
    let fields = c.fill_whole-2.new.room in
    let n = c.in-Some.n in
    let first = c.in-Ok.ensures.fills bytes told in
    let one : length kind ≡ 1 = omega arith in
    let size : length fields ≡ n = omega (arith, c.in-Some.ensures.small, length-take {A = ℕ}) in
    took_these bytes (kind ++ fields) (take (1 + n) c.front_of.result) _ (front_taken n kind fields _ c.front_of.result one size c.front_of.ensures)
    (filled_on bytes kind fields _ _ first (c.in-Ok-fill_whole.ensures.fills first.rest first.is_left))

pub returns-in-Err-fill_whole-clause-finds : goal.returns-in-Err-fill_whole-clause-finds
returns-in-Err-fill_whole-clause-finds g c = λ bytes told.
    let room = c.fill_whole.new.room in
    let kind = slice_index room 0 in
    let n = c.in-Some.n in
    let first = took_these bytes room (kind ∷ []) _ (one_byte room (omega arith)) (c.in-Ok.ensures.fills bytes told) in
    let size : length c.fill_whole-2.new.room ≡ n = omega (arith, c.in-Some.ensures.small, length-take {A = ℕ}) in
    missing_on NoItem c.args.at c.in-Err-fill_whole.part c.no_item-in-Err-fill_whole.result (kind ∷ []) c.fill_whole-2.new.room bytes _ _ first c.no_item-in-Err-fill_whole.ensures
    (λ xs short guests pages. fields_short guests pages kind n xs (sym c.fixed_len.ensures.table ∙ c.in-Some.is) (omega (arith, short, size))) (c.in-Err-fill_whole.ensures.fills first.rest first.is_left)
