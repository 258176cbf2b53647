use Rattle.std.proofs.Common.{◌≡◌, ℕ, ◌+◌, List, ◌++◌, Err, length, take, drop, sym, ◌∙◌, ap, subst, arith, length-take}
use Rattle.io_ports.specs.declared.feed.RecordKind.{RecordKind}
use Rattle.io_ports.specs.declared.feed.RecordKind.TheVariants as kinds
use Rattle.record_format.specs.ItemSpellings.{fed_spelling}
use Rattle.record_format.specs.RecordGrammar.{item_at}
use Rattle.record_format.proofs.ItemAtLemmas.{piece_short}
use Rattle.record_format.proofs.ReaderLemmas.{front_is}
use Rattle.replay_driver.specs.ItemParts.{Spell}
use Rattle.replay_driver.proofs.ItemLemmas.{took_map, none_here, missing_on, wrong_on, filled_on, fields_read, item_spells, item_size, part_failed}
use Rattle.io_ports.proofs.CountLemmas.{rose_late}
use Rattle.replay_driver.proofs.replay_feed.read_item.Goals as goal

-- what is known where there is no item
abbrev NoItem : ℕ → ℕ → List ℕ → RecordKind → Type 0
NoItem guests pages bs kind = item_at guests pages bs ≡ Err kind

pub returns-in-Err-clause-finds : goal.returns-in-Err-clause-finds
returns-in-Err-clause-finds g c = λ bytes told.
    none_here c.args.guests c.args.pages c.args.at c.in-Err.fault bytes _ (c.in-Err.ensures.finds bytes told)

pub returns-in-None-clause-finds : goal.returns-in-None-clause-finds
returns-in-None-clause-finds g c = λ bytes told.
    let front = c.in-Ok.found.0 in
    let n = c.in-Ok.found.1 in
    wrong_on (NoItem c.args.guests c.args.pages) c.args.at kinds.Range c.bad.result (take (1 + n) front) bytes _ c.bad.ensures
    (fields_read c.args.guests c.args.pages n front _ c.in-Ok.ensures.front c.in-None.ensures.reads) (c.in-Ok.ensures.finds bytes told)

pub returns-in-Ok-fill_whole-clause-finds : goal.returns-in-Ok-fill_whole-clause-finds
returns-in-Ok-fill_whole-clause-finds g c = λ bytes told.
    let front = c.in-Ok.found.0 in
    let n = c.in-Ok.found.1 in
    let item = c.in-Some.found.0 in
    let len = c.in-Some.found.1 in
    let room = c.fill_whole.new.room in
    let first = c.in-Ok.ensures.finds bytes told in
    let size : length room ≡ len = omega (arith, c.in-Some.ensures.small, length-take {A = ℕ}) in
    let spells = item_spells c.args.guests c.args.pages n (omega arith) front room item len c.in-Ok.ensures.front c.in-Some.ensures.spelled size in
    let put = take len (room ++ drop len c.args.room.now) in
    let same : put ≡ room = front_is len room (drop len c.args.room.now) size in
    took_map bytes (take (1 + n) front ++ room) _ (Spell c.args.guests c.args.pages (record { item = item; piece = put }))
    (filled_on bytes (take (1 + n) front) room _ _ first (c.in-Ok-fill_whole.ensures.fills first.rest first.is_left))
    (subst (λ (l : List ℕ). Spell c.args.guests c.args.pages (record { item = item; piece = l }) (take (1 + n) front ++ room)) (sym same) spells)

pub returns-in-Ok-fill_whole-clause-size : goal.returns-in-Ok-fill_whole-clause-size
returns-in-Ok-fill_whole-clause-size g c =
    let front = c.in-Ok.found.0 in
    let n = c.in-Ok.found.1 in
    let item = c.in-Some.found.0 in
    let len = c.in-Some.found.1 in
    let room = c.fill_whole.new.room in
    let size : length room ≡ len = omega (arith, c.in-Some.ensures.small, length-take {A = ℕ}) in
    item_size c.args.guests c.args.pages n front room item len c.in-Ok.ensures.front c.in-Some.ensures.spelled size
    ∙ ap (λ (l : List ℕ). length (fed_spelling (record { item = item; piece = l }))) (sym (front_is len room (drop len c.args.room.now) size))

pub returns-in-Err-fill_whole-clause-finds : goal.returns-in-Err-fill_whole-clause-finds
returns-in-Err-fill_whole-clause-finds g c = λ bytes told.
    let front = c.in-Ok.found.0 in
    let n = c.in-Ok.found.1 in
    let item = c.in-Some.found.0 in
    let len = c.in-Some.found.1 in
    let room = c.fill_whole.new.room in
    let first = c.in-Ok.ensures.finds bytes told in
    let size : length room ≡ len = omega (arith, c.in-Some.ensures.small, length-take {A = ℕ}) in
    missing_on (NoItem c.args.guests c.args.pages) c.args.at c.in-Err-fill_whole.part c.no_item.result (take (1 + n) front) room bytes _ _ first c.no_item.ensures
    (λ xs short. fields_read c.args.guests c.args.pages n front _ c.in-Ok.ensures.front c.in-Some.ensures.reads xs
    ∙ piece_short (1 + n) xs item len (omega (arith, short, size)))
    (c.in-Err-fill_whole.ensures.fills first.rest first.is_left)

pub returns-in-Err-fill_whole-clause-keeps : goal.returns-in-Err-fill_whole-clause-keeps
returns-in-Err-fill_whole-clause-keeps g c = g.met.S.Source.keeps_on _ _ _ c.in-Ok.ensures.keeps c.in-Err-fill_whole.ensures.keeps

pub returns-in-Err-fill_whole-clause-failed : goal.returns-in-Err-fill_whole-clause-failed
returns-in-Err-fill_whole-clause-failed g c = λ is.
    rose_late _ _ _ c.in-Ok.ensures.later (c.in-Err-fill_whole.ensures.failed (ap Err (part_failed c.args.at c.in-Err-fill_whole.part c.no_item.result c.no_item.ensures is)))
