use Rattle.std.proofs.Common.{◌++◌, sym, map}
use Rattle.std.proofs.lemmas.List.Concat.{flat_map-append}
use Rattle.std.proofs.lemmas.Result.{on_ok_weaker, on_err_weaker}
use Rattle.desk_laws.specs.Rows.{span}
use Rattle.io_ports.proofs.GrowLemmas.{grows_on, part_behind, part_front}
use Rattle.record_format.specs.ItemSpellings.{fed_spelling, items_spelling}
use Rattle.record_format.specs.MadeRecord.{opening_item, first_rounds}
use Rattle.record_format.proofs.MadeLemmas.{last_items}
use Rattle.record_format.proofs.made.put_items.Goals as goal

pub returns-in-Ok-clause-ok : goal.returns-in-Ok-clause-ok
returns-in-Ok-clause-ok g c =
    let front = map opening_item (span 0 4) in
    let behind = first_rounds c.args.rounds c.args.rounds ++ last_items in
    on_ok_weaker c.put_behind.result (λ grown. grows_on _ _ _ (items_spelling front) (items_spelling behind) _ c.in-Ok.ensures.ok grown (sym (flat_map-append fed_spelling front behind))) c.put_behind.ensures.ok

pub returns-in-Ok-clause-err : goal.returns-in-Ok-clause-err
returns-in-Ok-clause-err g c =
    let front = map opening_item (span 0 4) in
    let behind = first_rounds c.args.rounds c.args.rounds ++ last_items in
    on_err_weaker c.put_behind.result (λ part. part_behind _ _ _ (items_spelling front) (items_spelling behind) _ c.in-Ok.ensures.ok part (sym (flat_map-append fed_spelling front behind))) c.put_behind.ensures.err

pub returns-in-Err-clause-err : goal.returns-in-Err-clause-err
returns-in-Err-clause-err g c =
    let front = map opening_item (span 0 4) in
    let behind = first_rounds c.args.rounds c.args.rounds ++ last_items in
    part_front _ _ (items_spelling front) _ c.in-Err.ensures.err (items_spelling behind, sym (flat_map-append fed_spelling front behind))
