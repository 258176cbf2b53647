use Rattle.std.proofs.Common.{sym}
use Rattle.std.proofs.lemmas.List.Concat.{flat_map-append}
use Rattle.std.proofs.lemmas.Result.{on_ok_weaker, on_err_weaker}
use Rattle.io_ports.proofs.GrowLemmas.{grows_on, part_behind, part_front}
use Rattle.record_format.specs.ItemSpellings.{fed_spelling, items_spelling}
use Rattle.record_format.specs.MadeRecord.{first_rounds}
use Rattle.record_format.proofs.MadeLemmas.{last_items}
use Rattle.record_format.proofs.made.put_behind.Goals as goal

pub returns-in-Ok-clause-ok : goal.returns-in-Ok-clause-ok
returns-in-Ok-clause-ok g c =
    let items = first_rounds c.args.rounds c.args.rounds in
    on_ok_weaker c.put_last.result (λ grown. grows_on _ _ _ (items_spelling items) (items_spelling last_items) _ c.in-Ok.ensures.ok grown (sym (flat_map-append fed_spelling items last_items))) c.put_last.ensures.ok

pub returns-in-Ok-clause-err : goal.returns-in-Ok-clause-err
returns-in-Ok-clause-err g c =
    let items = first_rounds c.args.rounds c.args.rounds in
    on_err_weaker c.put_last.result (λ part. part_behind _ _ _ (items_spelling items) (items_spelling last_items) _ c.in-Ok.ensures.ok part (sym (flat_map-append fed_spelling items last_items))) c.put_last.ensures.err

pub returns-in-Err-clause-err : goal.returns-in-Err-clause-err
returns-in-Err-clause-err g c =
    let items = first_rounds c.args.rounds c.args.rounds in
    part_front _ _ (items_spelling items) _ c.in-Err.ensures.err (items_spelling last_items, sym (flat_map-append fed_spelling items last_items))
