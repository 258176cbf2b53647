use Rattle.std.proofs.Common.{sym}
use Rattle.std.proofs.lemmas.List.Concat.{flat_map-append}
use Rattle.std.proofs.lemmas.Result.{on_ok_weaker, on_err_weaker}
use Rattle.io_ports.proofs.GrowLemmas.{grows_on, part_behind, part_front}
use Rattle.record_format.specs.ItemSpellings.{fed_spelling, items_spelling}
use Rattle.record_format.specs.MadeRecord.{draw_items, snap_after}
use Rattle.record_format.proofs.made_round.put_round.Goals as goal

pub returns-in-Ok-clause-ok : goal.returns-in-Ok-clause-ok
returns-in-Ok-clause-ok g c =
    let items = draw_items c.args.draw in
    let snap = snap_after c.args.n in
    on_ok_weaker c.put_snap_after.result (λ grown. grows_on _ _ _ (items_spelling items) (items_spelling snap) _ c.in-Ok.ensures.ok grown (sym (flat_map-append fed_spelling items snap))) c.put_snap_after.ensures.ok

pub returns-in-Ok-clause-err : goal.returns-in-Ok-clause-err
returns-in-Ok-clause-err g c =
    let items = draw_items c.args.draw in
    let snap = snap_after c.args.n in
    on_err_weaker c.put_snap_after.result (λ part. part_behind _ _ _ (items_spelling items) (items_spelling snap) _ c.in-Ok.ensures.ok part (sym (flat_map-append fed_spelling items snap))) c.put_snap_after.ensures.err

pub returns-in-Err-clause-err : goal.returns-in-Err-clause-err
returns-in-Err-clause-err g c =
    let items = draw_items c.args.draw in
    let snap = snap_after c.args.n in
    part_front _ _ (items_spelling items) _ c.in-Err.ensures.err (items_spelling snap, sym (flat_map-append fed_spelling items snap))
