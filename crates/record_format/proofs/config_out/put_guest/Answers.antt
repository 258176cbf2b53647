use Rattle.std.proofs.lemmas.Result.{on_ok_weaker, on_err_weaker}
use Rattle.io_ports.proofs.GrowLemmas.{grows_on, part_behind, part_front}
use Rattle.record_format.proofs.ConfigLemmas.{guest_whole}
use Rattle.record_format.proofs.config_out.put_guest.Goals as goal

pub returns-in-Ok-clause-ok : goal.returns-in-Ok-clause-ok
returns-in-Ok-clause-ok g c =
    let whole = guest_whole c.args.guest.now c.guest_front.result c.bytes-name.result.now c.guest_front.ensures c.bytes-name.ensures.is in
    on_ok_weaker c.put_all-in-Ok.result (λ grown. grows_on _ _ _ c.guest_front.result c.bytes-name.result.now _ c.in-Ok.ensures.ok grown whole) c.put_all-in-Ok.ensures.ok

pub returns-in-Ok-clause-err : goal.returns-in-Ok-clause-err
returns-in-Ok-clause-err g c =
    let whole = guest_whole c.args.guest.now c.guest_front.result c.bytes-name.result.now c.guest_front.ensures c.bytes-name.ensures.is in
    on_err_weaker c.put_all-in-Ok.result (λ part. part_behind _ _ _ c.guest_front.result c.bytes-name.result.now _ c.in-Ok.ensures.ok part whole) c.put_all-in-Ok.ensures.err

pub returns-in-Err-clause-err : goal.returns-in-Err-clause-err
returns-in-Err-clause-err g c =
    let whole = guest_whole c.args.guest.now c.guest_front.result c.bytes-name.result.now c.guest_front.ensures c.bytes-name.ensures.is in
    part_front _ _ c.guest_front.result _ c.in-Err.ensures.err (c.bytes-name.result.now, whole)
