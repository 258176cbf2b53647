use Rattle.std.proofs.Common.{refl}
use Rattle.std.proofs.lemmas.Result.{on_err_weaker}
use Rattle.io_ports.proofs.GrowLemmas.{part_behind, part_front}
use Rattle.record_format.proofs.made_round.put_click.Goals as goal

pub returns-in-Ok-clause-err : goal.returns-in-Ok-clause-err
returns-in-Ok-clause-err g c = on_err_weaker c.put_press-in-Ok.result (λ part. part_behind _ _ _ _ _ _ c.in-Ok.ensures.ok part refl) c.put_press-in-Ok.ensures.err

pub returns-in-Err-clause-err : goal.returns-in-Err-clause-err
returns-in-Err-clause-err g c = part_front _ _ _ _ c.in-Err.ensures.err (_, refl)
