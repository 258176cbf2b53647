use Rattle.std.proofs.Common.{refl}
use Rattle.std.proofs.lemmas.Result.{on_err_weaker}
use Rattle.io_ports.proofs.GrowLemmas.{part_behind}
use Rattle.record_format.proofs.made.put_last.Goals as goal

pub returns-in-Ok-clause-err : goal.returns-in-Ok-clause-err
returns-in-Ok-clause-err g c = on_err_weaker c.put_item-in-Ok.result (λ part. part_behind _ _ _ _ _ _ c.in-Ok.ensures.ok part refl) c.put_item-in-Ok.ensures.err
