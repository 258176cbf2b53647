use Rattle.std.proofs.Common.{length, arith}
use Rattle.record_format.specs.Config.{part_of}
use Rattle.record_format.proofs.ReaderLemmas.{name_fills, name_short, part_err}
use Rattle.record_format.proofs.config.fill_name.Goals as goal

pub returns-in-Ok-clause-reads : goal.returns-in-Ok-clause-reads
returns-in-Ok-clause-reads g c = λ bytes told.
    name_fills (length c.args.room.now) c.new.result c.fill_whole.new.room bytes _ c.fill_whole.auto.room c.new.ensures (c.in-Ok.ensures.fills bytes told)

pub returns-in-Err-clause-reads : goal.returns-in-Err-clause-reads
returns-in-Err-clause-reads g c = λ bytes told.
    part_err (part_of (length c.args.room.now)) c.in-Err.part c.no_config.result c.fill_whole.new.room bytes _ c.no_config.ensures
    (λ xs short. name_short (length c.args.room.now) xs (omega (arith, short, c.fill_whole.auto.room))) (c.in-Err.ensures.fills bytes told)
