use Rattle.std.proofs.Common.{length, arith}
use Rattle.record_format.proofs.ReaderLemmas.{fills_failed, fills_short, fills_whole}
use Rattle.record_format.proofs.part.fill_whole.Goals as goal

pub returns-in-Err-clause-fills : goal.returns-in-Err-clause-fills
returns-in-Err-clause-fills g c = λ bytes told.
    fills_failed bytes c.fill.new.room (length c.args.room.now) _ c.fill.auto.room (c.in-Err.ensures.part bytes told)

pub returns-then-n-room-clause-fills : goal.returns-then-n-room-clause-fills
returns-then-n-room-clause-fills g c = λ bytes told.
    fills_short bytes c.fill.new.room c.in-Ok.n (length c.args.room.now) _ c.fill.auto.room (omega arith) (c.in-Ok.ensures.full bytes told) (c.in-Ok.ensures.taken bytes told)

pub returns-clause-fills : goal.returns-clause-fills
returns-clause-fills g c = λ bytes told.
    fills_whole bytes c.fill.new.room c.in-Ok.n _ (omega (arith, c.in-Ok.ensures.bound, c.fill.auto.room)) (c.in-Ok.ensures.taken bytes told)
