use Rattle.std.proofs.Common.{Ok, ap, sym}
use Rattle.gui_num.specs.declared.Rect.{Rect}
use Rattle.record_format.specs.Config.{part_of, rect_at}
use Rattle.record_format.proofs.ReaderLemmas.{stops, done_so}
use Rattle.record_format.proofs.outputs.read_output.Goals as goal

pub returns-in-Ok-clause-reads : goal.returns-in-Ok-clause-reads
returns-in-Ok-clause-reads g c = λ bytes told.
    done_so (part_of 16) (λ fixed rest. Ok (rect_at fixed, rest)) c.fill_part.new.room c.rect_at.result bytes _
    (λ tail. ap (λ (r : Rect). Ok (r, tail)) (sym c.rect_at.ensures)) (c.in-Ok.ensures.reads bytes told)

pub returns-in-Err-clause-reads : goal.returns-in-Err-clause-reads
returns-in-Err-clause-reads g c = λ bytes told.
    stops (part_of 16) (λ fixed rest. Ok (rect_at fixed, rest)) c.in-Err.e bytes _ (c.in-Err.ensures.reads bytes told)
