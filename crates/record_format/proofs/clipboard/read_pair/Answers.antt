use Rattle.std.proofs.Common.{ℕ, List, Result, Ok, slice_index, refl}
use Rattle.desk_laws.specs.declared.setup.Pair.{Pair}
use Rattle.record_format.specs.Config.{Wrong, part_of}
use Rattle.record_format.proofs.ReaderLemmas.{stops, done_so}
use Rattle.record_format.proofs.clipboard.read_pair.Goals as goal

abbrev of_two : List ℕ → List ℕ → Result (Pair × List ℕ) Wrong
of_two fixed rest = Ok (record { from = slice_index fixed 0; to = slice_index fixed 1 }, rest)

pub returns-in-Ok-clause-reads : goal.returns-in-Ok-clause-reads
returns-in-Ok-clause-reads g c = λ bytes told.
    done_so (part_of 2) of_two c.fill_part.new.room _ bytes _ (λ tail. refl) (c.in-Ok.ensures.reads bytes told)

pub returns-in-Err-clause-reads : goal.returns-in-Err-clause-reads
returns-in-Err-clause-reads g c = λ bytes told. stops (part_of 2) of_two c.in-Err.e bytes _ (c.in-Err.ensures.reads bytes told)
