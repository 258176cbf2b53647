use Rattle.std.proofs.Common.{ℕ, List, Result, slice_index}
use Rattle.gui_num.specs.declared.Rect.{Rect}
use Rattle.record_format.specs.Config.{Wrong, part_of, counted_outputs}
use Rattle.record_format.proofs.ReaderLemmas.{stops, then_reads}
use Rattle.record_format.proofs.outputs.read_listed.Goals as goal

abbrev behind_count : List ℕ → List ℕ → Result (List Rect × List ℕ) Wrong
behind_count fixed rest = counted_outputs (slice_index fixed 0) rest

pub returns-in-Ok-clause-reads : goal.returns-in-Ok-clause-reads
returns-in-Ok-clause-reads g c = λ bytes told.
    let first = c.in-Ok.ensures.reads bytes told in
    then_reads (part_of 1) behind_count c.fill_part.new.room c.read_counted.result bytes _ _ first (c.read_counted.ensures.reads first.rest first.is_left)

pub returns-in-Err-clause-reads : goal.returns-in-Err-clause-reads
returns-in-Err-clause-reads g c = λ bytes told. stops (part_of 1) behind_count c.in-Err.e bytes _ (c.in-Err.ensures.reads bytes told)
