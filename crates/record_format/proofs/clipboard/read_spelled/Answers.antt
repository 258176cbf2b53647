use Rattle.std.proofs.Common.{ℕ, List, Result, slice_index, refl}
use Rattle.record_format.specs.declared.clipboard.Clipboard.{Clipboard}
use Rattle.record_format.specs.Config.{Wrong, part_of, many_of, pair_of, with_pairs, clipboard_of}
use Rattle.record_format.proofs.ReaderLemmas.{stops, goes_on, hands_ok, hands_err}
use Rattle.record_format.proofs.clipboard.read_spelled.Goals as goal

abbrev behind_two : List ℕ → List ℕ → Result (Clipboard × List ℕ) Wrong
behind_two fixed rest = with_pairs (slice_index fixed 0) (many_of pair_of (slice_index fixed 1) rest)

pub returns-in-Err-clause-reads : goal.returns-in-Err-clause-reads
returns-in-Err-clause-reads g c = λ bytes told. stops (part_of 2) behind_two c.in-Err.e bytes _ (c.in-Err.ensures.reads bytes told)

pub returns-in-Ok-read_pairs-clause-reads : goal.returns-in-Ok-read_pairs-clause-reads
returns-in-Ok-read_pairs-clause-reads g c = λ bytes told.
    let fixed = c.fill_part.new.room in
    let step = with_pairs (slice_index fixed 0) in
    let next = many_of pair_of (slice_index fixed 1) in
    let first = goes_on (part_of 2) behind_two step next fixed bytes _ (λ tail. refl) (c.in-Ok.ensures.reads bytes told) in
    hands_ok clipboard_of step next _ c.in-Ok-read_pairs.denied bytes _ _ (λ tail. refl) first (c.in-Ok-read_pairs.ensures.reads first.rest first.is_left)

pub returns-in-Err-read_pairs-clause-reads : goal.returns-in-Err-read_pairs-clause-reads
returns-in-Err-read_pairs-clause-reads g c = λ bytes told.
    let fixed = c.fill_part.new.room in
    let step = with_pairs (slice_index fixed 0) in
    let next = many_of pair_of (slice_index fixed 1) in
    let first = goes_on (part_of 2) behind_two step next fixed bytes _ (λ tail. refl) (c.in-Ok.ensures.reads bytes told) in
    hands_err clipboard_of step next c.in-Err-read_pairs.e bytes _ _ (λ w. refl) first (c.in-Err-read_pairs.ensures.reads first.rest first.is_left)
