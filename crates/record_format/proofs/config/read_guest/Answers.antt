use Rattle.std.proofs.Common.{◌≡◌, length, slice_index, refl, arith}
use Rattle.record_format.specs.Config.{named, part_of, guest_of}
use Rattle.record_format.proofs.ReaderLemmas.{hands_ok, hands_err, part_ok, part_err, guest_short, guest_hands}
use Rattle.record_format.proofs.config.read_guest.Goals as goal

pub returns-in-Err-clause-reads : goal.returns-in-Err-clause-reads
returns-in-Err-clause-reads g c = λ bytes told.
    let size : length c.fill_whole.new.room ≡ 5 = omega arith in
    part_err guest_of c.in-Err.part c.no_config.result c.fill_whole.new.room bytes _ c.no_config.ensures
    (λ xs short. guest_short xs (omega (arith, short, size))) (c.in-Err.ensures.fills bytes told)

pub returns-in-Ok-read_name-clause-reads : goal.returns-in-Ok-read_name-clause-reads
returns-in-Ok-read_name-clause-reads g c = λ bytes told.
    let fixed = c.fill_whole.new.room in
    let next = part_of (slice_index fixed 4) in
    let first = part_ok guest_of (named c.number_at.result) next fixed bytes _ (guest_hands fixed c.number_at.result (omega arith) c.number_at.ensures) (c.in-Ok.ensures.fills bytes told) in
    hands_ok guest_of (named c.number_at.result) next _ c.in-Ok-read_name.name bytes _ _ (λ tail. refl) first (c.in-Ok-read_name.ensures.reads first.rest first.is_left)

pub returns-in-Err-read_name-clause-reads : goal.returns-in-Err-read_name-clause-reads
returns-in-Err-read_name-clause-reads g c = λ bytes told.
    let fixed = c.fill_whole.new.room in
    let next = part_of (slice_index fixed 4) in
    let first = part_ok guest_of (named c.number_at.result) next fixed bytes _ (guest_hands fixed c.number_at.result (omega arith) c.number_at.ensures) (c.in-Ok.ensures.fills bytes told) in
    hands_err guest_of (named c.number_at.result) next c.in-Err-read_name.e bytes _ _ (λ w. refl) first (c.in-Err-read_name.ensures.reads first.rest first.is_left)
