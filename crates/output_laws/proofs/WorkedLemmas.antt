-- The records of a small run, by the law.
use Rattle.std.proofs.Common.{◌≡◌, ℕ, length, map, refl, arith}
use Rattle.std.proofs.lemmas.List.Elements.{All-from_recursion}
use Rattle.desk_laws.specs.Items.{FedItem, FitsItem}
use Rattle.desk_laws.specs.State.{opening}
use Rattle.desk_laws.specs.Steps.{run}
use Rattle.record_format.specs.OutputRecords.{out_of}
use Rattle.output_laws.specs.RunRecords.{HasCauseWidths, CausesFit, AllFit, alone_in}
use Rattle.output_laws.specs.WorkedRecords.{two_guests, two_versions, records_of}
use Rattle.output_laws.proofs.RunLemmas.{guests-records_are_alone}

items-fit : AllFit two_guests two_versions
unfolding two_guests two_versions
items-fit =
    All-from_recursion (λ (g : FedItem). FitsItem (length two_guests.guests) two_guests.pages g.item (length g.piece)) two_versions
    ((omega arith, record { some = omega arith; most = omega arith }), ((omega arith, record { some = omega arith; most = omega arith }), (refl, tt)))

causes-fit : CausesFit (run two_guests two_versions (opening two_guests)).posts
unfolding two_guests two_versions
causes-fit =
    All-from_recursion HasCauseWidths (run two_guests two_versions (opening two_guests)).posts
    (tt, (tt, ((omega arith, omega arith), (tt, tt))))

pub records-alone : (guest : ℕ) → records_of guest ≡ map (out_of 48) (alone_in two_guests two_versions guest).posts
unfolding two_guests two_versions records_of
records-alone guest = guests-records_are_alone 48 two_guests two_versions guest refl items-fit (omega arith) causes-fit
