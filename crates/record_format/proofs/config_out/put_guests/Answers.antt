use Rattle.std.proofs.Common.{◌≡◌, ◌+◌, ◌++◌, ◌∙◌, ℕ, List, take, ap, arith}
use Rattle.std.specs.List.{flat_map}
use Rattle.io_ports.proofs.GrowLemmas.{part_on}
use Rattle.record_format.specs.Config.{guest_spelling}
use Rattle.record_format.proofs.ManyLemmas.{one_behind, first_of_all}
use Rattle.record_format.proofs.config_out.put_guests.Goals as goal

pub returns-in-Err-clause-err : goal.returns-in-Err-clause-err
returns-in-Err-clause-err g c =
    let guests = c.args.guests.now in
    let i = c.loop-guest.guest-index in
    let so_far = flat_map guest_spelling (take i guests) in
    let next : so_far ++ guest_spelling c.guest-item.result ≡ flat_map guest_spelling (take (i + 1) guests) = one_behind guest_spelling guests i c.guest-item.result (guest_spelling c.guest-item.result) (omega arith) (ap guest_spelling c.guest-item.is) in
    let within = first_of_all guest_spelling guests (i + 1) in
    part_on _ _ _ so_far (guest_spelling c.guest-item.result) (flat_map guest_spelling guests) c.loop-guest.invariant.grown c.in-Err.ensures.err
    (within.0, ap (λ (l : List ℕ). l ++ within.0) next ∙ within.1)
