use Rattle.std.proofs.Common.{List, ℕ, ◌++◌, ap}
use Rattle.std.specs.List.{flat_map}
use Rattle.io_ports.proofs.GrowLemmas.{part_front}
use Rattle.record_format.specs.Config.{guest_spelling}
use Rattle.record_format.proofs.config_out.put_front.Goals as goal

pub returns-in-Err-clause-err : goal.returns-in-Err-clause-err
returns-in-Err-clause-err g c =
    let guests = flat_map guest_spelling c.args.setup.now.guests in
    part_front _ _ c.head_bytes.result _ c.in-Err.ensures.err (guests, ap (λ (l : List ℕ). l ++ guests) c.head_bytes.ensures)
