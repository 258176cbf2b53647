use Rattle.std.proofs.Common.{◌≡◌, ◌+◌, ◌++◌, ◌∙◌, ℕ, List, take, ap, arith}
use Rattle.std.specs.List.{flat_map}
use Rattle.io_ports.proofs.GrowLemmas.{part_on}
use Rattle.record_format.specs.Config.{pair_spelling}
use Rattle.record_format.proofs.ManyLemmas.{one_behind, first_of_all}
use Rattle.record_format.proofs.clipboard_out.put_each.Goals as goal

pub returns-in-Err-clause-err : goal.returns-in-Err-clause-err
returns-in-Err-clause-err g c =
    let all = c.args.pairs.now in
    let i = c.loop-pair.pair-index in
    let so_far = flat_map pair_spelling (take i all) in
    let next : so_far ++ c.pair_bytes.result ≡ flat_map pair_spelling (take (i + 1) all) = one_behind pair_spelling all i _ c.pair_bytes.result (omega arith) c.pair_bytes.ensures in
    let within = first_of_all pair_spelling all (i + 1) in
    part_on _ _ _ so_far c.pair_bytes.result (flat_map pair_spelling all) c.loop-pair.invariant.grown c.in-Err.ensures.err
    (within.0, ap (λ (l : List ℕ). l ++ within.0) next ∙ within.1)
