use Rattle.std.proofs.Common.{◌≡◌, ◌+◌, ◌++◌, ◌∙◌, ℕ, List, take, ap, arith}
use Rattle.std.specs.List.{flat_map}
use Rattle.io_ports.proofs.GrowLemmas.{part_on}
use Rattle.record_format.specs.Config.{output_spelling}
use Rattle.record_format.proofs.ManyLemmas.{one_behind, first_of_all}
use Rattle.record_format.proofs.outputs_out.put_each.Goals as goal

pub returns-in-Err-clause-err : goal.returns-in-Err-clause-err
returns-in-Err-clause-err g c =
    let all = c.args.outputs.now in
    let i = c.loop-output.output-index in
    let so_far = flat_map output_spelling (take i all) in
    let next : so_far ++ c.output_bytes.result ≡ flat_map output_spelling (take (i + 1) all) = one_behind output_spelling all i _ c.output_bytes.result (omega arith) c.output_bytes.ensures in
    let within = first_of_all output_spelling all (i + 1) in
    part_on _ _ _ so_far c.output_bytes.result (flat_map output_spelling all) c.loop-output.invariant.grown c.in-Err.ensures.err
    (within.0, ap (λ (l : List ℕ). l ++ within.0) next ∙ within.1)
