use Rattle.std.proofs.Common.{◌≤◌}
use Rattle.io_ports.specs.Content.{Told}
use Rattle.record_format.specs.Config.{output_of}
use Rattle.record_format.specs.Readings.{Took}
use Rattle.record_format.proofs.ReaderLemmas.{Reaches}
use Rattle.record_format.proofs.outputs.read_many.Given as goal

abbrev pub invariant-loop : goal.invariant-loop
invariant-loop g l = record {
  reads : Told (g.S.Source.left l.fn.source) (λ bytes. Took bytes (g.S.Source.left l.source) (Reaches output_of l.count l.counter l.outputs));
  keeps : g.S.Source.keeps l.fn.source l.source;
  later : g.S.Source.faults l.fn.source ≤ g.S.Source.faults l.source;
}
