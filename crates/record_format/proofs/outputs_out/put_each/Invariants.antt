use Rattle.std.proofs.Common.{◌≤◌, take}
use Rattle.std.specs.List.{flat_map}
use Rattle.io_ports.specs.Content.{Grows}
use Rattle.record_format.specs.Config.{output_spelling}
use Rattle.record_format.proofs.outputs_out.put_each.Given as goal

abbrev pub invariant-loop-output : goal.invariant-loop-output
invariant-loop-output g l = record {
  grown : Grows (g.K.Sink.written l.fn.out) (flat_map output_spelling (take l.output-index l.outputs)) (g.K.Sink.written l.out);
  keeps : g.K.Sink.keeps l.fn.out l.out;
  later : g.K.Sink.faults l.fn.out ≤ g.K.Sink.faults l.out;
}
