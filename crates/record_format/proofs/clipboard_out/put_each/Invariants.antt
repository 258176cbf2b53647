use Rattle.std.proofs.Common.{◌≤◌, take}
use Rattle.std.specs.List.{flat_map}
use Rattle.io_ports.specs.Content.{Grows}
use Rattle.record_format.specs.Config.{pair_spelling}
use Rattle.record_format.proofs.clipboard_out.put_each.Given as goal

abbrev pub invariant-loop-pair : goal.invariant-loop-pair
invariant-loop-pair g l = record {
  grown : Grows (g.K.Sink.written l.fn.out) (flat_map pair_spelling (take l.pair-index l.pairs)) (g.K.Sink.written l.out);
  keeps : g.K.Sink.keeps l.fn.out l.out;
  later : g.K.Sink.faults l.fn.out ≤ g.K.Sink.faults l.out;
}
