use Rattle.std.proofs.Common.{◌≤◌}
use Rattle.io_ports.specs.Content.{Grows}
use Rattle.record_format.proofs.MadeLemmas.{spelled_to, opening_spelled}
use Rattle.record_format.proofs.made.put_openings.Given as goal

abbrev pub invariant-loop-guest : goal.invariant-loop-guest
invariant-loop-guest g l = record {
  grown : Grows (g.K.Sink.written l.fn.out) (spelled_to opening_spelled 0 l.guest) (g.K.Sink.written l.out);
  keeps : g.K.Sink.keeps l.fn.out l.out;
  later : g.K.Sink.faults l.fn.out ≤ g.K.Sink.faults l.out;
}
