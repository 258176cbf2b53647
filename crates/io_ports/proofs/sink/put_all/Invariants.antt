use Rattle.std.proofs.Common.{length, ◌-◌, ◌≤◌, take}
use Rattle.io_ports.specs.Content.{Grows}
use Rattle.io_ports.proofs.sink.put_all.Given as goal

abbrev pub invariant-loop-at : goal.invariant-loop-at
invariant-loop-at g l = record {
  within : l.at ≤ length l.bytes;
  grown : Grows (g.K.Sink.written l.fn.sink) (take l.at l.bytes) (g.K.Sink.written l.sink);
  keeps : g.K.Sink.keeps l.fn.sink l.sink;
  later : g.K.Sink.faults l.fn.sink ≤ g.K.Sink.faults l.sink;
}

abbrev pub decreases-loop-at : goal.decreases-loop-at
decreases-loop-at g l = length l.bytes - l.at
