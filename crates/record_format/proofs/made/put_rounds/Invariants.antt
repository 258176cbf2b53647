use Rattle.std.proofs.Common.{◌≡◌, ◌≤◌}
use Rattle.io_ports.specs.Content.{Grows}
use Rattle.record_format.specs.MadeRecord.{seed_after}
use Rattle.record_format.proofs.MadeLemmas.{spelled_to, round_bytes}
use Rattle.record_format.proofs.made.put_rounds.Given as goal

abbrev pub invariant-loop-n : goal.invariant-loop-n
invariant-loop-n g l = record {
  seed : l.seed ≡ seed_after l.rounds l.n;
  grown : Grows (g.K.Sink.written l.fn.out) (spelled_to (round_bytes l.rounds) 1 l.n) (g.K.Sink.written l.out);
  keeps : g.K.Sink.keeps l.fn.out l.out;
  later : g.K.Sink.faults l.fn.out ≤ g.K.Sink.faults l.out;
}
