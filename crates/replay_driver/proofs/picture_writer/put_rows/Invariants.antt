use Rattle.std.proofs.Common.{◌≡◌, ◌*◌, ◌≤◌, length}
use Rattle.io_ports.specs.Content.{Grows}
use Rattle.replay_driver.proofs.OutputRows.{bytes_to}
use Rattle.replay_driver.proofs.picture_writer.put_rows.Given as goal

abbrev pub invariant-loop-n : goal.invariant-loop-n
invariant-loop-n g l = record {
  line : length l.line ≡ 3 * l.output.w;
  grown : Grows (g.K.Sink.written l.fn.out) (bytes_to l.picture l.output l.n) (g.K.Sink.written l.out);
  keeps : g.K.Sink.keeps l.fn.out l.out;
  later : g.K.Sink.faults l.fn.out ≤ g.K.Sink.faults l.out;
}
