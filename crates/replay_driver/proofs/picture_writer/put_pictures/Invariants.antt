use Rattle.std.proofs.Common.{◌≡◌, ◌*◌, ◌≤◌, length, take}
use Rattle.std.specs.List.{flat_map}
use Rattle.io_ports.specs.Content.{Grows}
use Rattle.replay_driver.specs.PictureRecords.{output_record}
use Rattle.replay_driver.proofs.picture_writer.put_pictures.Given as goal

abbrev pub invariant-loop-n : goal.invariant-loop-n
invariant-loop-n g l = record {
  line : length l.line ≡ 3 * l.picture.width;
  grown : Grows (g.K.Sink.written l.fn.out) (flat_map (output_record l.picture) (take l.n l.picture.outputs)) (g.K.Sink.written l.out);
  keeps : g.K.Sink.keeps l.fn.out l.out;
  later : g.K.Sink.faults l.fn.out ≤ g.K.Sink.faults l.out;
}
