use Rattle.std.proofs.Common.{◌≤◌, take}
use Rattle.std.specs.List.{flat_map}
use Rattle.io_ports.specs.Content.{Grows}
use Rattle.record_format.specs.Config.{guest_spelling}
use Rattle.record_format.proofs.config_out.put_guests.Given as goal

abbrev pub invariant-loop-guest : goal.invariant-loop-guest
invariant-loop-guest g l = record {
  grown : Grows (g.K.Sink.written l.fn.out) (flat_map guest_spelling (take l.guest-index l.guests)) (g.K.Sink.written l.out);
  keeps : g.K.Sink.keeps l.fn.out l.out;
  later : g.K.Sink.faults l.fn.out ≤ g.K.Sink.faults l.out;
}
