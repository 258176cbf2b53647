use Rattle.std.proofs.Common.{length, ◌-◌, ◌≤◌}
use Rattle.io_ports.specs.Content.{Taken, Told}
use Rattle.io_ports.proofs.source.fill.Given as goal

abbrev pub invariant-loop-at : goal.invariant-loop-at
invariant-loop-at g l = record {
  within : l.at ≤ length l.room;
  taken : Told (g.S.Source.left l.fn.source) (λ bytes. Taken bytes l.at l.room (g.S.Source.left l.source));
  keeps : g.S.Source.keeps l.fn.source l.source;
  later : g.S.Source.faults l.fn.source ≤ g.S.Source.faults l.source;
}

abbrev pub decreases-loop-at : goal.decreases-loop-at
decreases-loop-at g l = length l.initial.room - l.at
