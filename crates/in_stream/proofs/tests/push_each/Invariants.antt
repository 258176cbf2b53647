use Rattle.std.proofs.Common.{◌≡◌}
use Rattle.in_stream.proofs.tests.push_each.Given as goal

abbrev pub invariant-loop-byte : goal.invariant-loop-byte
invariant-loop-byte l = l.stream.greeted ≡ l.initial.stream.greeted
