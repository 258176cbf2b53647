use Rattle.std.proofs.Common.{◌≡◌}
use Rattle.in_stream.proofs.tests.push_zeros.Given as goal

abbrev pub invariant-loop : goal.invariant-loop
invariant-loop l = l.stream.greeted ≡ l.initial.stream.greeted
