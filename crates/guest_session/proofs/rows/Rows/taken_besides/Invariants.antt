use Rattle.std.proofs.Common.{◌≡◌, ◌+◌, ◌≤◌, min, drop, sum_by}
use Rattle.desk_laws.specs.Override.{taken_by, taken_besides}
use Rattle.guest_session.specs.Placing.{most_taken}
use Rattle.guest_session.proofs.rows.Rows.taken_besides.Given as goal

abbrev pub invariant-loop-i : goal.invariant-loop-i
invariant-loop-i l = record {
  small : l.taken ≤ most_taken;
  rest : min most_taken (l.taken + sum_by (taken_by l.border l.window) (drop l.i l.self.rows)) ≡ min most_taken (taken_besides l.border l.window l.self.rows);
}
