use Rattle.std.proofs.Common.{◌≡◌, ℕ, ◌<◌, get_or, nat_lt, length, if◌then◌else◌}
use Rattle.std.specs.Prelude.{◌&&◌, not}
use Rattle.agent_tree.proofs.paint.fill_columns.Given as goal

abbrev pub invariant-loop-k : goal.invariant-loop-k
invariant-loop-k l = record {
  filled : (j : ℕ) → j < length l.room → get_or l.room j 0 ≡ (if not (nat_lt j l.fn.from) && nat_lt j l.k then l.colour else get_or l.fn.room j 0);
  none : l.past < l.fn.from → l.k ≡ l.fn.from;
}
