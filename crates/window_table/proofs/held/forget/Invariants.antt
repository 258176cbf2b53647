use Rattle.window_table.proofs.ForgetLemmas.{ForgotSoFar}
use Rattle.window_table.proofs.held.forget.Given as goal

abbrev pub invariant-loop-key : goal.invariant-loop-key
invariant-loop-key l = ForgotSoFar l.fn.held l.held l.window l.key
