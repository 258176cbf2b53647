use Rattle.window_table.proofs.ForgetLemmas.{forgot-more}
use Rattle.window_table.proofs.held.forget.Goals as goal

pub loop-key-preserved : goal.loop-key-preserved
loop-key-preserved c =
    forgot-more c.args.held.now c.loop-key.held c.forget_at.new.held c.args.window c.loop-key.key c.loop-key.invariant
    c.forget_at.ensures.updates c.forget_at.ensures.len c.forget_at.ensures.capacity
