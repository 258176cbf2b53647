use Rattle.std.proofs.Common.{length-set, ◌∙◌, arith}
use Rattle.guest_session.proofs.AreaLemmas.{mask-next}
use Rattle.guest_session.proofs.read.mask.Goals as goal

pub loop-k-preserved : goal.loop-k-preserved
loop-k-preserved c = (
  mask-next c.args.words.now c.loop-k.words c.loop-k.k (omega (arith, c.loop-k-test.true)) c.loop-k.invariant.0,
  length-set c.loop-k.words c.loop-k.k _ ∙ c.loop-k.invariant.1,
)
