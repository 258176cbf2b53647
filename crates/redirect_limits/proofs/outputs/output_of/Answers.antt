use Rattle.std.proofs.Common.{refl, arith}
use Rattle.redirect_limits.proofs.OutputLemmas.{first-output, found-output, goes-on}
use Rattle.redirect_limits.proofs.outputs.output_of.Goals as goal

pub loop-output-init : goal.loop-output-init
loop-output-init c = refl

pub loop-output-preserved : goal.loop-output-preserved
loop-output-preserved c =
    goes-on c.corner-first.result c.args.outputs.now c.loop-output.output-index _ c.loop-output-test.true c.if-has.ensures c.loop-output.invariant

pub returns-then-has : goal.returns-then-has
returns-then-has c =
    found-output c.args.rect c.corner-first.result c.args.outputs.now c.loop-output.output-index _ c.corner-first.ensures c.loop-output-test.true c.if-has.ensures c.loop-output.invariant

pub returns : goal.returns
returns c =
    first-output c.args.rect c.corner-first.result c.args.outputs.now c.loop-output.output-index _ c.corner-first.ensures (omega (arith, c.loop-output-test.false)) c.requires c.loop-output.invariant
