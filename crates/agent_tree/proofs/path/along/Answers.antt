use Rattle.std.proofs.Common.{arith}
use Rattle.agent_tree.proofs.PathLemmas.{along-step}
use Rattle.agent_tree.proofs.path.along.Goals as goal

pub loop-k-preserved : goal.loop-k-preserved
loop-k-preserved c = record {
  is = along-step c.args.window c.args.boxes.now c.args.path.now c.loop-k.k _ c.loop-k.frame _ (omega arith) (omega arith) c.requires.path c.loop-k.invariant.is c.inside-frame.ensures.is;
  narrow = c.inside-frame.ensures.narrow;
}
