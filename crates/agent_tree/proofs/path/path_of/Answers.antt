use Rattle.std.proofs.Common.{arith}
use Rattle.agent_tree.proofs.PathLemmas.{path-found, path-end}
use Rattle.agent_tree.proofs.path.path_of.Goals as goal
use Rattle.agent_tree.proofs.path.path_of.Goals.{else-loop-k-test, then-loop-k-test+then-lowest-le1}

pub returns : goal.returns
returns c =
    elim c.loop-k-test.branch [ else-loop-k-test w ↦ path-end c.args.boxes.now _ _ c.loop-k.lowest c.loop-k.k w.loop-k-test.false c.loop-k.invariant | then-loop-k-test+then-lowest-le1 w ↦ path-found c.args.boxes.now _ _ c.loop-k.lowest c.loop-k.k (omega arith) c.requires.sound c.loop-k.invariant ]
