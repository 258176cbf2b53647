use Rattle.std.proofs.Common.{◌+◌, length-set, ap, ◌∙◌, arith}
use Rattle.frame_pool.specs.Cells.{number, numbers}
use Rattle.frame_pool.proofs.CellLemmas.{number-at}
use Rattle.frame_pool.proofs.RunLemmas.{read-next, read-all}
use Rattle.frame_pool.proofs.region.read_run.Goals as goal

pub load-requires-clause-filled : goal.load-requires-clause-filled
load-requires-clause-filled c = c.requires.filled (c.args.at + c.loop-k.k) (omega arith) (omega (arith, c.loop-k-test.true))

pub loop-k-preserved : goal.loop-k-preserved
loop-k-preserved c =
    let words = c.args.cells.now.words in let at = c.args.at in let k = c.loop-k.k in (
      read-next (numbers words) c.loop-k.words c.args.words.now at k c.load.result c.loop-k-test.true (ap number c.load.ensures ∙ number-at words (at + k)) ∙ c.loop-k.invariant.0,
      length-set c.loop-k.words k c.load.result ∙ c.loop-k.invariant.1,
    )

pub returns : goal.returns
returns c = read-all (numbers c.args.cells.now.words) c.loop-k.words c.args.words.now c.args.at c.loop-k.k c.loop-k-test.false c.loop-k.invariant.0
