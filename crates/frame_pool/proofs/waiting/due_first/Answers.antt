use Rattle.std.proofs.Common.{◌+◌, arith}
use Rattle.frame_pool.proofs.DueLemmas.{not-before-each}
use Rattle.frame_pool.proofs.waiting.due_first.Goals as goal

pub returns-then-due_of-loads-clause-none : goal.returns-then-due_of-loads-clause-none
returns-then-due_of-loads-clause-none c = λ _.
    not-before-each (c.args.loads + 1) c.args.waiting.now
    (λ k below. omega (arith, c.if-due_of-loads.true, c.due_of.ensures, c.first_of-first.ensures.lowest k below))
