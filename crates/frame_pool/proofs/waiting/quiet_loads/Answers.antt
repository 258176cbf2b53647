use Rattle.std.proofs.Common.{◌+◌, ◌≤◌, sym, subst, arith}
use Rattle.frame_pool.proofs.DueLemmas.{not-before-at, not-before-each}
use Rattle.frame_pool.proofs.waiting.quiet_loads.Goals as goal

pub overflow_sub-due : goal.overflow_sub-due
overflow_sub-due c =
    let later : c.args.loads + 1 ≤ c.due_of-due.result =
    subst (λ n. c.args.loads + 1 ≤ n) (sym c.due_of-due.ensures) (not-before-at (c.args.loads + 1) c.args.waiting.now c.first_of.result c.first_of.ensures.below c.requires.settled) in
    omega (arith, later)

pub returns-clause-some : goal.returns-clause-some
returns-clause-some c =
    let later : c.args.loads + 1 ≤ c.due_of-due.result =
    subst (λ n. c.args.loads + 1 ≤ n) (sym c.due_of-due.ensures) (not-before-at (c.args.loads + 1) c.args.waiting.now c.first_of.result c.first_of.ensures.below c.requires.settled) in
    omega (arith, later, c.min.ensures, c.requires.some)

pub returns-clause-quiet : goal.returns-clause-quiet
returns-clause-quiet c =
    let later : c.args.loads + 1 ≤ c.due_of-due.result =
    subst (λ n. c.args.loads + 1 ≤ n) (sym c.due_of-due.ensures) (not-before-at (c.args.loads + 1) c.args.waiting.now c.first_of.result c.first_of.ensures.below c.requires.settled) in
    let reached : c.args.loads + c.min.result ≤ c.due_of-due.result = omega (arith, later, c.min.ensures) in
    not-before-each (c.args.loads + c.min.result) c.args.waiting.now
    (λ k below. omega (arith, reached, c.due_of-due.ensures, c.first_of.ensures.lowest k below))
