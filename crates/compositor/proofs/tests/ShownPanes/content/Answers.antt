use Rattle.std.proofs.Common.{arith}
use Rattle.compositor.proofs.TestLemmas.{last-content}
use Rattle.compositor.proofs.tests.ShownPanes.content.Goals as goal

pub returns-in_default : goal.returns-in_default
returns-in_default c = λ pane is. last-content c.args.k pane c.args.x c.args.y (λ h. omega (arith, h)) (λ h. omega (arith, h)) is
