use Rattle.std.proofs.Common.{ap, ◌∙◌}
use Rattle.gui_num.specs.declared.Rect.{Rect}
use Rattle.gui_num.specs.Rects.{has}
use Rattle.compositor.proofs.TestLemmas.{content-inside}
use Rattle.compositor.proofs.tests.ringed.Goals as goal

pub returns-clause-inside : goal.returns-clause-inside
returns-clause-inside c = λ p t. ap (λ (r : Rect). has r p) c.grow.ensures ∙ content-inside c.args.content p t
