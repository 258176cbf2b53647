use Rattle.std.proofs.Common.{refl}
use Rattle.guid_main.specs.declared.words.Words.TheVariants.{Make}
use Rattle.guid_main.proofs.run.run.Goals as goal

pub returns-in-None-clause-makes : goal.returns-in-None-clause-makes
returns-in-None-clause-makes g c = λ rounds is. absurd (c.in-None.ensures.none refl (Make rounds) is)
