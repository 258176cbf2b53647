use Rattle.run_laws.proofs.GrantedSteps.{grants-carry_no_more}
use Rattle.run_laws.proofs.law.law_granted.Goals as goal

pub returns : goal.returns
returns c = grants-carry_no_more
