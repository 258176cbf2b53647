use Rattle.run_laws.proofs.HearLemmas.{ends-stay_at_home, others-hear_news}
use Rattle.run_laws.proofs.OtherGuests.{others-stay}
use Rattle.run_laws.proofs.law.law_of_others.Goals as goal

pub returns-clause-stay : goal.returns-clause-stay
returns-clause-stay c = others-stay

pub returns-clause-ends : goal.returns-clause-ends
returns-clause-ends c = ends-stay_at_home

pub returns-clause-news : goal.returns-clause-news
returns-clause-news c = others-hear_news
