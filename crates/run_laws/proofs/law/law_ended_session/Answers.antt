use Rattle.desk_laws.proofs.EndLemmas.{ends-leave_nothing}
use Rattle.run_laws.proofs.EndedSessions.{ended-does_nothing}
use Rattle.run_laws.proofs.law.law_ended_session.Goals as goal

pub returns-clause-gone : goal.returns-clause-gone
returns-clause-gone c = ends-leave_nothing

pub returns-clause-over : goal.returns-clause-over
returns-clause-over c = ended-does_nothing
