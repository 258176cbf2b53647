use Rattle.desk_laws.proofs.CheckLemmas.{first_cause-ends, first_cause-same}
use Rattle.desk_laws.proofs.checks.law_first_cause.Goals as goal

pub returns-clause-verdict : goal.returns-clause-verdict
returns-clause-verdict c = first_cause-ends

pub returns-clause-rows : goal.returns-clause-rows
returns-clause-rows c = first_cause-same
