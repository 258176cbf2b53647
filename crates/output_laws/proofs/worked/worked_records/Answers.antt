use Rattle.output_laws.specs.WorkedRecords.{two_guests, two_versions}
use Rattle.output_laws.proofs.WorkedLemmas.{records-alone}
use Rattle.output_laws.proofs.worked.worked_records.Goals as goal

pub returns-clause-greeted : goal.returns-clause-greeted
unfolding two_guests two_versions
returns-clause-greeted c = records-alone 0

pub returns-clause-ended : goal.returns-clause-ended
unfolding two_guests two_versions
returns-clause-ended c = records-alone 1

pub returns-clause-nobody : goal.returns-clause-nobody
unfolding two_guests two_versions
returns-clause-nobody c = records-alone 2
