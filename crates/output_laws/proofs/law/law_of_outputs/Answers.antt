use Rattle.output_laws.proofs.RunLemmas.{runs-have_records, guests-records_are_alone, runs-are_isolated}
use Rattle.output_laws.proofs.law.law_of_outputs.Goals as goal

pub returns-clause-records : goal.returns-clause-records
returns-clause-records c = runs-have_records

pub returns-clause-guests : goal.returns-clause-guests
returns-clause-guests c = guests-records_are_alone

pub returns-clause-isolated : goal.returns-clause-isolated
returns-clause-isolated c = runs-are_isolated
