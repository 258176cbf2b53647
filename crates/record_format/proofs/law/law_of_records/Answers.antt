use Rattle.record_format.proofs.RecordLemmas.{items_are_read, whole_records_are_read, cut_records_are_short, records_were_spelled, record_fits}
use Rattle.record_format.proofs.law.law_of_records.Goals as goal

pub returns-clause-read : goal.returns-clause-read
returns-clause-read c = items_are_read

pub returns-clause-whole : goal.returns-clause-whole
returns-clause-whole c = whole_records_are_read

pub returns-clause-short : goal.returns-clause-short
returns-clause-short c = cut_records_are_short

pub returns-clause-spelled : goal.returns-clause-spelled
returns-clause-spelled c = records_were_spelled

pub returns-clause-fits : goal.returns-clause-fits
returns-clause-fits c = record_fits
