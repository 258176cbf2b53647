use Rattle.std.proofs.Common.{refl}
use Rattle.record_format.specs.Config.{config_spelling, head_spelling, guest_spelling}
use Rattle.record_format.specs.MadeRecord.{made_setup, opening_bytes, report_bytes, place_bytes, round_items, made}
use Rattle.record_format.proofs.MadeReading.{made_records_are_read}
use Rattle.record_format.proofs.law.law_of_made_records.Goals as goal

pub returns-clause-read : goal.returns-clause-read
returns-clause-read c = made_records_are_read

pub returns-clause-lengths : goal.returns-clause-lengths
unfolding made made_setup config_spelling head_spelling guest_spelling opening_bytes report_bytes place_bytes round_items
returns-clause-lengths c = (refl, refl)

pub returns-clause-ten : goal.returns-clause-ten
unfolding report_bytes place_bytes round_items
returns-clause-ten c = refl

pub returns-clause-picture : goal.returns-clause-picture
returns-clause-picture c = (refl, refl, refl)
