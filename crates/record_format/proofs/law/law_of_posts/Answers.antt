use Rattle.record_format.proofs.OutputLemmas.{posts_are_read, guest_records_are_read, read_posts_were_spelled}
use Rattle.record_format.proofs.law.law_of_posts.Goals as goal

pub returns-clause-read : goal.returns-clause-read
returns-clause-read c = posts_are_read

pub returns-clause-guest : goal.returns-clause-guest
returns-clause-guest c = guest_records_are_read

pub returns-clause-spelled : goal.returns-clause-spelled
returns-clause-spelled c = read_posts_were_spelled
