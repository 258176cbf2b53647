use Rattle.desk_laws.proofs.Cutting.{cuts_in_pieces}
use Rattle.desk_laws.proofs.law.law_of_cutting.Goals as goal

pub returns : goal.returns
returns c = cuts_in_pieces
