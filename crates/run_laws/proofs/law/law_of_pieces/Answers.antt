use Rattle.run_laws.proofs.PieceLemmas.{pieces-join}
use Rattle.run_laws.proofs.law.law_of_pieces.Goals as goal

pub returns : goal.returns
returns c = pieces-join
