use Rattle.guid_config.proofs.OrderLemmas.{pairs_are_in_order}
use Rattle.guid_config.proofs.law.law_of_pairs.Goals as goal

pub returns : goal.returns
returns c = pairs_are_in_order
