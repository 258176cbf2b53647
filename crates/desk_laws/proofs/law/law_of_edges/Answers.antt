use Rattle.desk_laws.proofs.EdgeLemmas.{pictures-keep_edges}
use Rattle.desk_laws.proofs.law.law_of_edges.Goals as goal

pub returns : goal.returns
returns c = pictures-keep_edges
