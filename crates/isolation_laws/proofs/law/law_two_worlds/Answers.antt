use Rattle.isolation_laws.proofs.RunAlone.{two-worlds}
use Rattle.isolation_laws.proofs.law.law_two_worlds.Goals as goal

pub returns : goal.returns
returns c = two-worlds
