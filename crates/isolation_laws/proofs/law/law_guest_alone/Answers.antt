use Rattle.isolation_laws.proofs.StepAlone.{alone-step}
use Rattle.isolation_laws.proofs.RunAlone.{alone-run, opened-alone}
use Rattle.isolation_laws.proofs.law.law_guest_alone.Goals as goal

pub returns-clause-step : goal.returns-clause-step
returns-clause-step c = λ setup i piece guest state. alone-step setup guest i piece state

pub returns-clause-run : goal.returns-clause-run
returns-clause-run c = λ setup items guest state. alone-run setup guest items state

pub returns-clause-opened : goal.returns-clause-opened
returns-clause-opened c = opened-alone
