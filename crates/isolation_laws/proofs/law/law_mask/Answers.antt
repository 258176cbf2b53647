use Rattle.isolation_laws.proofs.MaskLemmas.{masked-steps, runs-keep_alike, steps-keep_alike}
use Rattle.isolation_laws.proofs.law.law_mask.Goals as goal

pub returns-clause-masked : goal.returns-clause-masked
returns-clause-masked c = masked-steps

pub returns-clause-step : goal.returns-clause-step
returns-clause-step c = steps-keep_alike

pub returns-clause-run : goal.returns-clause-run
returns-clause-run c = runs-keep_alike
