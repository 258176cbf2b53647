use Rattle.desk_laws.proofs.SoundLemmas.{opening-is_sound, steps-keep_sound}
use Rattle.run_laws.proofs.SoundRuns.{runs-are_sound}
use Rattle.run_laws.proofs.law.law_of_sound_states.Goals as goal

pub returns-clause-opening : goal.returns-clause-opening
returns-clause-opening c = opening-is_sound

pub returns-clause-step : goal.returns-clause-step
returns-clause-step c = steps-keep_sound

pub returns-clause-run : goal.returns-clause-run
returns-clause-run c = runs-are_sound
