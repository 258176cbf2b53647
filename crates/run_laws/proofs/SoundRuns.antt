-- Every state that a run reaches is sound.
use Rattle.std.proofs.Common.{List, [], ◌∷◌}
use Rattle.desk_laws.specs.declared.setup.Setup.{Setup}
use Rattle.desk_laws.specs.Items.{FedItem}
use Rattle.desk_laws.specs.State.{DeskState, opening}
use Rattle.desk_laws.specs.Steps.{step, run}
use Rattle.desk_laws.specs.Sound.{IsSound, RunsAreSound}
use Rattle.desk_laws.proofs.SoundLemmas.{opening-is_sound, steps-keep_sound}

-- a run from any sound state
runs-sound : (setup : Setup) (items : List FedItem) (state : DeskState) → IsSound setup state → IsSound setup (run setup items state).desk
runs-sound setup [] state is = is
runs-sound setup (i ∷ items) state is =
    runs-sound setup items (step setup i.item i.piece state).desk (steps-keep_sound setup i.item i.piece state is)

pub runs-are_sound : RunsAreSound
runs-are_sound setup items = runs-sound setup items (opening setup) (opening-is_sound setup)
