-- What holds of every state that a run reaches.
use Rattle.std.specs.Prelude.{◌≡◌, ℕ, ◌<◌, true, List, [], length, map, Some}
use Rattle.desk_laws.specs.declared.setup.Setup.{Setup}
use Rattle.desk_laws.specs.declared.cause.Cause.{Cause}
use Rattle.desk_laws.specs.declared.item.Item.{Item}
use Rattle.desk_laws.specs.Items.{FedItem}
use Rattle.desk_laws.specs.Rows.{id_of, mine}
use Rattle.desk_laws.specs.Sizes.{sizes_of}
use Rattle.desk_laws.specs.Override.{KeepsLimits}
use Rattle.desk_laws.specs.Layers.{are_apart}
use Rattle.desk_laws.specs.Following.{LayersFollow}
use Rattle.desk_laws.specs.State.{DeskState, session_of, opening}
use Rattle.desk_laws.specs.Steps.{step, run}

-- no two rows have one guest and window, the lists have the mapped rows, a session that has ended has no row, and
-- override windows keep their limits
pub record IsSound (setup : Setup) (state : DeskState) : Type 0 where
  pub apart : are_apart (map id_of state.scene.rows) ≡ true
  pub lists : LayersFollow state.scene.rows state.scene.layers
  pub gone : (guest : ℕ) (cause : Cause) → guest < length state.sessions → (session_of guest state).ended ≡ Some cause → mine guest state.scene.rows ≡ []
  pub limits : KeepsLimits (sizes_of setup) state.scene.rows

-- the state before any item is sound
abbrev pub OpeningIsSound : Type 0
OpeningIsSound = (setup : Setup) → IsSound setup (opening setup)

-- each item keeps a state sound
abbrev pub StepsKeepSound : Type 0
StepsKeepSound =
    (setup : Setup) (i : Item) (piece : List ℕ) (state : DeskState) → IsSound setup state → IsSound setup (step setup i piece state).desk

-- every run leads to a sound state
abbrev pub RunsAreSound : Type 0
RunsAreSound =
    (setup : Setup) (items : List FedItem) → IsSound setup (run setup items (opening setup)).desk
