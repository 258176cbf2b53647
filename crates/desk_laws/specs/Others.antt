-- What an item of one guest leaves of the others.
use Rattle.std.specs.Prelude.{◌≡◌, ◌≢◌, ℕ, true, List}
use Rattle.desk_laws.specs.declared.setup.Setup.{Setup}
use Rattle.desk_laws.specs.declared.item.Item.{Item}
use Rattle.desk_laws.specs.Rows.{mine}
use Rattle.desk_laws.specs.State.{DeskState, session_of}
use Rattle.desk_laws.specs.Steps.{step}
use Rattle.desk_laws.specs.Endings.{is_item_of}

-- a guest's windows with their contents, and its session with its bytes, its end and its frames, are as before
pub record IsUntouched (guest : ℕ) (before after : DeskState) : Type 0 where
  pub rows : mine guest after.scene.rows ≡ mine guest before.scene.rows
  pub session : session_of guest after ≡ session_of guest before

-- an item of one guest's session, whether it ends that session or not, leaves every other guest untouched
abbrev pub OthersStay : Type 0
OthersStay =
    (setup : Setup) (i : Item) (piece : List ℕ) (guest other : ℕ) (state : DeskState) → is_item_of guest i ≡ true → other ≢ guest →
    IsUntouched other state (step setup i piece state).desk
