-- What the end of a guest's session leaves of it.
use Rattle.std.specs.Prelude.{◌≡◌, ℕ, ◌<◌, Bool, true, false, ◌==◌, List, [], length, Some, None}
use Rattle.desk_laws.specs.declared.setup.Setup.{Setup}
use Rattle.desk_laws.specs.declared.cause.Cause.{Cause}
use Rattle.desk_laws.specs.declared.item.Item.{Item}
use Rattle.desk_laws.specs.declared.item.Item.TheVariants.{Bytes, Closed, Store, Lost}
use Rattle.desk_laws.specs.Rows.{mine}
use Rattle.desk_laws.specs.State.{DeskState, session_of, stays, count_item}
use Rattle.desk_laws.specs.Steps.{step}

-- nothing is left of a guest's windows and bytes
pub record IsGone (guest : ℕ) (state : DeskState) : Type 0 where
  pub rows : mine guest state.scene.rows ≡ []
  pub rest : (session_of guest state).rest ≡ []

-- an item at which a guest's session ends, whatever item it is, leaves nothing of the guest
abbrev pub EndsLeaveNothing : Type 0
EndsLeaveNothing =
    (setup : Setup) (i : Item) (piece : List ℕ) (guest : ℕ) (cause : Cause) (state : DeskState) → guest < length state.sessions →
    (session_of guest state).ended ≡ None → (session_of guest (step setup i piece state).desk).ended ≡ Some cause →
    IsGone guest (step setup i piece state).desk

-- an item of this guest's session: its bytes, their end, a change of its frames, or its lost link
abbrev pub is_item_of : ℕ → Item → Bool
is_item_of guest (Bytes g) = g == guest
is_item_of guest (Closed g) = g == guest
is_item_of guest (Store g delay page offset) = g == guest
is_item_of guest (Lost g) = g == guest
is_item_of guest i = false

-- an item of a session that has ended counts, and does nothing else
abbrev pub EndedDoesNothing : Type 0
EndedDoesNothing =
    (setup : Setup) (i : Item) (piece : List ℕ) (guest : ℕ) (cause : Cause) (state : DeskState) → is_item_of guest i ≡ true →
    (session_of guest state).ended ≡ Some cause → step setup i piece state ≡ stays (count_item state)
