-- It doesn't matter in which pieces a guest's bytes come.
use Rattle.std.specs.Prelude.{◌≡◌, ℕ, ◌<◌, List, [], ◌∷◌, ◌++◌, length}
use Rattle.desk_laws.specs.declared.setup.Setup.{Setup}
use Rattle.desk_laws.specs.declared.item.Item.TheVariants.{Bytes}
use Rattle.desk_laws.specs.Items.{FedItem}
use Rattle.desk_laws.specs.State.{DeskState, StepOutcome}
use Rattle.desk_laws.specs.Steps.{run}

-- a piece of a guest's bytes
abbrev pub piece_of : ℕ → List ℕ → FedItem
piece_of guest piece = record { item = Bytes guest; piece = piece }

-- a state with this count of items
abbrev pub with_items : ℕ → DeskState → DeskState
with_items n desk = record desk { counts = record desk.counts { items = n } }

-- what came out, with this count of items in the state
abbrev pub with_items_out : ℕ → StepOutcome → StepOutcome
with_items_out n outcome = record outcome { desk = with_items n outcome.desk }

-- the same posts, inputs, readings and state, but for the count of items
abbrev pub AreSameButItems : StepOutcome → StepOutcome → Type 0
AreSameButItems a b = with_items_out 0 a ≡ with_items_out 0 b

-- two pieces of a guest's bytes do what one piece does that is both, whatever becomes of the session
abbrev pub PiecesJoin : Type 0
PiecesJoin =
    (setup : Setup) (guest : ℕ) (first second : List ℕ) (state : DeskState) → guest < length state.sessions →
    AreSameButItems
    (run setup (piece_of guest first ∷ piece_of guest second ∷ []) state)
    (run setup (piece_of guest (first ++ second) ∷ []) state)
