-- What a guest is told and shown is what it would be alone, over the inputs that reach it and the words that are
-- read of its frames.
use Rattle.std.specs.Prelude.{◌≡◌, ℕ, ◌<◌, List, [], ◌++◌, length, Some}
use Rattle.std.specs.List.{All}
use Rattle.desk_laws.specs.declared.setup.Setup.{Setup}
use Rattle.desk_laws.specs.declared.cause.Cause.{Cause}
use Rattle.desk_laws.specs.declared.item.Item.{Item}
use Rattle.desk_laws.specs.declared.item.Item.TheVariants.{Bytes, Closed, Store, Lost}
use Rattle.desk_laws.specs.Items.{FedItem}
use Rattle.desk_laws.specs.Sizes.{sizes_of}
use Rattle.desk_laws.specs.Rows.{mine}
use Rattle.desk_laws.specs.State.{DeskState, StepOutcome, opening, session_of, inputs_of, readings_of, posts_of}
use Rattle.desk_laws.specs.Steps.{step, run}
use Rattle.isolation_laws.specs.Alone.{alone_run, newcomer, part_of}

-- a guest whose session has ended has no window
abbrev pub IsGoneIfEnded : ℕ → DeskState → Type 0
IsGoneIfEnded guest desk = (cause : Cause) → (session_of guest desk).ended ≡ Some cause → mine guest desk.scene.rows ≡ []

-- the guest of an item, if it has one, is one of so many
abbrev pub HasGuest : ℕ → Item → Type 0
HasGuest guests (Bytes guest) = guest < guests
HasGuest guests (Closed guest) = guest < guests
HasGuest guests (Store guest delay page offset) = guest < guests
HasGuest guests (Lost guest) = guest < guests
HasGuest guests i = Unit {0}

-- what came out for a guest, and its part of the state, is what it would be alone, from its part of the state
-- before, over its inputs, with its readings as tape (whatever it will read later)
pub record IsAsAlone (setup : Setup) (guest : ℕ) (before : DeskState) (outcome : StepOutcome) : Type 0 where
  pub same : (later : List ℕ) →
      alone_run (sizes_of setup) guest (inputs_of guest outcome.inputs) (part_of guest before (readings_of guest outcome.readings ++ later))
      ≡ record { alone = part_of guest outcome.desk later; posts = posts_of guest outcome.posts }
  pub gone : IsGoneIfEnded guest outcome.desk

-- each step is so for each guest
abbrev pub StepsAreAlone : Type 0
StepsAreAlone =
    (setup : Setup) (i : Item) (piece : List ℕ) (guest : ℕ) (state : DeskState) → HasGuest (length state.sessions) i →
    IsGoneIfEnded guest state → IsAsAlone setup guest state (step setup i piece state)

-- a whole run is so for each guest
abbrev pub RunsAreAlone : Type 0
RunsAreAlone =
    (setup : Setup) (items : List FedItem) (guest : ℕ) (state : DeskState) → All (λ i. HasGuest (length state.sessions) i.item) items →
    IsGoneIfEnded guest state → IsAsAlone setup guest state (run setup items state)

-- from the opening state on, a guest's posts are those of the guest alone, and it has its windows, with all their contents
abbrev pub OpenedRunsAreAlone : Type 0
OpenedRunsAreAlone =
    (setup : Setup) (items : List FedItem) (guest : ℕ) → All (λ i. HasGuest (length setup.guests) i.item) items →
    alone_run (sizes_of setup) guest (inputs_of guest (run setup items (opening setup)).inputs)
    (newcomer (readings_of guest (run setup items (opening setup)).readings))
    ≡ record { alone = part_of guest (run setup items (opening setup)).desk []; posts = posts_of guest (run setup items (opening setup)).posts }

-- two outcomes in which this guest has the same inputs and readings
pub record ReachAlike (guest : ℕ) (one two : StepOutcome) : Type 0 where
  pub inputs : inputs_of guest one.inputs ≡ inputs_of guest two.inputs
  pub readings : readings_of guest one.readings ≡ readings_of guest two.readings

-- two outcomes in which this guest was told the same, and has the same windows with the same contents
pub record ShowAlike (guest : ℕ) (one two : StepOutcome) : Type 0 where
  pub posts : posts_of guest one.posts ≡ posts_of guest two.posts
  pub rows : mine guest one.desk.scene.rows ≡ mine guest two.desk.scene.rows

-- two worlds, over setups that agree but for names and colours, that reach a guest alike show it alike
abbrev pub TwoWorlds : Type 0
TwoWorlds =
    (a b : Setup) (items others : List FedItem) (guest : ℕ) → sizes_of a ≡ sizes_of b →
    All (λ i. HasGuest (length a.guests) i.item) items → All (λ i. HasGuest (length b.guests) i.item) others →
    ReachAlike guest (run a items (opening a)) (run b others (opening b)) →
    ShowAlike guest (run a items (opening a)) (run b others (opening b))
