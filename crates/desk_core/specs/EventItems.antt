-- What an event of the user does to a desk.
use Rattle.std.specs.Prelude.{ℕ, List}
use Rattle.desk_laws.specs.declared.item.Item.{Item}
use Rattle.desk_laws.specs.declared.setup.Setup.{Setup}
use Rattle.desk_laws.specs.Frames.{PortState}
use Rattle.desk_laws.specs.Scene.{Post}
use Rattle.desk_laws.specs.State.{DeskState}
use Rattle.desk_laws.specs.Steps.{event}
use Rattle.desk_core.specs.DeskView.{DeskView}
use Rattle.desk_core.specs.EventSteps.{EventsTo}
use Rattle.desk_core.specs.Settling.{HasSeat}
use Rattle.desk_core.specs.WindowsStand.{StandsWith}

-- an event was taken on every state that these windows and this seat stand for
abbrev pub TakesOn : {O : Type 0} → (O → Post → O → Type 0) → O → O → Item → DeskView → DeskView → Type 0
TakesOn takes out out' i old new =
    (setup : Setup) (held : ℕ → List ℕ) (frames : ℕ → PortState) (state : DeskState) → StandsWith setup held old.windows frames state → HasSeat setup old.seat state
    → EventsTo takes out out' setup held new.windows frames new.seat (event setup i state)
