-- What is true of each desk.
use Rattle.std.specs.Prelude.{ℕ, List}
use Rattle.desk_laws.specs.declared.setup.Setup.{Setup}
use Rattle.desk_laws.specs.Frames.{PortState}
use Rattle.desk_laws.specs.Scene.{Seat}
use Rattle.desk_laws.specs.State.{DeskState}
use Rattle.desk_core.specs.Settling.{HasSeat}
use Rattle.desk_core.specs.WindowsStand.{StandsWith}
use Rattle.desk_core.specs.WindowsView.{WindowsView}

-- the windows and the seat are those of some state in which focus and hover were told as they are
pub record AreSeated (windows : WindowsView) (seat : Seat) : Type 0 where
  pub setup : Setup
  pub held : ℕ → List ℕ
  pub frames : ℕ → PortState
  pub state : DeskState
  pub stands : StandsWith setup held windows frames state
  pub seated : HasSeat setup seat state
