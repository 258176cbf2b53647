-- What is true of each desk.
use Rattle.std.specs.Prelude.{ℕ, ◌*◌, ◌≤◌, List}
use Rattle.desk_laws.specs.declared.limits.TheConstants.{MAX_WINDOWS}
use Rattle.desk_laws.specs.declared.setup.Setup.{Setup}
use Rattle.desk_laws.specs.Frames.{PortState}
use Rattle.desk_laws.specs.State.{DeskState}
use Rattle.desk_core.specs.WindowsView.{WindowsView, guests_of}
use Rattle.desk_core.specs.WindowsStand.{StandsWith}

-- the desk stands for some state, and there is room in the stack for all windows that its guests may have
pub record IsKept (room : ℕ) (desk : WindowsView) : Type 0 where
  pub setup : Setup
  pub held : ℕ → List ℕ
  pub frames : ℕ → PortState
  pub state : DeskState
  pub stands : StandsWith setup held desk frames state
  pub roomy : MAX_WINDOWS * guests_of desk ≤ room
