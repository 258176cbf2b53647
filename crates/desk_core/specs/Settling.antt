-- What is told, and what is told of focus and hover behind it.
use Rattle.std.specs.Prelude.{◌≡◌, ℕ, List, []}
use Rattle.desk_laws.specs.declared.setup.Setup.{Setup}
use Rattle.desk_laws.specs.Frames.{PortState}
use Rattle.desk_laws.specs.Scene.{Post, Seat}
use Rattle.desk_laws.specs.Settle.{IsSettled, settle}
use Rattle.desk_laws.specs.Sizes.{sizes_of}
use Rattle.desk_laws.specs.State.{DeskState, StepOutcome, on_desk, step_after}
use Rattle.io_ports.specs.Posts.{Leads}
use Rattle.desk_core.specs.DeskPosts.{guest_posts}
use Rattle.desk_core.specs.WindowsStand.{StandsWith}
use Rattle.desk_core.specs.WindowsView.{WindowsView}

-- focus and hover are told of a state
abbrev pub settle_state : Setup → DeskState → StepOutcome
settle_state setup state = on_desk (settle (sizes_of setup) state.scene) [] state

-- what came of some steps, with focus and hover told behind them
abbrev pub settled_after : Setup → StepOutcome → StepOutcome
settled_after setup before = step_after before (settle_state setup before.desk)

-- the seat is that of a state in which focus and hover were told as they are
pub record HasSeat (setup : Setup) (seat : Seat) (state : DeskState) : Type 0 where
  pub same : state.scene.seat ≡ seat
  pub settled : IsSettled (sizes_of setup) state.scene

-- windows and a seat that stand for a state once focus and hover were told of it, and an outlet that took what was told
pub record SettlesTo {O : Type 0} (takes : O → Post → O → Type 0) (out out' : O) (setup : Setup) (held : ℕ → List ℕ) (windows : WindowsView) (frames : ℕ → PortState) (seat : Seat) (state : DeskState) : Type 0 where
  pub stands : StandsWith setup held windows frames (settle_state setup state).desk
  pub seated : HasSeat setup seat (settle_state setup state).desk
  pub posts : Leads takes out (guest_posts (settle_state setup state).posts) out'
