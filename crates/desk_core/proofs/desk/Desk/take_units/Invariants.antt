use Rattle.std.proofs.Common.{ℕ, List}
use Rattle.desk_laws.specs.declared.setup.Setup.{Setup}
use Rattle.desk_laws.specs.Frames.{PortState}
use Rattle.desk_laws.specs.State.{DeskState}
use Rattle.frame_pool.specs.Ports.{ChangesFrames}
use Rattle.desk_core.specs.DeskView.{session_in}
use Rattle.desk_core.specs.Pieces.{held_by}
use Rattle.desk_core.specs.PieceSteps.{TookSome}
use Rattle.desk_core.specs.Settling.{HasSeat}
use Rattle.desk_core.specs.WindowsStand.{StandsWith}
use Rattle.desk_core.specs.WindowsView.{ChangesPart, put}
use Rattle.desk_core.proofs.desk.Desk.take_units.Given as goal

abbrev pub invariant-loop : goal.invariant-loop
invariant-loop g l = record {
  alone : ChangesPart l.guest l.initial.self.windows l.self.windows;
  port : ChangesFrames g.P.FramePort.guests g.P.FramePort.pages g.P.FramePort.state l.guest l.initial.port l.port;
  took : (setup : Setup) (held : List ℕ) (others : ℕ → List ℕ) (frames : ℕ → PortState) (state : DeskState)
      → StandsWith setup (put l.guest held others) l.initial.self.windows (put l.guest (g.P.FramePort.state l.initial.port l.guest) frames) state → HasSeat setup l.initial.self.seat state
      → TookSome g.O.Outlet.takes l.initial.out l.out setup l.guest held others l.initial.self l.self (put l.guest (g.P.FramePort.state l.port l.guest) frames) state;
}

abbrev pub decreases-loop : goal.decreases-loop
decreases-loop g l = held_by (session_in l.guest l.self)
