use Rattle.std.proofs.Common.{length}
use Rattle.desk_laws.specs.declared.setup.Setup.{Setup}
use Rattle.desk_laws.specs.State.{DeskState}
use Rattle.desk_laws.specs.Steps.{take_bytes}
use Rattle.frame_pool.specs.Ports.{ChangesFrames}
use Rattle.desk_core.specs.DeskStands.{IsAtRest}
use Rattle.desk_core.specs.DeskView.{session_in}
use Rattle.desk_core.specs.Pieces.{Drained}
use Rattle.desk_core.specs.PieceSteps.{IsAlong}
use Rattle.desk_core.specs.WindowsView.{ChangesPart, put}
use Rattle.desk_core.proofs.desk.Desk.take_piece.Given as goal

abbrev pub invariant-loop-left : goal.invariant-loop-left
invariant-loop-left g l = record {
  alone : ChangesPart l.fn.guest l.fn.self.windows l.self.windows;
  port : ChangesFrames g.P.FramePort.guests g.P.FramePort.pages g.P.FramePort.state l.fn.guest l.fn.port l.port;
  drained : Drained (session_in l.fn.guest l.self);
  along : (setup : Setup) (state : DeskState) → IsAtRest setup l.fn.self (g.P.FramePort.state l.fn.port) state
      → IsAlong g.O.Outlet.takes l.fn.out l.out setup l.fn.guest state l.self (put l.fn.guest (g.P.FramePort.state l.port l.fn.guest) (g.P.FramePort.state l.fn.port)) l.left (take_bytes setup l.fn.guest l.fn.piece state);
}

abbrev pub decreases-loop-left : goal.decreases-loop-left
decreases-loop-left g l = length l.left
