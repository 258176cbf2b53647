use Rattle.std.proofs.Common.{ℕ, ◌<◌, List, ap, subst, arith}
use Rattle.desk_laws.specs.declared.setup.Setup.{Setup}
use Rattle.desk_laws.specs.Frames.{PortState}
use Rattle.desk_laws.specs.State.{DeskState}
use Rattle.desk_core.specs.DeskView.{DeskView, guests_of}
use Rattle.desk_core.specs.PieceSteps.{TookSome}
use Rattle.desk_core.specs.Settling.{HasSeat}
use Rattle.desk_core.specs.WindowsStand.{StandsWith}
use Rattle.desk_core.specs.WindowsView.{put}
use Rattle.desk_core.proofs.JoinLemmas.{own-part}
use Rattle.desk_core.proofs.PieceLemmas.{seated-settled, took-settled}
use Rattle.desk_core.proofs.desk.Desk.take_turn.Goals as goal

pub invariant_of-self : goal.invariant_of-self
invariant_of-self g c =
    let turn = c.turn-told.ensures in
    seated-settled g.O.Outlet.takes c.args.out.now c.turn-told.new.out c.settle.new.out c.args.guest c.self.inside.windows c.turn-told.new.self c.settle.new.self c.self.inside.router c.settle.new.router
    (g.P.FramePort.state c.args.port.now c.args.guest) (g.P.FramePort.state c.turn-told.new.port c.args.guest) c.turn-told.result c.self.invariant
    (omega (arith, c.requires.there, ap guests_of c.self.view_is)) turn.took turn.alone c.settle.ensures.same c.settle.ensures.settles

pub returns-clause-took : goal.returns-clause-took
returns-clause-took g c =
    let turn = c.turn-told.ensures in
    let guest = c.args.guest in
    let inside = c.self.inside in
    let old = g.P.FramePort.state c.args.port.now guest in
    let new = g.P.FramePort.state c.turn-told.new.port guest in
    let there : guest < guests_of (record { windows = inside.windows; seat = inside.router }) = omega (arith, c.requires.there, ap guests_of c.self.view_is) in
    let D : DeskView → Type 0 = λ d. (setup : Setup) (held : List ℕ) (others : ℕ → List ℕ) (frames : ℕ → PortState) (state : DeskState)
    → StandsWith setup (put guest held others) d.windows (put guest old frames) state → HasSeat setup d.seat state
    → TookSome g.O.Outlet.takes c.args.out.now c.settle.new.out setup guest held others d (record { windows = c.settle.new.self; seat = c.settle.new.router }) (put guest new frames) state in
    subst D c.self.view_is (λ setup held others frames state stands seated.
    took-settled g.O.Outlet.takes c.args.out.now c.turn-told.new.out setup guest held others (record { windows = inside.windows; seat = inside.router }) c.turn-told.new.self
    old new frames state c.turn-told.result stands seated (turn.took setup held state (own-part setup guest held others inside.windows old frames state stands there)) turn.alone
    c.settle.new.out c.settle.new.self c.settle.new.router c.settle.ensures.same c.settle.ensures.settles)
