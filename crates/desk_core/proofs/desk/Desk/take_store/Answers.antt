use Rattle.std.proofs.Common.{subst}
use Rattle.desk_laws.specs.declared.setup.Setup.{Setup}
use Rattle.desk_laws.specs.State.{DeskState}
use Rattle.desk_laws.specs.Steps.{take_store}
use Rattle.desk_core.specs.DeskView.{DeskView}
use Rattle.desk_core.specs.WindowsStand.{AreAtRest, StoresTo}
use Rattle.desk_core.proofs.desk.Desk.take_store.Goals as goal

pub returns-clause-took : goal.returns-clause-took
returns-clause-took g c =
    let D : DeskView → Type 0 = λ d. (setup : Setup) (state : DeskState) → AreAtRest setup d.windows (g.P.FramePort.state c.args.port.now) state
    → StoresTo setup d.windows (g.P.FramePort.state c.take_store.new.port) (take_store c.args.guest c.args.delay c.args.page c.args.offset c.args.piece.now state) in
    subst D c.self.view_is c.take_store.ensures.took
