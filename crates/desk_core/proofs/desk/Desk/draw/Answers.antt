use Rattle.std.proofs.Common.{◌≡◌, ℕ, subst}
use Rattle.desk_laws.specs.declared.setup.Setup.{Setup}
use Rattle.desk_laws.specs.Frames.{PortState}
use Rattle.desk_laws.specs.State.{DeskState}
use Rattle.desk_core.specs.DeskView.{DeskView}
use Rattle.desk_core.specs.Painting.{plane}
use Rattle.desk_core.specs.WindowsStand.{AreAtRest}
use Rattle.desk_core.proofs.desk.Desk.draw.Goals as goal

pub returns-clause-pixels : goal.returns-clause-pixels
returns-clause-pixels c =
    let D : DeskView → Type 0 = λ d. (setup : Setup) (frames : ℕ → PortState) (state : DeskState) → AreAtRest setup d.windows frames state
    → c.draw.new.self.picture.pixels ≡ plane setup state.scene.rows state.scene.layers in
    subst D c.self.view_is c.draw.ensures.pixels
