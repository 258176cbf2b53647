use Rattle.std.proofs.Common.{ℕ, subst}
use Rattle.desk_laws.specs.declared.setup.Setup.{Setup}
use Rattle.desk_laws.specs.Frames.{PortState}
use Rattle.desk_laws.specs.Scene.{Input}
use Rattle.desk_laws.specs.State.{DeskState}
use Rattle.desk_laws.specs.Steps.{end_session}
use Rattle.desk_core.specs.DeskStands.{IsAtRest, StepsTo}
use Rattle.desk_core.specs.DeskView.{DeskView}
use Rattle.desk_core.proofs.PieceLemmas.{ends-settled, seated-ended}
use Rattle.desk_core.proofs.desk.Desk.end.Goals as goal

pub invariant_of-self : goal.invariant_of-self
invariant_of-self g c =
    seated-ended g.O.Outlet.takes c.end-told.new.out c.settle.new.out c.self.inside.windows c.end-told.new.self c.settle.new.self c.self.inside.router c.settle.new.router c.end-told.result
    c.self.invariant c.end-told.ensures.stands c.settle.ensures.settles

pub returns-clause-took : goal.returns-clause-took
returns-clause-took g c =
    let inside = c.self.inside in
    let D : DeskView → Type 0 = λ d. (setup : Setup) (frames : ℕ → PortState) (input : Input) (state : DeskState) → IsAtRest setup d frames state
    → StepsTo g.O.Outlet.takes c.args.out.now c.settle.new.out setup (record { windows = c.settle.new.self; seat = c.settle.new.router }) frames (end_session setup c.args.guest input c.args.cause state) in
    subst D c.self.view_is (λ setup frames input state rests.
    ends-settled g.O.Outlet.takes c.args.out.now c.end-told.new.out setup (record { windows = inside.windows; seat = inside.router }) c.end-told.new.self frames state c.end-told.result
    (end_session setup c.args.guest input c.args.cause state) rests.seated (c.end-told.ensures.took setup frames input state rests.windows)
    c.settle.new.out c.settle.new.self c.settle.new.router c.settle.ensures.same c.settle.ensures.settles)
