use Rattle.std.proofs.Common.{subst}
use Rattle.desk_core.specs.DeskView.{DeskView}
use Rattle.desk_core.specs.EventItems.{TakesOn}
use Rattle.desk_core.proofs.EventItems.{event-seated}
use Rattle.desk_core.proofs.desk.Desk.event.Goals as goal

pub invariant_of-self : goal.invariant_of-self
invariant_of-self g c =
    let old : DeskView = record { windows = c.self.inside.windows; seat = c.self.inside.router } in
    let new : DeskView = record { windows = c.event.new.self; seat = c.event.new.router } in
    event-seated g.O.Outlet.takes c.args.out.now c.event.new.out c.args.item.now old new c.event.ensures.event c.self.invariant

pub returns-clause-took : goal.returns-clause-took
returns-clause-took g c =
    let new : DeskView = record { windows = c.event.new.self; seat = c.event.new.router } in
    subst (λ (d : DeskView). TakesOn g.O.Outlet.takes c.args.out.now c.event.new.out c.args.item.now d new) c.self.view_is c.event.ensures.event
