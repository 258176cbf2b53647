use Rattle.desk_laws.specs.declared.setup.Setup.{Setup}
use Rattle.desk_laws.specs.Scene.{Scene}
use Rattle.input_router.specs.Routes.{Takes}
use Rattle.desk_core.specs.Queued.{Queues}
use Rattle.desk_core.proofs.EventTurns.{event-routed, event-performed, move-found}
use Rattle.desk_core.proofs.events.perform_event.Goals as goal

pub returns-clause-performs : goal.returns-clause-performs
returns-clause-performs g c = λ setup scene border pairs on is holds still.
    let sessions = c.args.sessions.now in
    let layers = c.args.stack.now.layers in
    let seat = c.args.router.now in
    let item = c.args.item.now in
    let P : Setup → Scene → Type 0 = λ s t. Takes Queues c.new-queue.result c.take-taken.new.to c.take-taken.new.self layers c.take-taken.new.stack.layers c.take-taken.result s item t in
    event-performed g.O.Outlet.takes c.args.out.now c.carry_out.new.out sessions c.carry_out.new.sessions layers c.take-taken.new.stack.layers c.args.gate.now c.carry_out.new.gate seat c.take-taken.new.self c.take-taken.result
    c.args.denied.now c.new-queue.result c.take-taken.new.to setup item scene pairs is holds still c.new-queue.ensures
    (event-routed P c.args.border setup item sessions layers seat scene border on is still c.take-taken.ensures.takes) c.carry_out.ensures.kept c.carry_out.ensures.delivers

pub returns-clause-finds : goal.returns-clause-finds
returns-clause-finds g c = λ setup scene border on is still left.
    let sessions = c.args.sessions.now in
    let layers = c.args.stack.now.layers in
    let seat = c.args.router.now in
    let item = c.args.item.now in
    let P : Setup → Scene → Type 0 = λ s t. Takes Queues c.new-queue.result c.take-taken.new.to c.take-taken.new.self layers c.take-taken.new.stack.layers c.take-taken.result s item t in
    let takes = event-routed P c.args.border setup item sessions layers seat scene border on is still c.take-taken.ensures.takes in
    move-found setup item scene c.take-taken.result.settled c.take-taken.result.hover on takes.settled takes.finds still left
