use Rattle.std.proofs.Common.{refl, subst, rules}
use Rattle.desk_laws.specs.declared.item.Item.{Item}
use Rattle.desk_laws.specs.Events.{route}
use Rattle.desk_laws.specs.Scene.{perform}
use Rattle.desk_laws.specs.Sizes.{sizes_of}
use Rattle.desk_core.specs.EventSteps.{FindsBehind}
use Rattle.desk_core.proofs.SceneLemmas.{takes-still}
use Rattle.desk_core.proofs.EventTurns.{event-ignored, event-silent, event-taken}
use Rattle.desk_core.proofs.events.take_event.Goals as goal

pub settle-requires-clause-takes : goal.settle-requires-clause-takes
settle-requires-clause-takes g c =
    takes-still c.args.gate.now c.perform_event-taken.new.gate c.args.sessions.now c.perform_event-taken.new.sessions c.requires.pastes c.perform_event-taken.ensures.sessions c.perform_event-taken.ensures.limit

pub returns-then-not-stays_on-clause-takes : goal.returns-then-not-stays_on-clause-takes
returns-then-not-stays_on-clause-takes g c = λ setup scene border shown pairs is holds still.
    event-ignored g.O.Outlet.takes c.args.out.now c.args.sessions.now c.args.stack.now.layers c.args.gate.now c.args.router.now setup c.args.item.now scene
    (c.stays_on.ensures.off c.if-not-stays_on.true setup scene shown) is holds still

pub settle_at-requires-clause-takes : goal.settle_at-requires-clause-takes
settle_at-requires-clause-takes g c =
    takes-still c.args.gate.now c.perform_event-taken.new.gate c.args.sessions.now c.perform_event-taken.new.sessions c.requires.pastes c.perform_event-taken.ensures.sessions c.perform_event-taken.ensures.limit

pub returns-then-taken-clause-takes : goal.returns-then-taken-clause-takes
returns-then-taken-clause-takes g c = λ setup scene border shown pairs is holds still.
    let performed = c.perform_event-taken.ensures.performs setup scene border pairs (c.if-not-stays_on.ensures.on refl setup shown) is holds still in
    event-silent g.O.Outlet.takes c.args.out.now c.perform_event-taken.new.out c.args.sessions.now c.perform_event-taken.new.sessions
    c.perform_event-taken.new.stack.layers c.perform_event-taken.new.gate c.perform_event-taken.new.router c.perform_event-taken.result.settled (sizes_of setup) _ performed c.if-taken.true

pub returns-in-Move-clause-takes : goal.returns-in-Move-clause-takes
returns-in-Move-clause-takes g c = λ setup scene border shown pairs is holds still.
    let on = c.if-not-stays_on.ensures.on refl setup shown in
    let performed = c.perform_event-taken.ensures.performs setup scene border pairs on is holds still in
    let P : Item → Type 0 = λ i. FindsBehind i (sizes_of setup) (perform setup.denied (route setup c.args.item.now scene) scene).scene c.perform_event-taken.result.hover in
    let known = subst P c.in-Move.is (c.perform_event-taken.ensures.finds setup scene border on is still c.if-taken.false) in
    event-taken g.O.Outlet.takes c.args.out.now c.perform_event-taken.new.out c.settle_at.new.out c.args.sessions.now c.perform_event-taken.new.sessions c.settle_at.new.sessions
    c.perform_event-taken.new.stack.layers c.perform_event-taken.new.gate c.settle_at.new.gate c.perform_event-taken.new.router c.settle_at.new.router c.perform_event-taken.result.settled (sizes_of setup) _ performed
    (c.settle_at.ensures (sizes_of setup) _ border performed.scene performed.clip known)

pub returns-in_default : goal.returns-in_default
returns-in_default g c = record {
  rows = c.perform_event-taken.ensures.rows;
  count = search rules;
  takes = λ setup scene border shown pairs is holds still.
      let performed = c.perform_event-taken.ensures.performs setup scene border pairs (c.if-not-stays_on.ensures.on refl setup shown) is holds still in
      event-taken g.O.Outlet.takes c.args.out.now c.perform_event-taken.new.out c.settle.new.out c.args.sessions.now c.perform_event-taken.new.sessions c.settle.new.sessions
      c.perform_event-taken.new.stack.layers c.perform_event-taken.new.gate c.settle.new.gate c.perform_event-taken.new.router c.settle.new.router c.perform_event-taken.result.settled (sizes_of setup) _ performed
      (c.settle.ensures (sizes_of setup) _ border performed.scene performed.clip);
}
