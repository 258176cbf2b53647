use Rattle.std.proofs.Common.{refl}
use Rattle.desk_laws.specs.Scene.{Closing, Losing}
use Rattle.desk_laws.specs.Steps.{take_store}
use Rattle.desk_core.proofs.EventItems.{event-item, event-left}
use Rattle.desk_core.proofs.JoinLemmas.{alone-none}
use Rattle.desk_core.proofs.StepLemmas.{bytes-item, closed-item, lost-item, snap-item, store-item, stored-scene, stores-steps}
use Rattle.desk_core.proofs.desk.Desk.take_item.Goals as goal

pub returns-in-Bytes-clause-took : goal.returns-in-Bytes-clause-took
returns-in-Bytes-clause-took g c =
    let piece = c.take_piece.ensures in
    bytes-item g.O.Outlet.takes c.args.out.now c.take_piece.new.out c.in-Bytes.guest c.args.piece.now c.args.self.now c.count_item.new.self c.take_piece.new.self (g.P.FramePort.state c.args.port.now) (g.P.FramePort.state c.take_piece.new.port)
    c.count_item.ensures piece.alone piece.port.others c.args.item.now c.in-Bytes.is piece.took

pub returns-in-Closed-clause-took : goal.returns-in-Closed-clause-took
returns-in-Closed-clause-took g c =
    let frames = g.P.FramePort.state c.args.port.now in
    closed-item g.O.Outlet.takes c.args.out.now c.end.new.out c.in-Closed.guest c.args.piece.now c.args.self.now c.count_item-in-Closed.new.self c.end.new.self frames frames
    c.count_item-in-Closed.ensures c.end.ensures.alone (λ other apart. refl) c.args.item.now c.in-Closed.is (λ setup state rests. c.end.ensures.took setup frames Closing state rests)

pub returns-in-Lost-clause-took : goal.returns-in-Lost-clause-took
returns-in-Lost-clause-took g c =
    let frames = g.P.FramePort.state c.args.port.now in
    lost-item g.O.Outlet.takes c.args.out.now c.end-in-Lost.new.out c.in-Lost.guest c.args.piece.now c.args.self.now c.count_item-in-Lost.new.self c.end-in-Lost.new.self frames frames
    c.count_item-in-Lost.ensures c.end-in-Lost.ensures.alone (λ other apart. refl) c.args.item.now c.in-Lost.is (λ setup state rests. c.end-in-Lost.ensures.took setup frames Losing state rests)

pub returns-in-Store-clause-took : goal.returns-in-Store-clause-took
returns-in-Store-clause-took g c =
    let desk = c.count_item-in-Store.new.self in
    let frames' = g.P.FramePort.state c.take_store.new.port in
    let i = c.in-Store in
    store-item g.O.Outlet.takes c.args.out.now c.args.out.now i.guest c.args.piece.now c.args.self.now desk desk (g.P.FramePort.state c.args.port.now) frames'
    c.count_item-in-Store.ensures (alone-none i.guest desk.windows) c.take_store.ensures.port.others c.args.item.now i.delay i.page i.offset i.is
    (λ setup state rests.
    stores-steps g.O.Outlet.takes c.args.out.now setup desk frames' state (take_store i.guest i.delay i.page i.offset c.args.piece.now state) rests.seated
    (c.take_store.ensures.took setup state rests.windows) (stored-scene i.guest i.delay i.page i.offset c.args.piece.now state))

pub returns-in-Snap-clause-took : goal.returns-in-Snap-clause-took
returns-in-Snap-clause-took g c =
    let draw = c.draw.ensures in
    snap-item g.O.Outlet.takes c.args.out.now c.args.item.now c.args.piece.now c.args.self.now c.count_item-in-Snap.new.self c.draw.new.self (g.P.FramePort.state c.args.port.now)
    c.in-Snap.is c.count_item-in-Snap.ensures draw.desk draw.sides draw.painted draw.pixels

pub returns-in_default-clause-took : goal.returns-in_default-clause-took
returns-in_default-clause-took g c =
    let d = c.in_default in
    let i = c.args.item.now in
    event-item g.O.Outlet.takes c.args.out.now c.event.new.out i c.args.piece.now c.args.self.now c.count_item-in_default.new.self c.event.new.self (g.P.FramePort.state c.args.port.now)
    (event-left i d.not-Bytes d.not-Closed d.not-Store d.not-Snap d.not-End d.not-Lost d.not-Idle) c.count_item-in_default.ensures c.event.ensures.took c.event.ensures.kept c.event.ensures.rest
