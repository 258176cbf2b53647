use Rattle.std.proofs.Common.{Option, Err, refl, sym, subst}
use Rattle.gui_wire.specs.AgentMessages.{AgentMessage}
use Rattle.gui_wire.specs.Seen.{message}
use Rattle.desk_laws.specs.Effects.{message_verdict}
use Rattle.guest_session.specs.Desk.{sizes_in}
use Rattle.guest_session.specs.Obeyed.{Carries}
use Rattle.guest_session.proofs.ObeyLemmas.{can-obey, message-carried, message-refused}
use Rattle.guest_session.proofs.obey.take.Goals as goal

pub obey-requires-clause-can : goal.obey-requires-clause-can
obey-requires-clause-can g c =
    can-obey c.args.rows.now c.args.header (message c.in-Ok.msg) c.in-Ok-check.command c.in-Ok.ensures.lengths c.in-Ok-check.ensures.command c.in-Ok-check.ensures.first

pub returns-in-Ok-check-clause-carries : goal.returns-in-Ok-check-clause-carries
returns-in-Ok-check-clause-carries g c =
    let rows = c.args.rows.now in
    let sizes = sizes_in c.args.desk.now c.args.rows.now in
    let port = g.P.FramePort.state c.args.port.now rows.guest in
    let port' = g.P.FramePort.state c.obey.new.port rows.guest in
    let m = message c.in-Ok.msg in
    let P : Option AgentMessage → Type 0 = λ o. Carries g.O.Outlet.takes c.args.out.now c.obey.new.out port port' rows c.obey.new.rows c.obey.result (message_verdict sizes rows.guest c.args.minor rows.rows c.args.header o) in
    subst P (sym c.in-Ok.ensures.reads)
    (message-carried g.O.Outlet.takes c.args.out.now c.obey.new.out port port' rows c.obey.new.rows c.obey.result sizes c.args.minor c.args.header m c.in-Ok-check.command refl refl c.in-Ok-check.ensures.command c.in-Ok-check.ensures.first c.obey.ensures.obeyed)

pub returns-in-Err-check-clause-carries : goal.returns-in-Err-check-clause-carries
returns-in-Err-check-clause-carries g c =
    let rows = c.args.rows.now in
    let sizes = sizes_in c.args.desk.now c.args.rows.now in
    let port = g.P.FramePort.state c.args.port.now rows.guest in
    let m = message c.in-Ok.msg in
    let P : Option AgentMessage → Type 0 = λ o. Carries g.O.Outlet.takes c.args.out.now c.args.out.now port port rows rows (Err c.in-Err-check.cause) (message_verdict sizes rows.guest c.args.minor rows.rows c.args.header o) in
    subst P (sym c.in-Ok.ensures.reads)
    (message-refused g.O.Outlet.takes c.args.out.now port rows sizes c.args.minor c.args.header m c.in-Err-check.cause refl c.in-Err-check.ensures.first)
