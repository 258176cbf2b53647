use Rattle.std.proofs.Common.{◌∙◌, ℕ, List, ◌++◌, take, drop, length, subst, sym, arith}
use Rattle.desk_laws.specs.declared.setup.Setup.{Setup}
use Rattle.desk_laws.specs.Frames.{PortState}
use Rattle.desk_laws.specs.State.{DeskState}
use Rattle.desk_laws.specs.Steps.{event}
use Rattle.guest_session.specs.SessionView.{SessionView}
use Rattle.desk_core.specs.EventSteps.{EventsTo}
use Rattle.desk_core.specs.Kept.{IsKept}
use Rattle.desk_core.specs.Scenes.{KeepSessions, TakePastes}
use Rattle.desk_core.specs.Seated.{AreSeated}
use Rattle.desk_core.specs.Settling.{HasSeat}
use Rattle.desk_core.specs.WindowsStand.{StandsWith}
use Rattle.desk_core.specs.WindowsView.{WindowsView}
use Rattle.desk_core.proofs.EventStands.{event-seen, event-stands, event-sessions, event-room, windows-take, written-back}
use Rattle.desk_core.proofs.OutputLemmas.{lies-wide}
use Rattle.desk_core.proofs.windows.Windows.event.Goals as goal

pub take_event-requires-clause-pastes : goal.take_event-requires-clause-pastes
take_event-requires-clause-pastes g c =
    let i = c.self.inside in
    let kept = c.self.invariant.0 in
    subst (TakePastes i.gate) (sym c.deref_mut.ensures.value) (windows-take kept.setup kept.held _ kept.frames kept.state kept.stands)

pub take_event-requires-clause-outputs : goal.take_event-requires-clause-outputs
take_event-requires-clause-outputs g c =
    let picture = c.self.inside.picture in
    let n = c.self.invariant.0.stands.numbers in
    lies-wide picture.width picture.height c.outputs.result.now (omega (arith, n.width, n.most_columns)) (omega (arith, n.height, n.most_rows)) c.outputs.ensures.placed

pub invariant_of-self : goal.invariant_of-self
invariant_of-self g c =
    let i = c.self.inside in
    let new = c.take_event.new in
    let desk : WindowsView = record { border = i.border; labels = i.labels.items; sessions = i.sessions.items; layers = i.stack.layers; gate = i.gate; denied = i.denied.items; items = i.items; messages = i.messages; glances = i.glances; picture = i.picture } in
    let taken = event-seen g.O.Outlet.takes c.args.out.now new.out c.args.item.now desk c.deref_mut.result.now new.sessions new.stack.layers new.gate c.args.router.now new.router
    c.outputs.result.now c.deref.result.now c.deref_mut.ensures.value c.outputs.ensures.is c.deref.ensures.value c.take_event.ensures.takes in
    let seated : AreSeated desk c.args.router.now = subst (λ (w : WindowsView). AreSeated w c.args.router.now) (sym c.self.view_is) c.requires in
    let kept = event-room g.O.Outlet.takes c.args.out.now new.out c.args.item.now desk new.sessions new.stack.layers new.gate c.args.router.now new.router taken
    i.stack.rows new.stack.rows c.self.invariant.0 c.take_event.ensures.rows seated in
    let P : List SessionView → Type 0 = λ ss. IsKept new.stack.rows (record { border = i.border; labels = i.labels.items; sessions = ss; layers = new.stack.layers; gate = new.gate; denied = i.denied.items; items = i.items; messages = i.messages; glances = i.glances; picture = i.picture }) in
    let back = written-back i.sessions.len new.sessions (drop (length new.sessions) i.sessions.items) (c.take_event.ensures.count ∙ c.deref_mut.ensures.len) in
    (subst P (sym back) kept, omega (arith, c.take_event.ensures.rows, c.self.invariant.1))

pub returns-clause-kept : goal.returns-clause-kept
returns-clause-kept g c =
    let i = c.self.inside in
    let new = c.take_event.new in
    let desk : WindowsView = record { border = i.border; labels = i.labels.items; sessions = i.sessions.items; layers = i.stack.layers; gate = i.gate; denied = i.denied.items; items = i.items; messages = i.messages; glances = i.glances; picture = i.picture } in
    let taken = event-seen g.O.Outlet.takes c.args.out.now new.out c.args.item.now desk c.deref_mut.result.now new.sessions new.stack.layers new.gate c.args.router.now new.router
    c.outputs.result.now c.deref.result.now c.deref_mut.ensures.value c.outputs.ensures.is c.deref.ensures.value c.take_event.ensures.takes in
    let seated : AreSeated desk c.args.router.now = subst (λ (w : WindowsView). AreSeated w c.args.router.now) (sym c.self.view_is) c.requires in
    let kept = event-sessions g.O.Outlet.takes c.args.out.now new.out c.args.item.now desk new.sessions new.stack.layers new.gate c.args.router.now new.router taken seated in
    let back = written-back i.sessions.len new.sessions (drop (length new.sessions) i.sessions.items) (c.take_event.ensures.count ∙ c.deref_mut.ensures.len) in
    let after : List SessionView = take i.sessions.len (new.sessions ++ drop (length new.sessions) i.sessions.items) in
    subst (λ (w : WindowsView). KeepSessions w.sessions after) c.self.view_is (subst (KeepSessions i.sessions.items) (sym back) kept)

pub returns-clause-event : goal.returns-clause-event
returns-clause-event g c =
    let i = c.self.inside in
    let new = c.take_event.new in
    let desk : WindowsView = record { border = i.border; labels = i.labels.items; sessions = i.sessions.items; layers = i.stack.layers; gate = i.gate; denied = i.denied.items; items = i.items; messages = i.messages; glances = i.glances; picture = i.picture } in
    let taken = event-seen g.O.Outlet.takes c.args.out.now new.out c.args.item.now desk c.deref_mut.result.now new.sessions new.stack.layers new.gate c.args.router.now new.router
    c.outputs.result.now c.deref.result.now c.deref_mut.ensures.value c.outputs.ensures.is c.deref.ensures.value c.take_event.ensures.takes in
    let stands = event-stands g.O.Outlet.takes c.args.out.now new.out c.args.item.now desk new.sessions new.stack.layers new.gate c.args.router.now new.router taken in
    let P : List SessionView → Type 0 = λ ss. (setup : Setup) (held : ℕ → List ℕ) (frames : ℕ → PortState) (state : DeskState) → StandsWith setup held desk frames state → HasSeat setup c.args.router.now state
    → EventsTo g.O.Outlet.takes c.args.out.now new.out setup held (record { border = i.border; labels = i.labels.items; sessions = ss; layers = new.stack.layers; gate = new.gate; denied = i.denied.items; items = i.items; messages = i.messages; glances = i.glances; picture = i.picture }) frames new.router (event setup c.args.item.now state) in
    let back = written-back i.sessions.len new.sessions (drop (length new.sessions) i.sessions.items) (c.take_event.ensures.count ∙ c.deref_mut.ensures.len) in
    let done = subst P (sym back) stands in
    λ setup held frames state is has. done setup held frames state (subst (λ (w : WindowsView). StandsWith setup held w frames state) (sym c.self.view_is) is) has
