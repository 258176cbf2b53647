use Rattle.std.proofs.Common.{◌≡◌, ◌∙◌, ℕ, List, length, false, sym, ap, subst}
use Rattle.std.specs.Vec.{with_items}
use Rattle.std.proofs.lemmas.List.{with_items_is}
use Rattle.desk_laws.specs.declared.setup.Setup.{Setup}
use Rattle.desk_laws.specs.Frames.{PortState}
use Rattle.desk_laws.specs.Scene.{Scene}
use Rattle.desk_laws.specs.Settle.{IsSettled}
use Rattle.desk_laws.specs.Sizes.{Sizes, sizes_of}
use Rattle.desk_laws.specs.State.{DeskState}
use Rattle.clipboard_gate.specs.Kept.{GateView, keeping}
use Rattle.guest_session.specs.SessionView.{SessionView}
use Rattle.desk_core.specs.declared.windows.Windows.TheInside.{Inside}
use Rattle.desk_core.specs.Kept.{IsKept}
use Rattle.desk_core.specs.Scenes.{IsScene, Settles, TakePastes}
use Rattle.desk_core.specs.Settling.{SettlesTo}
use Rattle.desk_core.specs.Telling.{moves}
use Rattle.desk_core.specs.WindowsStand.{StandsWith}
use Rattle.desk_core.specs.WindowsView.{WindowsView}
use Rattle.desk_core.proofs.EventStands.{windows-take}
use Rattle.desk_core.proofs.WindowSettles.{settles-gate, settles-same, settles-to, still-to}
use Rattle.desk_core.proofs.windows.Windows.settle.Goals as goal

-- the windows with these sessions and this clipboard
abbrev in_view : Inside → GateView → List SessionView → WindowsView
in_view i gate ss = record { border = i.border; labels = i.labels.items; sessions = ss; layers = i.stack.layers; gate = gate; denied = i.denied.items; items = i.items; messages = i.messages; glances = i.glances; picture = i.picture }

pub settle-requires-clause-takes : goal.settle-requires-clause-takes
settle-requires-clause-takes g c =
    let i = c.self.inside in
    let kept = c.self.invariant.0 in
    subst (TakePastes i.gate) (sym c.deref_mut.ensures.value) (windows-take kept.setup kept.held _ kept.frames kept.state kept.stands)

pub invariant_of-self : goal.invariant_of-self
invariant_of-self g c =
    let i = c.self.inside in
    let D : List SessionView → Type 0 = λ ss. (sizes : Sizes) (scene : Scene) → sizes.border ≡ i.border → IsScene ss i.stack.layers c.args.router.now scene → i.gate ≡ keeping sizes.clip_limit scene.clip
    → Settles g.O.Outlet.takes c.args.out.now c.settle.new.out ss c.settle.new.sessions i.gate c.settle.new.gate c.settle.new.router sizes scene in
    let same : c.settle.new.sessions ≡ i.sessions.items =
    settles-same g.O.Outlet.takes c.args.out.now c.settle.new.out _ c.settle.new.sessions c.settle.new.gate c.args.router.now c.settle.new.router (subst D c.deref_mut.ensures.value c.settle.ensures) i.stack.rows c.self.invariant.0 in
    let items = with_items_is i.sessions c.settle.new.sessions (ap (λ (ss : List SessionView). length ss) (same ∙ sym c.deref_mut.ensures.value) ∙ c.deref_mut.ensures.len) ∙ same in
    let gate : c.settle.new.gate ≡ i.gate = settles-gate g.O.Outlet.takes c.args.out.now c.settle.new.out _ c.settle.new.sessions c.settle.new.gate c.args.router.now c.settle.new.router (subst D c.deref_mut.ensures.value c.settle.ensures) i.stack.rows c.self.invariant.0 in
    let P : List SessionView → Type 0 = λ ss. IsKept i.stack.rows (in_view i i.gate ss) in
    let Q : GateView → Type 0 = λ gt. IsKept i.stack.rows (in_view i gt (with_items i.sessions c.settle.new.sessions).items) in
    (subst Q (sym gate) (subst P (sym items) c.self.invariant.0), c.self.invariant.1)

pub returns-clause-same : goal.returns-clause-same
returns-clause-same g c =
    let i = c.self.inside in
    let D : List SessionView → Type 0 = λ ss. (sizes : Sizes) (scene : Scene) → sizes.border ≡ i.border → IsScene ss i.stack.layers c.args.router.now scene → i.gate ≡ keeping sizes.clip_limit scene.clip
    → Settles g.O.Outlet.takes c.args.out.now c.settle.new.out ss c.settle.new.sessions i.gate c.settle.new.gate c.settle.new.router sizes scene in
    let same : c.settle.new.sessions ≡ i.sessions.items =
    settles-same g.O.Outlet.takes c.args.out.now c.settle.new.out _ c.settle.new.sessions c.settle.new.gate c.args.router.now c.settle.new.router (subst D c.deref_mut.ensures.value c.settle.ensures) i.stack.rows c.self.invariant.0 in
    let items = with_items_is i.sessions c.settle.new.sessions (ap (λ (ss : List SessionView). length ss) (same ∙ sym c.deref_mut.ensures.value) ∙ c.deref_mut.ensures.len) ∙ same in
    let gate : c.settle.new.gate ≡ i.gate = settles-gate g.O.Outlet.takes c.args.out.now c.settle.new.out _ c.settle.new.sessions c.settle.new.gate c.args.router.now c.settle.new.router (subst D c.deref_mut.ensures.value c.settle.ensures) i.stack.rows c.self.invariant.0 in
    ap (λ (gt : GateView). in_view i gt (with_items i.sessions c.settle.new.sessions).items) gate ∙ ap (λ (ss : List SessionView). in_view i i.gate ss) items ∙ c.self.view_is

pub returns-clause-settles : goal.returns-clause-settles
returns-clause-settles g c =
    let i = c.self.inside in
    let D : List SessionView → Type 0 = λ ss. (sizes : Sizes) (scene : Scene) → sizes.border ≡ i.border → IsScene ss i.stack.layers c.args.router.now scene → i.gate ≡ keeping sizes.clip_limit scene.clip
    → Settles g.O.Outlet.takes c.args.out.now c.settle.new.out ss c.settle.new.sessions i.gate c.settle.new.gate c.settle.new.router sizes scene in
    let done = subst D c.deref_mut.ensures.value c.settle.ensures in
    let same : c.settle.new.sessions ≡ i.sessions.items =
    settles-same g.O.Outlet.takes c.args.out.now c.settle.new.out _ c.settle.new.sessions c.settle.new.gate c.args.router.now c.settle.new.router done i.stack.rows c.self.invariant.0 in
    let items = with_items_is i.sessions c.settle.new.sessions (ap (λ (ss : List SessionView). length ss) (same ∙ sym c.deref_mut.ensures.value) ∙ c.deref_mut.ensures.len) ∙ same in
    let A : WindowsView → WindowsView → Type 0 = λ old new. (setup : Setup) (held : ℕ → List ℕ) (frames : ℕ → PortState) (state : DeskState) → StandsWith setup held old frames state → state.scene.seat ≡ c.args.router.now
    → (moves c.args.told ≡ false → IsSettled (sizes_of setup) state.scene) → SettlesTo g.O.Outlet.takes c.args.out.now c.settle.new.out setup held new frames c.settle.new.router state in
    let gate : c.settle.new.gate ≡ i.gate = settles-gate g.O.Outlet.takes c.args.out.now c.settle.new.out _ c.settle.new.sessions c.settle.new.gate c.args.router.now c.settle.new.router done i.stack.rows c.self.invariant.0 in
    let first : WindowsView = in_view i i.gate i.sessions.items in
    let N : List SessionView → Type 0 = λ ss. A first (in_view i i.gate ss) in
    let G : GateView → Type 0 = λ gt. A first (in_view i gt (with_items i.sessions c.settle.new.sessions).items) in
    subst (λ (w : WindowsView). A w (in_view i c.settle.new.gate (with_items i.sessions c.settle.new.sessions).items)) c.self.view_is
    (subst G (sym gate)
    (subst N (sym items) (λ setup held frames state stands sits quiet.
    settles-to g.O.Outlet.takes c.args.out.now c.settle.new.out _ c.settle.new.sessions c.settle.new.gate c.args.router.now c.settle.new.router done setup held frames state stands sits)))

pub returns-then-not-moves-clause-settles : goal.returns-then-not-moves-clause-settles
returns-then-not-moves-clause-settles g c = λ setup held frames state stands sits quiet.
    still-to g.O.Outlet.takes c.args.out.now c.args.self.now c.args.router.now setup held frames state stands sits (quiet (sym c.moves.ensures ∙ c.if-not-moves.true))
