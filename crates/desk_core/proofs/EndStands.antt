-- A part whose session ended.
use Rattle.std.proofs.Common.{◌≡◌, ℕ, List, [], Some, refl, sym, ◌∙◌, ap, subst, arith, length, length-set}
use Rattle.std.proofs.lemmas.List.Elements.{All-nil}
use Rattle.desk_laws.specs.declared.cause.Cause.{Cause}
use Rattle.desk_laws.specs.declared.setup.Setup.{Setup}
use Rattle.desk_laws.specs.Clipboard.{forget}
use Rattle.desk_laws.specs.Rows.{Row}
use Rattle.desk_laws.specs.Layers.{Layers, followed}
use Rattle.desk_laws.specs.Frames.{PortState}
use Rattle.desk_laws.specs.Effects.{Cleared, changed}
use Rattle.desk_laws.specs.Following.{LayersFollow, FollowsEnd, without_guest}
use Rattle.desk_laws.specs.Scene.{Input}
use Rattle.desk_laws.specs.State.{DeskState, Session, StepOutcome, on_desk, session_of, with_session}
use Rattle.desk_laws.specs.Steps.{end_told}
use Rattle.desk_laws.proofs.UnitLemmas.{session-put}
use Rattle.desk_laws.proofs.FollowChanges.{lists-follow_end}
use Rattle.clipboard_gate.specs.Kept.{GateView, keeping}
use Rattle.guest_session.specs.SessionView.{SessionView, AreRows, IsEnded}
use Rattle.desk_core.specs.WindowsView.{PartView}
use Rattle.desk_core.specs.WindowsStand.{PartStands}
use Rattle.desk_core.proofs.OwnRows.{mine-cleared}
use Rattle.desk_core.proofs.StandLemmas.{moved}

-- what a session's end tells, before focus and hover are told
abbrev pub ended_told : ℕ → Input → Cause → DeskState → StepOutcome
ended_told guest input cause state =
    on_desk (end_told guest input cause state.scene) [] (with_session guest (record (session_of guest state) { rest = []; ended = Some cause }) state)

-- the question of a guest is forgotten
abbrev pub Forgets : ℕ → GateView → GateView → Type 0
Forgets guest old new = new ≡ keeping old.limit (forget guest old.clip)

pub no-rows : (guest : ℕ) → AreRows guest []
no-rows guest = record {
  own = All-nil (λ (row : Row). row.guest ≡ guest);
  apart = refl;
  few = omega arith;
  placed = All-nil _;
}

pub ends-stands : (setup : Setup) (guest : ℕ) (held behind : List ℕ) (part : PartView) (new : SessionView) (gate : GateView) (port port' : PortState) (state : DeskState) (input : Input) (cause : Cause)
    → PartStands setup guest held part port state → IsEnded part.session cause new → Forgets guest part.gate gate → port' ≡ port
    → PartStands setup guest behind (moved new (without_guest guest part.layers) gate part.messages part.glances) port' (ended_told guest input cause state).desk
ends-stands setup guest held behind part new gate port port' state input cause stands over forgotten unread =
    let session : Session = record (session_of guest state) { rest = []; ended = Some cause } in
    let put : session_of guest (with_session guest session state) ≡ session = session-put guest session state stands.there in
    let long : length (with_session guest session state).sessions ≡ length state.sessions = length-set state.sessions guest session in
    let left : List Row = changed guest Cleared state.scene.rows in
    let f : FollowsEnd guest left part.layers = lists-follow_end guest state.scene.rows part.layers stands.apart stands.followed in
    let L : Layers → Type 0 = λ ls. LayersFollow left ls in
    let O : List Row → Type 0 = λ rs. AreRows guest rs in
    record {
      there = omega (arith, long, stands.there);
      sizes = over.sizes ∙ stands.sizes;
      owner = over.guest ∙ stands.owner;
      own = subst O (sym over.rows) (no-rows guest);
      rows = mine-cleared guest state.scene.rows ∙ sym over.rows;
      apart = f.apart;
      layers = ap (λ ls. followed left ls) stands.layers ∙ f.lists;
      followed = subst L f.lists f.follow;
      gate = forgotten ∙ ap (λ (g : GateView). keeping g.limit (forget guest g.clip)) stands.gate;
      ended = ap (λ (s : Session). s.ended) put ∙ sym over.ended;
      opened = λ still. let e = over.ended in cc;
      frames = ap (λ (s : Session). s.port) put ∙ stands.frames ∙ sym unread;
      messages = stands.messages;
      glances = stands.glances;
      messages_in_range = stands.messages_in_range;
      glances_in_range = stands.glances_in_range;
    }
