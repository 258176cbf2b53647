-- What is true of each desk stays true.
use Rattle.std.proofs.Common.{◌≡◌, ℕ, ◌<◌, ◌≤◌, List, [], ◌++◌, length, take, refl, sym, ◌∙◌, subst, arith}
use Rattle.desk_laws.specs.declared.cause.Cause.{Cause}
use Rattle.desk_laws.specs.Following.{without_guest}
use Rattle.desk_laws.specs.Frames.{PortState}
use Rattle.desk_laws.specs.Scene.{Post, Closing}
use Rattle.desk_laws.specs.State.{DeskState, count_item, session_of, with_session}
use Rattle.clipboard_gate.specs.Kept.{GateView}
use Rattle.guest_session.specs.SessionView.{SessionView, IsEnded}
use Rattle.desk_core.specs.WindowsView.{WindowsView, PartView, ChangesPart, guests_of, part_of, put, session_in, with_part}
use Rattle.desk_core.specs.WindowsStand.{PartStands, item_counted}
use Rattle.desk_core.specs.Kept.{IsKept}
use Rattle.desk_core.specs.Pieces.{LeavesOthers, PushesPiece}
use Rattle.desk_core.specs.declared.windows.Told.{Told}
use Rattle.desk_core.specs.Telling.{TookTold}
use Rattle.desk_core.proofs.EndStands.{Forgets, ended_told, ends-stands}
use Rattle.desk_core.proofs.JoinLemmas.{put-same, put-other, part-in, part-alone, join, part-stands, focus-few}
use Rattle.desk_core.proofs.LeaveLemmas.{leaves-all, leaves-both, ends-leaves}
use Rattle.desk_core.proofs.StandLemmas.{moved, counts-with, put-leaves, pushed-with, with-frames}

-- the state that a desk stands for, with these frames of a guest
abbrev pub state-at : (room guest : ℕ) (desk : WindowsView) (port : PortState) → IsKept room desk → DeskState
state-at room guest desk port kept = with_session guest (record (session_of guest kept.state) { port = port }) kept.state

-- a guest's part stands for it
pub kept-part : (room guest : ℕ) (desk : WindowsView) (port : PortState) (kept : IsKept room desk) → guest < guests_of desk
    → PartStands kept.setup guest (kept.held guest) (part_of guest desk) port (state-at room guest desk port kept)
kept-part room guest desk port kept there =
    with-frames kept.setup guest (kept.held guest) (part_of guest desk) (kept.frames guest) port kept.state (part-stands kept.setup kept.held desk kept.frames kept.state kept.stands guest there)

-- a new part of a guest that stands for a state, where nothing of others changed
pub part-kept : (room guest : ℕ) (old : WindowsView) (new : PartView) (behind : List ℕ) (port : PortState) (after : DeskState) → (kept : IsKept room old) → guest < guests_of old
    → PartStands kept.setup guest behind new port after → LeavesOthers guest kept.state after → IsKept room (with_part guest new old)
part-kept room guest old new behind port after kept there stands leaves =
    let desk = with_part guest new old in
    let sizes : new.session.sizes ≡ (session_in guest old).sizes = stands.sizes ∙ sym (part-stands kept.setup kept.held old kept.frames kept.state kept.stands guest there).sizes in
    let alone : ChangesPart guest old desk = part-alone guest new old there sizes in
    let H : List ℕ → Type 0 = λ h. PartStands kept.setup guest h (part_of guest desk) (put guest port kept.frames guest) after in
    let V : PartView → Type 0 = λ p. PartStands kept.setup guest behind p (put guest port kept.frames guest) after in
    let F : PortState → Type 0 = λ p. PartStands kept.setup guest behind new p after in
    record {
      setup = kept.setup;
      held = put guest behind kept.held;
      frames = put guest port kept.frames;
      state = after;
      stands = join kept.setup guest kept.held (put guest behind kept.held) old desk kept.frames (put guest port kept.frames) kept.state after kept.stands
          (subst H (sym (put-same guest behind kept.held)) (subst V (sym (part-in guest new old there)) (subst F (sym (put-same guest port kept.frames)) stands)))
          leaves alone (λ other apart. put-other guest behind kept.held other apart) (λ other apart. put-other guest port kept.frames other apart);
      roomy = omega (arith, kept.roomy, alone.guests);
    }

-- after a unit
pub told-kept : {O : Type 0} (takes : O → Post → O → Type 0) (out out' : O) (answer : Told) (room guest : ℕ) (old : WindowsView) (new : PartView) (port port' : PortState)
    → (kept : IsKept room old) → guest < guests_of old → TookTold takes out out' answer kept.setup guest (kept.held guest) (part_of guest old) new port' (state-at room guest old port kept)
    → IsKept room (with_part guest new old)
told-kept takes out out' answer room guest old new port port' kept there took =
    part-kept room guest old new took.behind port' took.told.desk kept there took.leads.0
    (leaves-both guest kept.state (state-at room guest old port kept) took.told.desk (put-leaves guest (record (session_of guest kept.state) { port = port }) kept.state) took.leaves)

pub counts-kept : (room : ℕ) (desk : WindowsView) → IsKept room desk → IsKept room (item_counted desk)
counts-kept room desk kept = record {
  setup = kept.setup;
  held = kept.held;
  frames = kept.frames;
  state = count_item kept.state;
  stands = counts-with kept.setup kept.held desk kept.frames kept.state kept.stands;
  roomy = kept.roomy;
}

pub pushed-kept : (room guest : ℕ) (desk : WindowsView) (session : SessionView) (piece : List ℕ) (size : ℕ) → IsKept room desk → guest < guests_of desk → PushesPiece (session_in guest desk) session piece size
    → IsKept room (with_part guest (record (part_of guest desk) { session = session }) desk)
pushed-kept room guest desk session piece size kept there pushed =
    let part = part-stands kept.setup kept.held desk kept.frames kept.state kept.stands guest there in
    let more = kept.held guest ++ take size piece in
    part-kept room guest desk (record (part_of guest desk) { session = session }) more (kept.frames guest) kept.state kept there
    (pushed-with kept.setup guest (kept.held guest) more (part_of guest desk) session (kept.frames guest) kept.state part pushed.stream pushed.greeted
    (λ going. pushed.stands going (kept.held guest) (part.opened going).stream))
    (leaves-all guest kept.state)

pub ends-kept : (room guest : ℕ) (desk : WindowsView) (new : SessionView) (gate : GateView) (cause : Cause) → IsKept room desk → guest < guests_of desk → IsEnded (session_in guest desk) cause new → Forgets guest desk.gate gate
    → IsKept room (with_part guest (moved new (without_guest guest desk.layers) gate desk.messages desk.glances) desk)
ends-kept room guest desk new gate cause kept there over forgotten =
    let part = part-stands kept.setup kept.held desk kept.frames kept.state kept.stands guest there in
    part-kept room guest desk (moved new (without_guest guest desk.layers) gate desk.messages desk.glances) [] (kept.frames guest) (ended_told guest Closing cause kept.state).desk kept there
    (ends-stands kept.setup guest (kept.held guest) [] (part_of guest desk) new gate (kept.frames guest) (kept.frames guest) kept.state Closing cause part over forgotten refl)
    (ends-leaves guest Closing cause kept.state)

-- there is room for the lists of a desk
pub room-for : (room : ℕ) (desk : WindowsView) → IsKept room desk → length desk.layers.focus ≤ room
room-for room desk kept = omega (arith, focus-few kept.setup kept.held desk kept.frames kept.state kept.stands, kept.roomy)
