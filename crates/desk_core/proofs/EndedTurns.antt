-- A turn that ends the session.
use Rattle.std.proofs.Common.{◌≡◌, ℕ, Bool, true, false, length, drop, take, ◌≤◌, List, [], ◌∷◌, ◌++◌, Option, Some, None, refl, sym, ◌∙◌, ap, subst, arith, length-append}
use Rattle.std.specs.Prelude.{if◌then◌else◌, nat_lt}
use Rattle.std.proofs.lemmas.Bool.{ltb-false}
use Rattle.gui_wire.specs.Words.{word_at}
use Rattle.gui_wire.specs.Headers.{header_at}
use Rattle.gui_wire.specs.declared.Header.{Header}
use Rattle.desk_laws.specs.declared.cause.Cause.{Cause}
use Rattle.desk_laws.specs.declared.setup.Setup.{Setup}
use Rattle.desk_laws.specs.Stream as stream
use Rattle.desk_laws.specs.Stream.{StreamUnit, Word, Stop, Whole, Front, Fault, Takes, front, front_of, head_fault, front_by, Cut, cut, is_greeting}
use Rattle.desk_laws.specs.Frames.{PortState}
use Rattle.desk_laws.specs.Effects.{Goes, Greets, Ends, Reads, Verdict, verdict}
use Rattle.desk_laws.specs.Following.{without_guest}
use Rattle.desk_laws.specs.Scene.{Post, Ended, Took}
use Rattle.desk_laws.specs.State.{DeskState, session_of, step_after}
use Rattle.desk_laws.specs.Steps.{take_unit, take_units}
use Rattle.desk_laws.proofs.Cutting.{front_by-append, front_by-whole_header, header_at-append}
use Rattle.desk_laws.proofs.CuttingLemmas.{cut-takes, cut-faults}
use Rattle.desk_laws.proofs.UnitLemmas.{taken-by, units-left}
use Rattle.guest_session.specs.declared.turn.Turn.TheVariants as turns
use Rattle.clipboard_gate.specs.Kept.{GateView}
use Rattle.guest_session.specs.SessionView.{SessionView, IsEnded}
use Rattle.guest_session.specs.Clips.{is_clip}
use Rattle.guest_session.specs.Turns.{Turns, TakesUnit, Decides, window_of}
use Rattle.desk_core.specs.WindowsView.{PartView}
use Rattle.desk_core.specs.WindowsStand.{PartStands}
use Rattle.desk_core.specs.declared.windows.Told.TheVariants as answers
use Rattle.desk_core.specs.Settling.{settled_after}
use Rattle.desk_core.specs.Telling.{TookTold}
use Rattle.desk_core.proofs.StandLemmas.{moved}
use Rattle.desk_core.proofs.EndStands.{Forgets, ended_told, ends-stands}
use Rattle.desk_core.proofs.LeaveLemmas.{ends-leaves}
use Rattle.desk_core.proofs.UnitTurns.{verdict-same}

-- what comes of a fault, or of a unit that ends the session: whatever bytes follow, the session has ended
pub ended-took : {O : Type 0} (takes : O → Post → O → Type 0) (out out' : O) (setup : Setup) (guest : ℕ) (held : List ℕ) (part : PartView) (new : SessionView) (gate : GateView) (port port' : PortState) (state : DeskState) (unit : StreamUnit) (cause : Cause)
    → PartStands setup guest held part port state → part.session.ended ≡ None
    → ((left : List ℕ) → (others : List StreamUnit) × ((cut part.session.stream.greeted (held ++ left)).units ≡ unit ∷ others))
    → verdict part.session.sizes part.session.guest part.session.minor part.session.rows unit ≡ Ends cause
    → IsEnded part.session cause new → Forgets guest part.gate gate → port' ≡ port → takes out (Ended guest cause) out'
    → TookTold takes out out' answers.Ended setup guest held part (moved new (without_guest guest part.layers) gate part.messages part.glances) port' state
ended-took takes out out' setup guest held part new gate port port' state unit cause stands going cuts v_is over forgotten unread told =
    let last = moved new (without_guest guest part.layers) gate part.messages part.glances in
    let e = ended_told guest (Took unit) cause state in
    let o = settled_after setup e in
    let taken : take_unit setup guest unit state ≡ o = taken-by setup guest unit state (Ends cause) (stands.ended ∙ going) (verdict-same setup guest held part port state unit stands going ∙ v_is) in
    let stood : PartStands setup guest [] last port' e.desk = ends-stands setup guest held [] part new gate port port' state (Took unit) cause stands over forgotten unread in
    let gone : (session_of guest o.desk).ended ≡ Some cause = stood.ended ∙ over.ended in
    record {
      behind = [];
      told = e;
      leads = (stood, (out', told, refl));
      still = λ quiet _. cc;
      seat = refl;
      all = λ _ left.
          let c = cuts left in
          ap (λ us. take_units setup guest us state) c.1
          ∙ ap (λ x. step_after x (take_units setup guest c.0 x.desk)) taken
          ∙ ap (step_after o) (units-left setup guest c.0 o.desk cause gone ∙ sym (units-left setup guest (cut new.stream.greeted ([] ++ left)).units o.desk cause gone));
      going = λ _. going;
      rest = λ still left. let x = over.ended in absurd (cc);
      kept = λ still. let x = over.ended in absurd (cc);
      leaves = ends-leaves guest (Took unit) cause state;
    }

fault-of : (c : Option Cause) (header : Header) (bytes : List ℕ) (cause : Cause) → front_of c header bytes ≡ Fault cause → c ≡ Some cause
fault-of (Some c) header bytes cause e = let same : c ≡ cause = cc in ap Some same
fault-of None header bytes cause e = absurd (by_length (nat_lt (length bytes) header.len) e)
  where
    by_length : (b : Bool) → (if b then stream.Wait else Takes (Whole header (take header.len bytes)) (drop header.len bytes)) ≡ Fault cause → ⊥
    by_length true e = cc
    by_length false e = cc

fault-long : (b : Bool) (f : Front) (cause : Cause) → (if b then stream.Wait else f) ≡ Fault cause → b ≡ false
fault-long true f cause e = cc
fault-long false f cause e = refl

no-fault : (b : Bool) (unit : StreamUnit) (behind : List ℕ) (cause : Cause) → (if b then stream.Wait else Takes unit behind) ≡ Fault cause → ⊥
no-fault true unit behind cause e = cc
no-fault false unit behind cause e = cc

-- a fault stays one, whatever bytes follow
pub fault-append : (greeted : Bool) (held left : List ℕ) (cause : Cause) → front greeted held ≡ Fault cause → front greeted (held ++ left) ≡ Fault cause
fault-append false held left cause is = absurd (no-fault (nat_lt (length held) 4) (Word (word_at 0 held)) (drop 4 held) cause is)
fault-append true held left cause is =
    let f : Front = front_of (head_fault (header_at held)) (header_at held) (drop 12 held) in
    let h : 12 ≤ length held = ltb-false (length held) 12 (fault-long (nat_lt (length held) 12) f cause is) in
    let h' : 12 ≤ length (held ++ left) = omega (arith, length-append held left) in
    let c : head_fault (header_at held) ≡ Some cause = fault-of (head_fault (header_at held)) (header_at held) (drop 12 held) cause (sym (front_by-whole_header head_fault held h) ∙ is) in
    front_by-whole_header head_fault (held ++ left) h'
    ∙ ap (λ x. front_of (head_fault x) x (drop 12 (held ++ left))) (header_at-append held left h)
    ∙ ap (λ o. front_of o (header_at held) (drop 12 (held ++ left))) c

pub not-ended : (cause : Cause) (b : Bool) → turns.Ended cause ≡ (if b then turns.ClipWhole else turns.ClipOver) → ⊥
not-ended cause true e = cc
not-ended cause false e = cc

-- the cause that a turn tells
told-cause : (cause cause' : Cause) → turns.Ended cause ≡ turns.Ended cause' → cause ≡ cause'
told-cause cause cause' e = cc

pub turn-ended : {O : Type 0} (takes : O → Post → O → Type 0) (out mid out' : O) (setup : Setup) (guest : ℕ) (held : List ℕ) (part : PartView) (new : SessionView) (gate : GateView) (cause : Cause) (port port' : PortState) (state : DeskState) (f : Front)
    → PartStands setup guest held part port state → part.session.ended ≡ None → Forgets guest part.gate gate → front part.session.stream.greeted held ≡ f
    → Turns takes out mid port port' part.session new (turns.Ended cause) f → takes mid (Ended guest cause) out'
    → TookTold takes out out' answers.Ended setup guest held part (moved new (without_guest guest part.layers) gate part.messages part.glances) port' state
turn-ended {O = O} takes out mid out' setup guest held part new gate cause port port' state stream.Wait stands going forgotten is t told = let e = t.answer in absurd (cc)
turn-ended {O = O} takes out mid out' setup guest held part new gate cause port port' state (Fault c) stands going forgotten is t told =
    let C : Cause → Type 0 = λ x. takes mid (Ended guest x) out' in
    let M : O → Type 0 = λ m. takes m (Ended guest c) out' in
    ended-took takes out out' setup guest held part new gate port port' state (Stop c) c stands going
    (λ left. ([], ap (λ (x : Cut). x.units) (cut-faults part.session.stream.greeted (held ++ left) c (fault-append part.session.stream.greeted held left c is))))
    refl t.ended forgotten t.unread (subst M t.silent (subst C (told-cause cause c t.answer) told))
turn-ended {O = O} takes out mid out' setup guest held part new gate cause port port' state (Takes unit behind) stands going forgotten is t told = by_clip (is_clip unit) t
  where
    s : SessionView
    s = part.session

    by_verdict : (v : Verdict) → verdict part.session.sizes part.session.guest part.session.minor part.session.rows unit ≡ v
        → Decides takes out mid port port' part.session new (turns.Ended cause) (window_of unit) behind v
        → TookTold takes out out' answers.Ended setup guest held part (moved new (without_guest guest part.layers) gate part.messages part.glances) port' state
    by_verdict (Ends c) v_is d =
        let C : Cause → Type 0 = λ x. takes mid (Ended guest x) out' in
        let M : O → Type 0 = λ m. takes m (Ended guest c) out' in
        ended-took takes out out' setup guest held part new gate port port' state unit c stands going
        (λ left. (
          (cut true (behind ++ left)).units,
          ap (λ (x : Cut). x.units) (cut-takes part.session.stream.greeted (held ++ left) unit (behind ++ left) (front_by-append head_fault part.session.stream.greeted held left unit behind is)),
        ))
        v_is d.ended forgotten d.unread (subst M d.silent (subst C (told-cause cause c d.answer) told))
    by_verdict (Greets minor answers) v_is d = let e = d.answer in absurd (cc)
    by_verdict (Goes change answers) v_is d = let e = d.answer in absurd (cc)
    by_verdict (Reads row area) v_is d = let e = d.answer in absurd (cc)

    by_clip : (b : Bool) → TakesUnit takes out mid port port' part.session new (turns.Ended cause) unit behind b → TookTold takes out out' answers.Ended setup guest held part (moved new (without_guest guest part.layers) gate part.messages part.glances) port' state
    by_clip true t = absurd (not-ended cause _ t.answer)
    by_clip false t = by_verdict (verdict part.session.sizes part.session.guest part.session.minor part.session.rows unit) refl t
