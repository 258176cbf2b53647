-- A guest's session that ends from outside, and bytes that are taken up, as said of the whole desk.
use Rattle.std.proofs.Common.{◌≡◌, ℕ, ◌<◌, true, is_some, List, ◌++◌, take, Option, Some, None, get_or, refl, sym, ◌∙◌, ap, subst, arith}
use Rattle.desk_laws.specs.declared.cause.Cause.{Cause}
use Rattle.desk_laws.specs.declared.setup.Setup.{Setup}
use Rattle.desk_laws.specs.Following.{without_guest}
use Rattle.desk_laws.specs.Frames.{PortState}
use Rattle.desk_laws.specs.Scene.{Post, Closing, Ended, Input}
use Rattle.desk_laws.specs.State.{DeskState, session_of, stays}
use Rattle.desk_laws.specs.Steps.{end_of_open, end_session}
use Rattle.desk_laws.specs.Stream.{Wait, front}
use Rattle.in_stream.specs.Received.{StandsFor}
use Rattle.clipboard_gate.specs.Kept.{GateView}
use Rattle.guest_session.specs.SessionView.{SessionView, IsEnded, with_stream}
use Rattle.desk_core.specs.WindowsView.{PartView, WindowsView, guests_of, part_of, session_in, with_part}
use Rattle.desk_core.specs.declared.windows.Told.TheVariants as answers
use Rattle.desk_core.specs.Telling.{EndsTold, KeepsStanding}
use Rattle.desk_core.specs.WindowsStand.{AreAtRest, PartStands, StandsWith, rests_of}
use Rattle.desk_core.specs.Kept.{IsKept}
use Rattle.desk_core.specs.Pieces.{PushesPiece}
use Rattle.desk_core.proofs.WindowTurns.{session-at}
use Rattle.desk_core.proofs.KeptLemmas.{ends-kept, pushed-kept}
use Rattle.desk_core.proofs.EndStands.{Forgets, ended_told, ends-stands}
use Rattle.desk_core.proofs.JoinLemmas.{join, join-rest, part-alone, part-in, part-stands}
use Rattle.desk_core.proofs.LeaveLemmas.{ends-leaves}
use Rattle.desk_core.proofs.SettlingLemmas.{ends-settles, silent-after}
use Rattle.desk_core.proofs.StandLemmas.{moved}

-- ---- the end of a session from outside

pub ended-now : {O : Type 0} (takes : O → Post → O → Type 0) (out out' : O) (setup : Setup) (guest : ℕ) (windows : WindowsView) (new : SessionView) (gate : GateView) (frames : ℕ → PortState) (state : DeskState) (input : Input) (cause : Cause)
    → AreAtRest setup windows frames state → guest < guests_of windows → (session_in guest windows).ended ≡ None → IsEnded (session_in guest windows) cause new → Forgets guest windows.gate gate → takes out (Ended guest cause) out'
    → EndsTold takes out out' answers.Ended setup (with_part guest (moved new (without_guest guest windows.layers) gate windows.messages windows.glances) windows) frames state (end_session setup guest input cause state)
ended-now takes out out' setup guest windows new gate frames state input cause rests there going over forgotten told =
    let e = ended_told guest input cause state in
    let part = part-stands setup (rests_of state) windows frames state rests.with_rest guest there in
    let last = moved new (without_guest guest windows.layers) gate windows.messages windows.glances in
    let windows' = with_part guest last windows in
    let stands = ends-stands setup guest (rests_of state guest) (session_of guest e.desk).rest (part_of guest windows) new gate (frames guest) (frames guest) state input cause part over forgotten refl in
    let is : part_of guest windows' ≡ last = part-in guest last windows there in
    let V : PartView → Type 0 = λ p. PartStands setup guest (session_of guest e.desk).rest p (frames guest) e.desk in
    let W : PartView → Type 0 = λ p. p.session.ended ≡ None → front p.session.stream.greeted (session_of guest e.desk).rest ≡ Wait in
    record {
      told = e;
      all = λ _. ap (λ x. end_of_open setup guest input cause x state) (part.ended ∙ going) ∙ ends-settles setup guest input cause state;
      rests = join-rest setup guest windows windows' frames frames state e.desk rests (subst V (sym is) stands) (subst W (sym is) (λ still. let x = over.ended in cc))
          (ends-leaves guest input cause state) (part-alone guest last windows there over.sizes) (λ other apart. refl);
      posts = (out', told, refl);
      still = λ quiet _. cc;
      seat = refl;
    }

-- the same, where the session is the one at the guest's place

module _ (guest : ℕ) (old now : WindowsView) (is : old ≡ now) (there_now : guest < guests_of now) (s new : SessionView) (at : s ≡ get_or old.sessions guest s) (gate : GateView) (forgotten : Forgets guest old.gate gate) (cause : Cause) (over : IsEnded s cause new) where
  there : guest < guests_of old
  there = omega (arith, there_now, ap guests_of is)

  over' : IsEnded (session_in guest old) cause new
  over' = let P : SessionView → Type 0 = λ x. IsEnded x cause new in subst P (session-at old guest s there at) over

  pub end-kept : (room : ℕ) → IsKept room old → IsKept room (with_part guest (moved new (without_guest guest old.layers) gate old.messages old.glances) old)
  end-kept room kept = ends-kept room guest old new gate cause kept there over' forgotten

  pub end-took : {O : Type 0} (takes : O → Post → O → Type 0) (out out' : O) (t : SessionView) → t ≡ get_or old.sessions guest t → t.ended ≡ None → takes out (Ended guest cause) out'
      → (setup : Setup) (frames : ℕ → PortState) (input : Input) (state : DeskState) → AreAtRest setup now frames state
      → EndsTold takes out out' answers.Ended setup (with_part guest (moved new (without_guest guest old.layers) gate old.messages old.glances) old) frames state (end_session setup guest input cause state)
  end-took takes out out' t seen open_still told setup frames input state rests =
      let D : WindowsView → Type 0 = λ d. AreAtRest setup d frames state in
      let going : (session_in guest old).ended ≡ None = ap (λ (x : SessionView). x.ended) (sym (session-at old guest t there seen)) ∙ open_still in
      ended-now takes out out' setup guest old new gate frames state input cause (subst D (sym is) rests) there going over' forgotten told

  pub end-stands : (setup : Setup) (held : ℕ → List ℕ) (frames : ℕ → PortState) (state : DeskState) → StandsWith setup held now frames state
      → KeepsStanding answers.Ended setup (with_part guest (moved new (without_guest guest old.layers) gate old.messages old.glances) old) frames state
  end-stands setup held frames state stands_now =
      let D : WindowsView → Type 0 = λ d. StandsWith setup held d frames state in
      let stands = subst D (sym is) stands_now in
      let e = (ended_told guest Closing cause state).desk in
      let part = part-stands setup held old frames state stands guest there in
      let last = moved new (without_guest guest old.layers) gate old.messages old.glances in
      let windows' = with_part guest last old in
      let V : PartView → Type 0 = λ p. PartStands setup guest (held guest) p (frames guest) e in
      record {
        held = held;
        after = e;
        stands = join setup guest held held old windows' frames frames state e stands
            (subst V (sym (part-in guest last old there)) (ends-stands setup guest (held guest) (held guest) (part_of guest old) new gate (frames guest) (frames guest) state Closing cause part over' forgotten refl))
            (ends-leaves guest Closing cause state) (part-alone guest last old there over'.sizes) (λ other apart. refl) (λ other apart. refl);
        still = λ quiet _. cc;
        seat = refl;
      }

-- windows of which nothing changed stand as they stood
pub over-stands : (windows : WindowsView) (setup : Setup) (held : ℕ → List ℕ) (frames : ℕ → PortState) (state : DeskState) → StandsWith setup held windows frames state → KeepsStanding answers.Waits setup windows frames state
over-stands windows setup held frames state stands = record { held = held; after = state; stands = stands; still = λ _ settled. settled; seat = refl }

-- a session that had ended: nothing comes of it
pub over-took : {O : Type 0} (takes : O → Post → O → Type 0) (out : O) (guest : ℕ) (old now : WindowsView) → old ≡ now → guest < guests_of now → (t : SessionView) → t ≡ get_or old.sessions guest t → is_some t.ended ≡ true
    → (setup : Setup) (frames : ℕ → PortState) (input : Input) (cause : Cause) (state : DeskState) → AreAtRest setup now frames state
    → EndsTold takes out out answers.Waits setup now frames state (end_session setup guest input cause state)
over-took takes out guest old now is there t seen over setup frames input cause state rests =
    let there_old : guest < guests_of old = omega (arith, there, ap guests_of is) in
    let D : WindowsView → Type 0 = λ d. AreAtRest setup d frames state in
    let part = part-stands setup (rests_of state) old frames state (subst D (sym is) rests).with_rest guest there_old in
    let ended : (session_of guest state).ended ≡ t.ended = part.ended ∙ ap (λ (x : SessionView). x.ended) (sym (session-at old guest t there_old seen)) in
    record {
      told = stays state;
      all = λ settled. stays-over t.ended over ended ∙ sym (silent-after setup (stays state) settled);
      rests = rests;
      posts = refl;
      still = λ _ settled. settled;
      seat = refl;
    }
  where
    stays-over : (e : Option Cause) → is_some e ≡ true → (session_of guest state).ended ≡ e → end_session setup guest input cause state ≡ stays state
    stays-over None some is = cc
    stays-over (Some ended) some is = ap (λ x. end_of_open setup guest input cause x state) is

-- ---- bytes

-- bytes were taken up by a session
pub pushes : (s new : SessionView) (piece : List ℕ) (size : ℕ) → new ≡ with_stream new.stream s → new.stream.greeted ≡ s.stream.greeted
    → (s.ended ≡ None → (rest : List ℕ) → StandsFor s.stream rest → StandsFor new.stream (rest ++ take size piece)) → PushesPiece s new piece size
pushes s new piece size kept greeted stands = record { stream = kept; greeted = greeted; stands = stands }

module _ (guest : ℕ) (old now : WindowsView) (is : old ≡ now) (there_now : guest < guests_of now) (s new : SessionView) (at : s ≡ get_or old.sessions guest s) (piece : List ℕ) (size : ℕ) (pushed : PushesPiece s new piece size) where
  there_too : guest < guests_of old
  there_too = omega (arith, there_now, ap guests_of is)

  same : s ≡ session_in guest old
  same = session-at old guest s there_too at

  pushed' : PushesPiece (session_in guest old) new piece size
  pushed' = let P : SessionView → Type 0 = λ x. PushesPiece x new piece size in subst P same pushed

  pub push-kept : (room : ℕ) → IsKept room old → IsKept room (with_part guest (record (part_of guest old) { session = new }) old)
  push-kept room kept = pushed-kept room guest old new piece size kept there_too pushed'
