-- A change of a guest's frames.
use Rattle.std.proofs.Common.{◌≡◌, ◌≢◌, ℕ, ◌<◌, List, None, get_or, refl, sym, ◌∙◌, ap, subst, arith}
use Rattle.desk_laws.specs.declared.setup.Setup.{Setup}
use Rattle.desk_laws.specs.Stream.{front}
use Rattle.desk_laws.specs.Frames.{PortState, store}
use Rattle.desk_laws.specs.State.{DeskState, Session, StepOutcome, session_of, with_session, stays}
use Rattle.desk_laws.specs.Steps.{take_store, store_of_open}
use Rattle.desk_laws.proofs.UnitLemmas.{session-put}
use Rattle.guest_session.specs.SessionView.{SessionView}
use Rattle.desk_core.specs.WindowsView.{WindowsView, guests_of, part_of, session_in}
use Rattle.desk_core.specs.WindowsStand.{PartStands, AreAtRest, StoresTo, rests_of}
use Rattle.desk_core.proofs.WindowTurns.{session-at}
use Rattle.desk_core.proofs.JoinLemmas.{alone-none, guest-known, join-rest, part-stands}
use Rattle.desk_core.proofs.StandLemmas.{put-leaves, put-with}

-- of a guest whose session goes on
stores-open : (setup : Setup) (guest delay page offset : ℕ) (bytes : List ℕ) (desk : WindowsView) (frames frames' : ℕ → PortState) (state : DeskState)
    → guest < guests_of desk → (session_in guest desk).ended ≡ None → AreAtRest setup desk frames state → frames' guest ≡ store (frames guest) delay page offset bytes
    → ((other : ℕ) → other ≢ guest → frames' other ≡ frames other) → StoresTo setup desk frames' (take_store guest delay page offset bytes state)
stores-open setup guest delay page offset bytes desk frames frames' state there going rests stored unread =
    let part = part-stands setup (rests_of state) desk frames state rests.with_rest guest there in
    let session : Session = record (session_of guest state) { port = store (session_of guest state).port delay page offset bytes } in
    let after = with_session guest session state in
    let same : take_store guest delay page offset bytes state ≡ stays after = ap (λ e. store_of_open guest delay page offset bytes e state) (part.ended ∙ going) in
    let kept : session.port ≡ frames' guest = ap (λ p. store p delay page offset bytes) part.frames ∙ sym stored in
    let rest : (session_of guest after).rest ≡ (session_of guest state).rest = ap (λ (s : Session). s.rest) (session-put guest session state part.there) in
    let stands : PartStands setup guest (session_of guest state).rest (part_of guest desk) (frames' guest) after =
    put-with setup guest (session_of guest state).rest (session_of guest state).rest (part_of guest desk) (frames guest) (frames' guest) state session part refl kept (λ still. (part.opened still).stream) in
    let H : List ℕ → Type 0 = λ h. PartStands setup guest h (part_of guest desk) (frames' guest) after in
    let P : StepOutcome → Type 0 = λ o. StoresTo setup desk frames' o in
    subst P (sym same) (
      join-rest setup guest desk desk frames frames' state after rests (subst H (sym rest) stands)
          (λ still. ap (front (session_in guest desk).stream.greeted) rest ∙ rests.waits guest (guest-known setup (rests_of state) desk frames state rests.with_rest guest there) still)
          (put-leaves guest session state) (alone-none guest desk) unread,
      refl,
    )

-- the same, where the session is the one at the guest's place
pub stores-seen : (setup : Setup) (guest delay page offset : ℕ) (bytes : List ℕ) (old now : WindowsView) (frames frames' : ℕ → PortState) (state : DeskState) (t : SessionView)
    → old ≡ now → guest < guests_of now → t ≡ get_or old.sessions guest t → t.ended ≡ None → AreAtRest setup now frames state → frames' guest ≡ store (frames guest) delay page offset bytes
    → ((other : ℕ) → other ≢ guest → frames' other ≡ frames other) → StoresTo setup now frames' (take_store guest delay page offset bytes state)
stores-seen setup guest delay page offset bytes old now frames frames' state t is there_now seen open_still rests stored unread =
    let there : guest < guests_of old = omega (arith, there_now, ap guests_of is) in
    let same : t ≡ session_in guest now = session-at old guest t there seen ∙ ap (session_in guest) is in
    stores-open setup guest delay page offset bytes now frames frames' state there_now (ap (λ (x : SessionView). x.ended) (sym same) ∙ open_still) rests stored unread
