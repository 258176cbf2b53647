-- Each step keeps a state sound.
use Rattle.std.proofs.Common.{◌≡◌, ◌≢◌, ℕ, ◌<◌, Bool, true, false, ◌==◌, List, [], ◌∷◌, ◌++◌, length, map, Option, Some, None, refl, sym, ◌∙◌, ap, subst, length-set}
use Rattle.std.proofs.lemmas.Bool.{eqb-true, eqb-false}
use Rattle.desk_laws.specs.declared.setup.Setup.{Setup}
use Rattle.desk_laws.specs.declared.cause.Cause.{Cause}
use Rattle.desk_laws.specs.declared.cause.Cause.TheVariants.{StreamEnded, LinkFailed}
use Rattle.desk_laws.specs.declared.item.Item.TheVariants as item
use Rattle.desk_laws.specs.Sizes.{sizes_of}
use Rattle.desk_laws.specs.Stream.{StreamUnit, Cut, cut}
use Rattle.desk_laws.specs.Rows.{id_of, mine}
use Rattle.desk_laws.specs.Layers.{are_apart}
use Rattle.desk_laws.specs.Scene.{Scene, Input, Took, Closing, Losing}
use Rattle.desk_laws.specs.Frames.{load_all, store}
use Rattle.desk_laws.specs.Effects.{Effect, Verdict, Ends, Greets, Goes, Reads, verdict, Cleared, Replaced, drawn_row, frame_places, points}
use Rattle.desk_laws.specs.State.{DeskState, session_of, count_item}
use Rattle.desk_laws.specs.Steps.{take_unit, take_units, take_bytes, end_session, unit_of_open, unit_told, end_told, went, ends, with_rest, bytes_of_open, end_of_open, take_store, store_of_open}
use Rattle.desk_laws.specs.Following.{LayersFollow}
use Rattle.desk_laws.specs.Override.{KeepsLimits}
use Rattle.desk_laws.specs.Endings.{IsGone}
use Rattle.desk_laws.specs.Sound.{IsSound, OpeningIsSound, StepsKeepSound}
use Rattle.desk_laws.proofs.FollowChanges.{none-follow}
use Rattle.desk_laws.proofs.ListedLemmas.{AreListed, done, rest-scene, bytes-listed, end-listed}
use Rattle.desk_laws.proofs.LimitLemmas.{none-limited, bytes-limited, end-limited}
use Rattle.desk_laws.proofs.OtherLemmas.{others-keep_rows}
use Rattle.desk_laws.proofs.SettleLemmas.{settle-rows}
use Rattle.desk_laws.proofs.UnitLemmas.{effect_of}
use Rattle.desk_laws.proofs.EventLemmas.{event-sound}
use Rattle.desk_laws.proofs.EndLemmas.{length-unit, length-rest, bytes-other, end-other, ends-leave_nothing, store-ended}

-- ---- the rows of others, and the number of sessions

module _ (setup : Setup) (guest other : ℕ) (apart : other ≢ guest) where
  -- the rows of a unit, settled
  went-keeps : (unit : StreamUnit) (e : Effect) (desk : DeskState) → mine other e.rows ≡ mine other desk.scene.rows → mine other (went setup guest unit e desk).desk.scene.rows ≡ mine other desk.scene.rows
  went-keeps unit e desk same = ap (mine other) (settle-rows (sizes_of setup) (unit_told (sizes_of setup).clip_limit guest unit e desk.scene).scene) ∙ same

  -- the rows that an end leaves, settled
  ends-keep : (input : Input) (cause : Cause) (desk : DeskState) → mine other (ends setup guest input cause desk).desk.scene.rows ≡ mine other desk.scene.rows
  ends-keep input cause desk =
      ap (mine other) (settle-rows (sizes_of setup) (end_told guest input cause desk.scene).scene) ∙ others-keep_rows guest other Cleared desk.scene.rows apart

  pub verdict-keeps : (unit : StreamUnit) (desk : DeskState) (v : Verdict) → mine other (done setup guest unit desk v).desk.scene.rows ≡ mine other desk.scene.rows
  verdict-keeps unit desk (Ends cause) = ends-keep (Took unit) cause desk
  verdict-keeps unit desk (Greets minor answers) = went-keeps unit (effect_of guest desk (Greets minor answers)) desk refl
  verdict-keeps unit desk (Goes change answers) =
      went-keeps unit (effect_of guest desk (Goes change answers)) desk (others-keep_rows guest other change desk.scene.rows apart)
  verdict-keeps unit desk (Reads row area) =
      went-keeps unit (effect_of guest desk (Reads row area)) desk
      (others-keep_rows guest other (Replaced (drawn_row row area (load_all (session_of guest desk).port (frame_places row.dump (points area))).words)) desk.scene.rows apart)

  pub unit-keeps : (unit : StreamUnit) (desk : DeskState) → mine other (take_unit setup guest unit desk).desk.scene.rows ≡ mine other desk.scene.rows
  unit-keeps unit desk = by_end (session_of guest desk).ended
    where
      by_end : (e : Option Cause) → mine other (unit_of_open setup guest unit e desk).desk.scene.rows ≡ mine other desk.scene.rows
      by_end None = verdict-keeps unit desk (verdict (sizes_of setup) guest (session_of guest desk).minor (mine guest desk.scene.rows) unit)
      by_end (Some cause) = refl

  pub units-keep : (units : List StreamUnit) (desk : DeskState) → mine other (take_units setup guest units desk).desk.scene.rows ≡ mine other desk.scene.rows
  units-keep [] desk = refl
  units-keep (u ∷ units) desk = units-keep units (take_unit setup guest u desk).desk ∙ unit-keeps u desk

  pub bytes-keep : (piece : List ℕ) (desk : DeskState) → mine other (take_bytes setup guest piece desk).desk.scene.rows ≡ mine other desk.scene.rows
  bytes-keep piece desk = by_end (session_of guest desk).ended
    where
      c : Cut
      c = cut (session_of guest desk).greeted ((session_of guest desk).rest ++ piece)

      by_end : (e : Option Cause) → mine other (bytes_of_open setup guest piece e desk).desk.scene.rows ≡ mine other desk.scene.rows
      by_end None = units-keep c.units (with_rest guest c.rest desk) ∙ ap (λ s. mine other s.rows) (rest-scene setup guest c.rest desk)
      by_end (Some cause) = refl

  pub end-keeps : (input : Input) (cause : Cause) (desk : DeskState) → mine other (end_session setup guest input cause desk).desk.scene.rows ≡ mine other desk.scene.rows
  end-keeps input cause desk = by_end (session_of guest desk).ended
    where
      by_end : (e : Option Cause) → mine other (end_of_open setup guest input cause e desk).desk.scene.rows ≡ mine other desk.scene.rows
      by_end None = ends-keep input cause desk
      by_end (Some c) = refl

module _ (setup : Setup) (guest : ℕ) where
  pub length-units : (units : List StreamUnit) (desk : DeskState) → length (take_units setup guest units desk).desk.sessions ≡ length desk.sessions
  length-units [] desk = refl
  length-units (u ∷ units) desk = length-units units (take_unit setup guest u desk).desk ∙ length-unit setup guest u desk

  pub length-bytes : (piece : List ℕ) (desk : DeskState) → length (take_bytes setup guest piece desk).desk.sessions ≡ length desk.sessions
  length-bytes piece desk = by_end (session_of guest desk).ended
    where
      c : Cut
      c = cut (session_of guest desk).greeted ((session_of guest desk).rest ++ piece)

      by_end : (e : Option Cause) → length (bytes_of_open setup guest piece e desk).desk.sessions ≡ length desk.sessions
      by_end None = length-units c.units (with_rest guest c.rest desk) ∙ length-rest setup guest c.rest desk
      by_end (Some cause) = refl

  pub length-end : (input : Input) (cause : Cause) (desk : DeskState) → length (end_session setup guest input cause desk).desk.sessions ≡ length desk.sessions
  length-end input cause desk = by_end (session_of guest desk).ended
    where
      by_end : (e : Option Cause) → length (end_of_open setup guest input cause e desk).desk.sessions ≡ length desk.sessions
      by_end None = length-set desk.sessions guest (record (session_of guest desk) { rest = []; ended = Some cause })
      by_end (Some c) = refl

-- ---- sessions that have ended

-- an item of one guest, from the state before it to that after it
record IsOfGuest (guest : ℕ) (desk after : DeskState) : Type 0 where
  sessions : length after.sessions ≡ length desk.sessions
  session : (other : ℕ) → other ≢ guest → session_of other after ≡ session_of other desk
  rows : (other : ℕ) → other ≢ guest → mine other after.scene.rows ≡ mine other desk.scene.rows
  over : (cause : Cause) → (session_of guest desk).ended ≡ Some cause → after ≡ desk
  gone : (cause : Cause) → guest < length desk.sessions → (session_of guest desk).ended ≡ None → (session_of guest after).ended ≡ Some cause → IsGone guest after

item-sound : (setup : Setup) (guest : ℕ) (desk after : DeskState) → IsSound setup desk → IsOfGuest guest desk after → AreListed after.scene
    → KeepsLimits (sizes_of setup) after.scene.rows → IsSound setup after
item-sound setup guest desk after is of listed limits = record {
  apart = listed.apart;
  lists = listed.lists;
  limits = limits;
  gone = λ other cause known over. by_guest other cause (other == guest) refl (subst (λ n. other < n) of.sessions known) over;
}
  where
    of_own : (cause : Cause) (e : Option Cause) → (session_of guest desk).ended ≡ e → guest < length desk.sessions → (session_of guest after).ended ≡ Some cause
        → mine guest after.scene.rows ≡ []
    of_own cause None e known over = let g = of.gone cause known e over in g.rows
    of_own cause (Some c) e known over = ap (λ d. mine guest d.scene.rows) (of.over c e) ∙ is.gone guest c known e

    by_guest : (other : ℕ) (cause : Cause) (b : Bool) → (other == guest) ≡ b → other < length desk.sessions → (session_of other after).ended ≡ Some cause
        → mine other after.scene.rows ≡ []
    by_guest other cause true e known over =
        let same : other ≡ guest = eqb-true other guest e in
        let own : mine guest after.scene.rows ≡ [] =
        of_own cause (session_of guest desk).ended refl (subst (λ n. n < length desk.sessions) same known) (subst (λ n. (session_of n after).ended ≡ Some cause) same over) in
        subst (λ n. mine n after.scene.rows ≡ []) (sym same) own
    by_guest other cause false e known over =
        let apart = eqb-false other guest e in
        of.rows other apart ∙ is.gone other cause known (sym (ap (λ s. s.ended) (of.session other apart)) ∙ over)

-- ---- the laws

-- the count of items says nothing of this
counted-sound : (setup : Setup) (state : DeskState) → IsSound setup state → IsSound setup (count_item state)
counted-sound setup state is = record { apart = is.apart; lists = is.lists; gone = is.gone; limits = is.limits }

pub opening-is_sound : OpeningIsSound
opening-is_sound setup = record { apart = refl; lists = none-follow; gone = λ guest cause known over. refl; limits = none-limited (sizes_of setup) }

pub stored-scene : (guest delay page offset : ℕ) (bytes : List ℕ) (e : Option Cause) (desk : DeskState) → (store_of_open guest delay page offset bytes e desk).desk.scene ≡ desk.scene
stored-scene guest delay page offset bytes None desk = refl
stored-scene guest delay page offset bytes (Some cause) desk = refl

stored-sessions : (guest delay page offset : ℕ) (bytes : List ℕ) (e : Option Cause) (desk : DeskState)
    → length (store_of_open guest delay page offset bytes e desk).desk.sessions ≡ length desk.sessions
stored-sessions guest delay page offset bytes None desk =
    length-set desk.sessions guest (record (session_of guest desk) { port = store (session_of guest desk).port delay page offset bytes })
stored-sessions guest delay page offset bytes (Some cause) desk = refl

-- a change of frames changes no row and no list, and ends no session
stored-sound : (setup : Setup) (guest delay page offset : ℕ) (bytes : List ℕ) (desk : DeskState) → IsSound setup desk → IsSound setup (take_store guest delay page offset bytes desk).desk
stored-sound setup guest delay page offset bytes desk is =
    let scene = stored-scene guest delay page offset bytes (session_of guest desk).ended desk in
    let sessions = stored-sessions guest delay page offset bytes (session_of guest desk).ended desk in
    record {
      apart = subst (λ (s : Scene). are_apart (map id_of s.rows) ≡ true) (sym scene) is.apart;
      lists = subst (λ (s : Scene). LayersFollow s.rows s.layers) (sym scene) is.lists;
      gone = λ other cause known over.
          let within : other < length desk.sessions = subst (λ (n : ℕ). other < n) sessions known in
          subst (λ (s : Scene). mine other s.rows ≡ []) (sym scene)
          (is.gone other cause within (sym (store-ended guest delay page offset bytes other desk within) ∙ over));
      limits = subst (λ (s : Scene). KeepsLimits (sizes_of setup) s.rows) (sym scene) is.limits;
    }

pub steps-keep_sound : StepsKeepSound
steps-keep_sound setup (item.Bytes g) piece state is =
    item-sound setup g (count_item state) (take_bytes setup g piece (count_item state)).desk (counted-sound setup state is)
    (record {
      sessions = length-bytes setup g piece (count_item state);
      session = λ other apart. bytes-other setup g other apart piece (count_item state);
      rows = λ other apart. bytes-keep setup g other apart piece (count_item state);
      over = λ cause e. ap (λ c. (bytes_of_open setup g piece c (count_item state)).desk) e;
      gone = λ cause known e over. ends-leave_nothing setup (item.Bytes g) piece g cause state known e over;
    })
    (bytes-listed setup g piece (count_item state) (record { apart = is.apart; lists = is.lists }))
    (bytes-limited setup g piece (count_item state) (record { apart = is.apart; lists = is.lists }) is.limits)
steps-keep_sound setup (item.Closed g) piece state is =
    item-sound setup g (count_item state) (end_session setup g Closing (StreamEnded 0 0) (count_item state)).desk (counted-sound setup state is)
    (record {
      sessions = length-end setup g Closing (StreamEnded 0 0) (count_item state);
      session = λ other apart. end-other setup g other apart Closing (StreamEnded 0 0) (count_item state);
      rows = λ other apart. end-keeps setup g other apart Closing (StreamEnded 0 0) (count_item state);
      over = λ cause e. ap (λ c. (end_of_open setup g Closing (StreamEnded 0 0) c (count_item state)).desk) e;
      gone = λ cause known e over. ends-leave_nothing setup (item.Closed g) piece g cause state known e over;
    })
    (end-listed setup g Closing (StreamEnded 0 0) (count_item state) (record { apart = is.apart; lists = is.lists }))
    (end-limited setup g Closing (StreamEnded 0 0) (count_item state) is.limits)
steps-keep_sound setup (item.Lost g) piece state is =
    item-sound setup g (count_item state) (end_session setup g Losing (LinkFailed 0 0) (count_item state)).desk (counted-sound setup state is)
    (record {
      sessions = length-end setup g Losing (LinkFailed 0 0) (count_item state);
      session = λ other apart. end-other setup g other apart Losing (LinkFailed 0 0) (count_item state);
      rows = λ other apart. end-keeps setup g other apart Losing (LinkFailed 0 0) (count_item state);
      over = λ cause e. ap (λ c. (end_of_open setup g Losing (LinkFailed 0 0) c (count_item state)).desk) e;
      gone = λ cause known e over. ends-leave_nothing setup (item.Lost g) piece g cause state known e over;
    })
    (end-listed setup g Losing (LinkFailed 0 0) (count_item state) (record { apart = is.apart; lists = is.lists }))
    (end-limited setup g Losing (LinkFailed 0 0) (count_item state) is.limits)
steps-keep_sound setup (item.Store g delay page offset) piece state is = stored-sound setup g delay page offset piece (count_item state) (counted-sound setup state is)
steps-keep_sound setup item.Snap piece state is = counted-sound setup state is
steps-keep_sound setup item.End piece state is = counted-sound setup state is
steps-keep_sound setup item.Idle piece state is = is
steps-keep_sound setup i piece state is = event-sound setup i (count_item state) (counted-sound setup state is)
