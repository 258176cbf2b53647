-- What the end of a guest's session leaves of it.
use Rattle.std.proofs.Common.{◌≡◌, ◌≢◌, ℕ, ◌<◌, Bool, true, false, not, ◌==◌, List, [], ◌∷◌, ◌++◌, length, Option, Some, None, is_some, refl, sym, ◌∙◌, ap, subst, length-set}
use Rattle.std.specs.Prelude.{if◌then◌else◌}
use Rattle.std.proofs.lemmas.Bool.{eqb-true, eqb-false}
use Rattle.std.proofs.lemmas.List.{get_or-set_other}
use Rattle.desk_laws.specs.declared.setup.Setup.{Setup}
use Rattle.desk_laws.specs.declared.cause.Cause.{Cause}
use Rattle.desk_laws.specs.declared.cause.Cause.TheVariants.{StreamEnded, LinkFailed}
use Rattle.desk_laws.specs.declared.item.Item.TheVariants as item
use Rattle.desk_laws.specs.Sizes.{sizes_of}
use Rattle.desk_laws.specs.Stream.{StreamUnit, Cut, cut}
use Rattle.desk_laws.specs.Frames.{store}
use Rattle.desk_laws.specs.Rows.{Row, mine}
use Rattle.desk_laws.specs.Scene.{Input, Took, Closing, Losing}
use Rattle.desk_laws.specs.Effects.{Effect, changed, Cleared}
use Rattle.desk_laws.specs.State.{DeskState, StepOutcome, Session, fresh, session_of, with_session, count_item}
use Rattle.desk_laws.specs.Steps.{step, take_unit, take_units, take_bytes, take_store, end_session, unit_done, unit_effect, unit_of_open, end_told, ends, session_after, with_rest, rest_of_open, bytes_of_open, end_of_open, store_of_open}
use Rattle.desk_laws.specs.Endings.{IsGone, EndsLeaveNothing}
use Rattle.desk_laws.proofs.SettleLemmas.{settle-rows}
use Rattle.desk_laws.proofs.UnitLemmas.{units-left, session-put}

-- ---- the rows of a guest after its end

mine-cleared : (guest : ℕ) (rows : List Row) → mine guest (changed guest Cleared rows) ≡ []
mine-cleared guest [] = refl
mine-cleared guest (row ∷ rows) = by_guest (row.guest == guest) refl (mine-cleared guest rows)
  where
    by_guest : (b : Bool) → (row.guest == guest) ≡ b → mine guest (changed guest Cleared rows) ≡ []
        → mine guest (if not b then row ∷ changed guest Cleared rows else changed guest Cleared rows) ≡ []
    by_guest true e ih = ih
    by_guest false e ih = ap (λ b. if b then row ∷ mine guest (changed guest Cleared rows) else mine guest (changed guest Cleared rows)) e ∙ ih

ends-gone : (setup : Setup) (guest : ℕ) (input : Input) (cause : Cause) (desk : DeskState) → guest < length desk.sessions → IsGone guest (ends setup guest input cause desk).desk
ends-gone setup guest input cause desk known = record {
  rows = ap (mine guest) (settle-rows (sizes_of setup) (end_told guest input cause desk.scene).scene) ∙ mine-cleared guest desk.scene.rows;
  rest = ap (λ s. s.rest) (session-put guest (record (session_of guest desk) { rest = []; ended = Some cause }) desk known);
}

-- ---- where a session ends

-- what is left where the session ended
abbrev IsGoneIfOver : ℕ → DeskState → Type 0
IsGoneIfOver guest desk = is_some (session_of guest desk).ended ≡ true → IsGone guest desk

module _ (setup : Setup) (guest : ℕ) where
  unit-gone : (u : StreamUnit) (desk : DeskState) → guest < length desk.sessions → (session_of guest desk).ended ≡ None → IsGoneIfOver guest (take_unit setup guest u desk).desk
  unit-gone u desk known running =
      let P : Option Cause → Type 0 = λ e. IsGoneIfOver guest (unit_of_open setup guest u e desk).desk in
      subst P (sym running) (by_cause (unit_effect setup guest u desk) (unit_effect setup guest u desk).cause)
    where
      by_cause : (e : Effect) (c : Option Cause) → IsGoneIfOver guest (unit_done setup guest u e c desk).desk
      by_cause e None over =
          let still : (session_of guest (unit_done setup guest u e None desk).desk).ended ≡ None =
          ap (λ s. s.ended) (session-put guest (session_after u e (session_of guest desk)) desk known) ∙ running in
          let no = sym over ∙ ap is_some still in
          cc
      by_cause e (Some cause) over = ends-gone setup guest (Took u) cause desk known

  pub length-unit : (u : StreamUnit) (desk : DeskState) → length (take_unit setup guest u desk).desk.sessions ≡ length desk.sessions
  length-unit u desk = by_end (session_of guest desk).ended
    where
      by_cause : (e : Effect) (c : Option Cause) → length (unit_done setup guest u e c desk).desk.sessions ≡ length desk.sessions
      by_cause e None = length-set desk.sessions guest (session_after u e (session_of guest desk))
      by_cause e (Some c) = length-set desk.sessions guest (record (session_of guest desk) { rest = []; ended = Some c })

      by_end : (c : Option Cause) → length (unit_of_open setup guest u c desk).desk.sessions ≡ length desk.sessions
      by_end None = by_cause (unit_effect setup guest u desk) (unit_effect setup guest u desk).cause
      by_end (Some c) = refl

  units-gone : (units : List StreamUnit) (desk : DeskState) → guest < length desk.sessions → (session_of guest desk).ended ≡ None → IsGoneIfOver guest (take_units setup guest units desk).desk
  units-gone [] desk known running over = let no = sym over ∙ ap is_some running in cc
  units-gone (u ∷ units) desk known running over =
      by_end (session_of guest next).ended refl (unit-gone u desk known running)
      (λ e. units-gone units next (rw (length-unit u desk) known) e over)
    where
      next : DeskState
      next = (take_unit setup guest u desk).desk

      by_end : (e : Option Cause) → (session_of guest next).ended ≡ e → IsGoneIfOver guest next
          → ((session_of guest next).ended ≡ None → IsGone guest (take_units setup guest units next).desk)
          → IsGone guest (take_units setup guest units next).desk
      by_end None e here further = further e
      by_end (Some cause) e here further =
          let P : StepOutcome → Type 0 = λ x. IsGone guest x.desk in
          subst P (sym (units-left setup guest units next cause e)) (here (ap is_some e))

  pub length-rest : (rest : List ℕ) (desk : DeskState) → length (with_rest guest rest desk).sessions ≡ length desk.sessions
  length-rest rest desk = by_end (session_of guest desk).ended
    where
      by_end : (e : Option Cause) → length (rest_of_open guest rest e desk).sessions ≡ length desk.sessions
      by_end None = length-set desk.sessions guest (record (session_of guest desk) { rest = rest })
      by_end (Some c) = refl

  rest-running : (rest : List ℕ) (desk : DeskState) → guest < length desk.sessions → (session_of guest desk).ended ≡ None → (session_of guest (with_rest guest rest desk)).ended ≡ None
  rest-running rest desk known running =
      ap (λ e. (session_of guest (rest_of_open guest rest e desk)).ended) running
      ∙ ap (λ s. s.ended) (session-put guest (record (session_of guest desk) { rest = rest }) desk known) ∙ running

  bytes-gone : (piece : List ℕ) (desk : DeskState) → guest < length desk.sessions → (session_of guest desk).ended ≡ None → IsGoneIfOver guest (take_bytes setup guest piece desk).desk
  bytes-gone piece desk known running =
      let P : Option Cause → Type 0 = λ e. IsGoneIfOver guest (bytes_of_open setup guest piece e desk).desk in
      let c : Cut = cut (session_of guest desk).greeted ((session_of guest desk).rest ++ piece) in
      subst P (sym running) (units-gone c.units (with_rest guest c.rest desk) (rw (length-rest c.rest desk) known) (rest-running c.rest desk known running))

  end-gone : (input : Input) (cause : Cause) (desk : DeskState) → guest < length desk.sessions → (session_of guest desk).ended ≡ None → IsGoneIfOver guest (end_session setup guest input cause desk).desk
  end-gone input cause desk known running =
      let P : Option Cause → Type 0 = λ e. IsGoneIfOver guest (end_of_open setup guest input cause e desk).desk in
      let gone : P None = λ over. ends-gone setup guest input cause desk known in
      subst P (sym running) gone

-- ---- items of others leave a session

module _ (setup : Setup) (guest other : ℕ) (apart : other ≢ guest) where
  put-other : (session : Session) (desk : DeskState) → session_of other (with_session guest session desk) ≡ session_of other desk
  put-other session desk = get_or-set_other desk.sessions guest other session (fresh 0) apart

  pub unit-other : (u : StreamUnit) (desk : DeskState) → session_of other (take_unit setup guest u desk).desk ≡ session_of other desk
  unit-other u desk = by_end (session_of guest desk).ended
    where
      by_cause : (e : Effect) (c : Option Cause) → session_of other (unit_done setup guest u e c desk).desk ≡ session_of other desk
      by_cause e None = put-other (session_after u e (session_of guest desk)) desk
      by_cause e (Some c) = put-other (record (session_of guest desk) { rest = []; ended = Some c }) desk

      by_end : (c : Option Cause) → session_of other (unit_of_open setup guest u c desk).desk ≡ session_of other desk
      by_end None = by_cause (unit_effect setup guest u desk) (unit_effect setup guest u desk).cause
      by_end (Some c) = refl

  pub units-other : (units : List StreamUnit) (desk : DeskState) → session_of other (take_units setup guest units desk).desk ≡ session_of other desk
  units-other [] desk = refl
  units-other (u ∷ units) desk = units-other units (take_unit setup guest u desk).desk ∙ unit-other u desk

  pub bytes-other : (piece : List ℕ) (desk : DeskState) → session_of other (take_bytes setup guest piece desk).desk ≡ session_of other desk
  bytes-other piece desk = by_end (session_of guest desk).ended
    where
      c : Cut
      c = cut (session_of guest desk).greeted ((session_of guest desk).rest ++ piece)

      by_rest : (e : Option Cause) → session_of other (rest_of_open guest c.rest e desk) ≡ session_of other desk
      by_rest None = put-other (record (session_of guest desk) { rest = c.rest }) desk
      by_rest (Some cause) = refl

      by_end : (e : Option Cause) → session_of other (bytes_of_open setup guest piece e desk).desk ≡ session_of other desk
      by_end None = units-other c.units (with_rest guest c.rest desk) ∙ by_rest (session_of guest desk).ended
      by_end (Some cause) = refl

  pub end-other : (input : Input) (cause : Cause) (desk : DeskState) → session_of other (end_session setup guest input cause desk).desk ≡ session_of other desk
  end-other input cause desk = by_end (session_of guest desk).ended
    where
      by_end : (e : Option Cause) → session_of other (end_of_open setup guest input cause e desk).desk ≡ session_of other desk
      by_end None = put-other (record (session_of guest desk) { rest = []; ended = Some cause }) desk
      by_end (Some c) = refl

-- a change of frames ends no session
pub store-ended : (guest delay page offset : ℕ) (bytes : List ℕ) (other : ℕ) (desk : DeskState) → other < length desk.sessions
    → (session_of other (take_store guest delay page offset bytes desk).desk).ended ≡ (session_of other desk).ended
store-ended guest delay page offset bytes other desk known = by_end (session_of guest desk).ended
  where
    stored : Session
    stored = record (session_of guest desk) { port = store (session_of guest desk).port delay page offset bytes }

    by_guest : (b : Bool) → (other == guest) ≡ b → (session_of other (with_session guest stored desk)).ended ≡ (session_of other desk).ended
    by_guest true e =
        let same : other ≡ guest = eqb-true other guest e in
        let P : ℕ → Type 0 = λ g. (session_of other (with_session g (record (session_of g desk) { port = store (session_of guest desk).port delay page offset bytes }) desk)).ended ≡ (session_of other desk).ended in
        subst P same (ap (λ s. s.ended) (session-put other (record (session_of other desk) { port = store (session_of guest desk).port delay page offset bytes }) desk known))
    by_guest false e = ap (λ s. s.ended) (get_or-set_other desk.sessions guest other stored (fresh 0) (eqb-false other guest e))

    by_end : (e : Option Cause) → (session_of other (store_of_open guest delay page offset bytes e desk).desk).ended ≡ (session_of other desk).ended
    by_end None = by_guest (other == guest) refl
    by_end (Some c) = refl

-- ---- the law

-- an item of one guest: it ends another's session never, and its own as given
of-item : (guest other : ℕ) (desk after : DeskState) → (session_of other desk).ended ≡ None → is_some (session_of other after).ended ≡ true
    → (other ≢ guest → session_of other after ≡ session_of other desk) → (other ≡ guest → IsGone other after) → IsGone other after
of-item guest other desk after running over apart own = by_guest (other == guest) refl
  where
    by_guest : (b : Bool) → (other == guest) ≡ b → IsGone other after
    by_guest true e = own (eqb-true other guest e)
    by_guest false e =
        let same : (session_of other after).ended ≡ None = ap (λ s. s.ended) (apart (eqb-false other guest e)) ∙ running in
        let no = sym over ∙ ap is_some same in
        cc

pub ends-leave_nothing : EndsLeaveNothing
ends-leave_nothing setup (item.Bytes g) piece guest cause state known running is =
    of-item g guest (count_item state) (step setup (item.Bytes g) piece state).desk running (ap is_some is)
    (λ apart. bytes-other setup g guest apart piece (count_item state))
    (λ same. subst (λ n. IsGone guest (take_bytes setup n piece (count_item state)).desk) same
    (bytes-gone setup guest piece (count_item state) known running
    (ap (λ n. is_some (session_of guest (take_bytes setup n piece (count_item state)).desk).ended) same ∙ ap is_some is)))
ends-leave_nothing setup (item.Closed g) piece guest cause state known running is =
    of-item g guest (count_item state) (step setup (item.Closed g) piece state).desk running (ap is_some is)
    (λ apart. end-other setup g guest apart Closing (StreamEnded 0 0) (count_item state))
    (λ same. subst (λ n. IsGone guest (end_session setup n Closing (StreamEnded 0 0) (count_item state)).desk) same
    (end-gone setup guest Closing (StreamEnded 0 0) (count_item state) known running
    (ap (λ n. is_some (session_of guest (end_session setup n Closing (StreamEnded 0 0) (count_item state)).desk).ended) same ∙ ap is_some is)))
ends-leave_nothing setup (item.Lost g) piece guest cause state known running is =
    of-item g guest (count_item state) (step setup (item.Lost g) piece state).desk running (ap is_some is)
    (λ apart. end-other setup g guest apart Losing (LinkFailed 0 0) (count_item state))
    (λ same. subst (λ n. IsGone guest (end_session setup n Losing (LinkFailed 0 0) (count_item state)).desk) same
    (end-gone setup guest Losing (LinkFailed 0 0) (count_item state) known running
    (ap (λ n. is_some (session_of guest (end_session setup n Losing (LinkFailed 0 0) (count_item state)).desk).ended) same ∙ ap is_some is)))
ends-leave_nothing setup (item.Store g delay page offset) piece guest cause state known running is =
    let no = sym is ∙ store-ended g delay page offset piece guest (count_item state) known ∙ running in cc
ends-leave_nothing setup i piece guest cause state known running is = let no = sym is ∙ running in cc
