-- A piece of two parts does what the two do one after the other.
use Rattle.std.proofs.Common.{◌≡◌, ℕ, ◌+◌, ◌<◌, Bool, true, false, List, [], ◌∷◌, ◌++◌, length, get_or, set, Option, Some, None, is_some, refl, sym, ◌∙◌, ap, append_assoc, get_or-set_same, set-set, length-set}
use Rattle.std.specs.Prelude.{◌||◌}
use Rattle.std.proofs.lemmas.List.{append-nil}
use Rattle.desk_laws.specs.declared.setup.Setup.{Setup}
use Rattle.desk_laws.specs.Sizes.{sizes_of}
use Rattle.desk_laws.specs.declared.cause.Cause.{Cause}
use Rattle.desk_laws.specs.Frames.{counted}
use Rattle.desk_laws.specs.Stream.{StreamUnit, Word, Stop, Whole, Cut, cut, head_fault, is_clean, is_greeting, greeted_after}
use Rattle.desk_laws.specs.Scene.{Took}
use Rattle.desk_laws.specs.Effects.{Effect, effect}
use Rattle.desk_laws.specs.State.{DeskState, StepOutcome, Session, stays, and_next, step_after, fresh, session_of, with_session, count_item}
use Rattle.desk_laws.specs.Steps.{take_unit, take_units, take_bytes, take_cut, unit_done, unit_effect, unit_of_open, went, ends, session_after, with_rest, rest_of_open, bytes_of_open}
use Rattle.run_laws.specs.Pieces.{with_items, with_items_out, PiecesJoin}
use Rattle.desk_laws.proofs.Cutting.{cuts_in_pieces, cut-stops}

-- what came out stays, and the state is changed
abbrev pub changing : (DeskState → DeskState) → StepOutcome → StepOutcome
changing f x = record x { desk = f x.desk }

pub session_of-with : (g : ℕ) (s : Session) (d : DeskState) → g < length d.sessions → session_of g (with_session g s d) ≡ s
session_of-with g s d h = get_or-set_same d.sessions g s (fresh 0) h

with_rest-open : (g : ℕ) (r : List ℕ) (d : DeskState) → (session_of g d).ended ≡ None → with_rest g r d ≡ with_session g (record (session_of g d) { rest = r }) d
with_rest-open g r d e = ap (λ c. rest_of_open g r c d) e

with_rest-ended : (g : ℕ) (r : List ℕ) (d : DeskState) (c : Cause) → (session_of g d).ended ≡ Some c → with_rest g r d ≡ d
with_rest-ended g r d c e = ap (λ c. rest_of_open g r c d) e

-- ---- one unit does not look at the rest

module _ (setup : Setup) (g : ℕ) (u : StreamUnit) (r : List ℕ) (d : DeskState) (known : g < length d.sessions) (running : (session_of g d).ended ≡ None) where
  d1 : DeskState
  d1 = with_session g (record (session_of g d) { rest = r }) d

  session_d1 : session_of g d1 ≡ record (session_of g d) { rest = r }
  unfolding d1
  session_d1 = session_of-with g (record (session_of g d) { rest = r }) d known

  effect_d1 : unit_effect setup g u d1 ≡ unit_effect setup g u d
  unfolding d1
  effect_d1 = ap (λ s. effect (sizes_of setup) g s.minor d.scene.rows s.port u) session_d1

  -- a session written over one with another rest
  over_d1 : (s : Session) → set d1.sessions g s ≡ set d.sessions g s
  unfolding d1
  over_d1 s = set-set d.sessions g (record (session_of g d) { rest = r }) s

  -- the rest put into a session that was written, and runs
  put_running : (D : DeskState) (s : Session) → D.sessions ≡ set d.sessions g s → s.ended ≡ None → with_rest g r D ≡ record D { sessions = set d.sessions g (record s { rest = r }) }
  put_running D s e running =
      let at_D : session_of g D ≡ s = ap (λ ss. get_or ss g (fresh 0)) e ∙ get_or-set_same d.sessions g s (fresh 0) known in
      with_rest-open g r D (ap (λ x. x.ended) at_D ∙ running)
      ∙ ap (λ x. record D { sessions = set D.sessions g (record x { rest = r }) }) at_D
      ∙ ap (λ ss. record D { sessions = set ss g (record s { rest = r }) }) e
      ∙ ap (λ ss. record D { sessions = ss }) (set-set d.sessions g s (record s { rest = r }))

  put_ended : (D : DeskState) (s : Session) (c : Cause) → D.sessions ≡ set d.sessions g s → s.ended ≡ Some c → with_rest g r D ≡ D
  put_ended D s c e ended =
      let at_D : session_of g D ≡ s = ap (λ ss. get_or ss g (fresh 0)) e ∙ get_or-set_same d.sessions g s (fresh 0) known in
      with_rest-ended g r D c (ap (λ x. x.ended) at_D ∙ ended)

  went_d1 : (e : Effect) → went setup g u e d1 ≡ changing (with_rest g r) (went setup g u e d)
  unfolding d1
  went_d1 e =
      let s' : Session = session_after u e (session_of g d) in
      let F : List Session → StepOutcome = λ ss. record (went setup g u e d) { desk = record ((went setup g u e d).desk) { sessions = ss } } in
      ap (λ s. F (set d1.sessions g (session_after u e s))) session_d1
      ∙ ap F (over_d1 (record s' { rest = r }))
      ∙ sym (ap (λ x. record (went setup g u e d) { desk = x }) (put_running (went setup g u e d).desk s' refl running))

  ends_d1 : (c : Cause) → ends setup g (Took u) c d1 ≡ changing (with_rest g r) (ends setup g (Took u) c d)
  unfolding d1
  ends_d1 c =
      let s' : Session = record (session_of g d) { rest = []; ended = Some c } in
      let F : List Session → StepOutcome = λ ss. record (ends setup g (Took u) c d) { desk = record ((ends setup g (Took u) c d).desk) { sessions = ss } } in
      ap (λ s. F (set d1.sessions g (record s { rest = []; ended = Some c }))) session_d1
      ∙ ap F (over_d1 s')
      ∙ sym (ap (λ x. record (ends setup g (Took u) c d) { desk = x }) (put_ended (ends setup g (Took u) c d).desk s' c refl refl))

  done_d1 : (e : Effect) (c : Option Cause) → unit_done setup g u e c d1 ≡ changing (with_rest g r) (unit_done setup g u e c d)
  done_d1 e None = went_d1 e
  done_d1 e (Some c) = ends_d1 c

  take_d1 : take_unit setup g u d1 ≡ changing (with_rest g r) (take_unit setup g u d)
  take_d1 =
      ap (λ s. unit_of_open setup g u s.ended d1) session_d1
      ∙ ap (λ c. unit_of_open setup g u c d1) running
      ∙ ap (λ e. unit_done setup g u e e.cause d1) effect_d1
      ∙ done_d1 (unit_effect setup g u d) (unit_effect setup g u d).cause
      ∙ sym (ap (λ c. changing (with_rest g r) (unit_of_open setup g u c d)) running)

-- one unit, whatever the rest is
take_unit-rest : (setup : Setup) (g : ℕ) (u : StreamUnit) (r : List ℕ) (d : DeskState) → g < length d.sessions
    → take_unit setup g u (with_rest g r d) ≡ changing (with_rest g r) (take_unit setup g u d)
unfolding d1
take_unit-rest setup g u r d known = by_end (session_of g d).ended refl
  where
    by_end : (c : Option Cause) → (session_of g d).ended ≡ c → take_unit setup g u (with_rest g r d) ≡ changing (with_rest g r) (take_unit setup g u d)
    by_end None e = ap (take_unit setup g u) (with_rest-open g r d e) ∙ take_d1 setup g u r d known e
    by_end (Some c) e =
        ap (take_unit setup g u) (with_rest-ended g r d c e)
        ∙ ap (λ x. unit_of_open setup g u x d) e
        ∙ sym (ap stays (with_rest-ended g r d c e))
        ∙ sym (ap (λ x. changing (with_rest g r) (unit_of_open setup g u x d)) e)

-- ---- the number of sessions stays

pub length-unit : (setup : Setup) (g : ℕ) (u : StreamUnit) (d : DeskState) → length (take_unit setup g u d).desk.sessions ≡ length d.sessions
length-unit setup g u d = by_end (session_of g d).ended
  where
    by_cause : (e : Effect) (c : Option Cause) → length (unit_done setup g u e c d).desk.sessions ≡ length d.sessions
    by_cause e None = length-set d.sessions g (session_after u e (session_of g d))
    by_cause e (Some c) = length-set d.sessions g (record (session_of g d) { rest = []; ended = Some c })

    by_end : (c : Option Cause) → length (unit_of_open setup g u c d).desk.sessions ≡ length d.sessions
    by_end None = by_cause (unit_effect setup g u d) (unit_effect setup g u d).cause
    by_end (Some c) = refl

-- ---- many units

-- what comes out of three, in either grouping
and_next-assoc : (x : StepOutcome) (f h : DeskState → StepOutcome) → and_next (and_next x f) h ≡ and_next x (λ d. and_next (f d) h)
and_next-assoc x f h =
    let y : StepOutcome = f x.desk in
    let z : StepOutcome = h y.desk in
    let P = append_assoc x.posts y.posts z.posts in
    let I = append_assoc x.inputs y.inputs z.inputs in
    let R = append_assoc x.readings y.readings z.readings in
    simp (P, I, R)

-- units in two parts
pub take_units-append : (setup : Setup) (g : ℕ) (us vs : List StreamUnit) (d : DeskState)
    → take_units setup g (us ++ vs) d ≡ and_next (take_units setup g us d) (take_units setup g vs)
take_units-append setup g [] vs d = refl
take_units-append setup g (u ∷ us) vs d =
    ap (step_after (take_unit setup g u d)) (take_units-append setup g us vs (take_unit setup g u d).desk)
    ∙ sym (and_next-assoc (take_unit setup g u d) (take_units setup g us) (take_units setup g vs))

-- many units, whatever the rest is
take_units-rest : (setup : Setup) (g : ℕ) (us : List StreamUnit) (r : List ℕ) (d : DeskState) → g < length d.sessions
    → take_units setup g us (with_rest g r d) ≡ changing (with_rest g r) (take_units setup g us d)
take_units-rest setup g [] r d known = refl
take_units-rest setup g (u ∷ us) r d known =
    ap (λ x. and_next x (take_units setup g us)) (take_unit-rest setup g u r d known)
    ∙ ap (step_after (take_unit setup g u d))
    (take_units-rest setup g us r (take_unit setup g u d).desk (rw length-unit known))

-- the rest put leaves the number of sessions
length-rest : (g : ℕ) (r : List ℕ) (d : DeskState) → length (with_rest g r d).sessions ≡ length d.sessions
length-rest g r d = by_end (session_of g d).ended
  where
    by_end : (e : Option Cause) → length (rest_of_open g r e d).sessions ≡ length d.sessions
    by_end None = length-set d.sessions g (record (session_of g d) { rest = r })
    by_end (Some c) = refl

-- after the end no unit does anything
take_units-ended : (setup : Setup) (g : ℕ) (us : List StreamUnit) (d : DeskState) (c : Cause) → (session_of g d).ended ≡ Some c → take_units setup g us d ≡ stays d
take_units-ended setup g [] d c e = refl
take_units-ended setup g (u ∷ us) d c e =
    ap (λ x. and_next (unit_of_open setup g u x d) (take_units setup g us)) e
    ∙ take_units-ended setup g us d c e

-- ---- greeted

session_went : (setup : Setup) (g : ℕ) (u : StreamUnit) (e : Effect) (d : DeskState) → g < length d.sessions → session_of g (went setup g u e d).desk ≡ session_after u e (session_of g d)
session_went setup g u e d known = get_or-set_same d.sessions g (session_after u e (session_of g d)) (fresh 0) known

session_ends : (setup : Setup) (g : ℕ) (u : StreamUnit) (c : Cause) (d : DeskState) → g < length d.sessions → (session_of g (ends setup g (Took u) c d).desk).ended ≡ Some c
session_ends setup g u c d known = ap (λ s. s.ended) (get_or-set_same d.sessions g (record (session_of g d) { rest = []; ended = Some c }) (fresh 0) known)

-- where the session still runs, it is greeted as b says
abbrev IsGreetedBy : ℕ → Bool → StepOutcome → Type 0
IsGreetedBy g b x = (session_of g x.desk).ended ≡ None → (session_of g x.desk).greeted ≡ b

greeted-done : (setup : Setup) (g : ℕ) (u : StreamUnit) (d : DeskState) → g < length d.sessions → (e : Effect) (c : Option Cause)
    → IsGreetedBy g (is_greeting u || (session_of g d).greeted) (unit_done setup g u e c d)
greeted-done setup g u d known e None h = ap (λ s. s.greeted) (session_went setup g u e d known)
greeted-done setup g u d known e (Some c) h = let no = session_ends setup g u c d known in cc

greeted-open : (setup : Setup) (g : ℕ) (u : StreamUnit) (d : DeskState) → g < length d.sessions → (c : Option Cause) → (session_of g d).ended ≡ c
    → IsGreetedBy g (is_greeting u || (session_of g d).greeted) (unit_of_open setup g u c d)
greeted-open setup g u d known None e h = greeted-done setup g u d known (unit_effect setup g u d) (unit_effect setup g u d).cause h
greeted-open setup g u d known (Some c) e h = cc

-- many units greet as they stand
greeted-units : (setup : Setup) (g : ℕ) (us : List StreamUnit) (d : DeskState) → g < length d.sessions
    → IsGreetedBy g (greeted_after us (session_of g d).greeted) (take_units setup g us d)
greeted-units setup g [] d known h = refl
greeted-units setup g (u ∷ us) d known h =
    greeted-units setup g us d' (rw length-unit known) h
    ∙ ap (greeted_after us) (by_end (session_of g d').ended refl)
  where
    d' : DeskState
    d' = (take_unit setup g u d).desk

    by_end : (c : Option Cause) → (session_of g d').ended ≡ c → (session_of g d').greeted ≡ is_greeting u || (session_of g d).greeted
    by_end None e = greeted-open setup g u d known (session_of g d).ended refl e
    by_end (Some c) e =
        let stay = take_units-ended setup g us d' c e in
        let no : (session_of g (take_units setup g us d').desk).ended ≡ Some c = ap (λ x. (session_of g x.desk).ended) stay ∙ e in
        cc

pub length-units : (setup : Setup) (g : ℕ) (us : List StreamUnit) (d : DeskState) → length (take_units setup g us d).desk.sessions ≡ length d.sessions
length-units setup g [] d = refl
length-units setup g (u ∷ us) d = length-units setup g us (take_unit setup g u d).desk ∙ length-unit setup g u d

-- ---- the law, where no fault stands in the first part

-- the rest of a session that runs, put twice
with_rest-twice : (g : ℕ) (a b : List ℕ) (d : DeskState) → g < length d.sessions → (session_of g d).ended ≡ None → with_rest g b (with_rest g a d) ≡ with_rest g b d
with_rest-twice g a b d known e =
    let s1 : Session = record (session_of g d) { rest = a } in
    let at : session_of g (with_session g s1 d) ≡ s1 = session_of-with g s1 d known in
    ap (with_rest g b) (with_rest-open g a d e)
    ∙ with_rest-open g b (with_session g s1 d) (ap (λ s. s.ended) at ∙ e)
    ∙ ap (λ s. with_session g (record s { rest = b }) (with_session g s1 d)) at
    ∙ ap (λ ss. record d { sessions = ss }) (set-set d.sessions g s1 (record s1 { rest = b }))
    ∙ sym (with_rest-open g b d e)

session-with_rest : (g : ℕ) (r : List ℕ) (d : DeskState) → g < length d.sessions → (session_of g d).ended ≡ None → session_of g (with_rest g r d) ≡ record (session_of g d) { rest = r }
session-with_rest g r d known e = ap (session_of g) (with_rest-open g r d e) ∙ session_of-with g (record (session_of g d) { rest = r }) d known

-- what is left to do is the same: the second part of the units with the last rest, or the second piece
second_part : (setup : Setup) (g : ℕ) (r q : List ℕ) (gr : Bool) (d : DeskState) → g < length d.sessions
    → ((session_of g d).ended ≡ None → (session_of g d).greeted ≡ gr)
    → take_units setup g (cut gr (r ++ q)).units (with_rest g (cut gr (r ++ q)).rest d) ≡ take_bytes setup g q (with_rest g r d)
second_part setup g r q gr d known greets = by_end (session_of g d).ended refl
  where
    by_end : (c : Option Cause) → (session_of g d).ended ≡ c
        → take_units setup g (cut gr (r ++ q)).units (with_rest g (cut gr (r ++ q)).rest d) ≡ take_bytes setup g q (with_rest g r d)
    by_end None e =
        ap (take_units setup g (cut gr (r ++ q)).units) (sym (with_rest-twice g r (cut gr (r ++ q)).rest d known e))
        ∙ sym (ap (λ b. take_cut setup g (cut b (r ++ q)) (with_rest g r d)) (greets e))
        ∙ sym (ap (λ s. take_cut setup g (cut s.greeted (s.rest ++ q)) (with_rest g r d)) (session-with_rest g r d known e))
        ∙ sym (ap (λ x. bytes_of_open setup g q x (with_rest g r d)) (ap (λ s. s.ended) (session-with_rest g r d known e) ∙ e))
    by_end (Some c) e =
        ap (take_units setup g (cut gr (r ++ q)).units) (with_rest-ended g (cut gr (r ++ q)).rest d c e)
        ∙ take_units-ended setup g (cut gr (r ++ q)).units d c e
        ∙ sym (ap (take_bytes setup g q) (with_rest-ended g r d c e) ∙ ap (λ x. bytes_of_open setup g q x d) e)

-- what follows changes nothing
and-nothing : (x : StepOutcome) (f : DeskState → StepOutcome) → f x.desk ≡ stays x.desk → and_next x f ≡ x
and-nothing x f e =
    ap (step_after x) e
    ∙ ap (λ ps. record x { posts = ps; inputs = x.inputs ++ []; readings = x.readings ++ [] }) (append-nil x.posts)
    ∙ ap (λ is. record x { inputs = is; readings = x.readings ++ [] }) (append-nil x.inputs)
    ∙ ap (λ rs. record x { readings = rs }) (append-nil x.readings)

-- two pieces in a session that is open, where no fault stands in the first one
clean_pieces : (setup : Setup) (g : ℕ) (p q : List ℕ) (d : DeskState) → g < length d.sessions → (session_of g d).ended ≡ None
    → is_clean (cut (session_of g d).greeted ((session_of g d).rest ++ p)).units ≡ true
    → take_bytes setup g (p ++ q) d ≡ and_next (take_bytes setup g p d) (take_bytes setup g q)
clean_pieces setup g p q d known running clean =
    ap (λ x. bytes_of_open setup g (p ++ q) x d) running
    ∙ ap (λ c. take_cut setup g c d) (ap (cut s.greeted) (sym (append_assoc s.rest p q)) ∙ cuts_in_pieces head_fault s.greeted (s.rest ++ p) q clean)
    ∙ take_units-append setup g one.units two.units (with_rest g two.rest d)
    ∙ ap (λ x. and_next x (take_units setup g two.units)) (take_units-rest setup g one.units two.rest d known)
    ∙ ap (step_after came) (second_part setup g one.rest q (greeted_after one.units s.greeted) came.desk (rw length-units known) (greeted-units setup g one.units d known))
    ∙ sym (ap (λ x. and_next x (take_bytes setup g q)) (take_units-rest setup g one.units one.rest d known))
    ∙ sym (ap (λ x. and_next (bytes_of_open setup g p x d) (take_bytes setup g q)) running)
  where
    s : Session
    s = session_of g d

    one : Cut
    one = cut s.greeted (s.rest ++ p)

    two : Cut
    two = cut (greeted_after one.units s.greeted) (one.rest ++ q)

    came : StepOutcome
    came = take_units setup g one.units d

-- ---- where a fault stands in the first piece

-- a fault ends a session that is open, and units behind it change nothing of that
stop-ends : (setup : Setup) (g : ℕ) (c : Cause) (d : DeskState) → g < length d.sessions → is_some (session_of g (take_unit setup g (Stop c) d).desk).ended ≡ true
stop-ends setup g c d known = by_end (session_of g d).ended refl
  where
    by_end : (e : Option Cause) → (session_of g d).ended ≡ e → is_some (session_of g (unit_of_open setup g (Stop c) e d).desk).ended ≡ true
    by_end None e = ap is_some (session_ends setup g (Stop c) c d known)
    by_end (Some cause) e = ap is_some e

-- a session that has ended stays so
over-stays : (setup : Setup) (g : ℕ) (us : List StreamUnit) (d : DeskState) → is_some (session_of g d).ended ≡ true → is_some (session_of g (take_units setup g us d).desk).ended ≡ true
over-stays setup g us d over = by_end (session_of g d).ended refl over
  where
    by_end : (e : Option Cause) → (session_of g d).ended ≡ e → is_some e ≡ true → is_some (session_of g (take_units setup g us d).desk).ended ≡ true
    by_end None e h = cc
    by_end (Some cause) e h = ap (λ x. is_some (session_of g x.desk).ended) (take_units-ended setup g us d cause e) ∙ ap is_some e

unclean-ends : (setup : Setup) (g : ℕ) (us : List StreamUnit) (d : DeskState) → g < length d.sessions → is_clean us ≡ false
    → is_some (session_of g (take_units setup g us d).desk).ended ≡ true
unclean-ends setup g [] d known unclean = cc
unclean-ends setup g (Word w ∷ us) d known unclean = unclean-ends setup g us (take_unit setup g (Word w) d).desk (rw length-unit known) unclean
unclean-ends setup g (Stop c ∷ us) d known unclean = over-stays setup g us (take_unit setup g (Stop c) d).desk (stop-ends setup g c d known)
unclean-ends setup g (Whole h b ∷ us) d known unclean = unclean-ends setup g us (take_unit setup g (Whole h b) d).desk (rw length-unit known) unclean

-- bytes of a session that has ended
pub bytes-left : (setup : Setup) (g : ℕ) (q : List ℕ) (d : DeskState) → is_some (session_of g d).ended ≡ true → take_bytes setup g q d ≡ stays d
bytes-left setup g q d over = by_end (session_of g d).ended over
  where
    by_end : (e : Option Cause) → is_some e ≡ true → bytes_of_open setup g q e d ≡ stays d
    by_end None h = cc
    by_end (Some cause) h = refl

unclean_pieces : (setup : Setup) (g : ℕ) (p q : List ℕ) (d : DeskState) → g < length d.sessions → (session_of g d).ended ≡ None
    → is_clean (cut (session_of g d).greeted ((session_of g d).rest ++ p)).units ≡ false
    → take_bytes setup g (p ++ q) d ≡ and_next (take_bytes setup g p d) (take_bytes setup g q)
unclean_pieces setup g p q d known running unclean =
    ap (λ x. bytes_of_open setup g (p ++ q) x d) running
    ∙ ap (λ c. take_cut setup g c d) (ap (cut s.greeted) (sym (append_assoc s.rest p q)) ∙ cut-stops head_fault s.greeted (s.rest ++ p) q unclean)
    ∙ sym (ap (λ x. bytes_of_open setup g p x d) running)
    ∙ sym (and-nothing (take_bytes setup g p d) (take_bytes setup g q) (bytes-left setup g q (take_bytes setup g p d).desk over))
  where
    s : Session
    s = session_of g d

    one : Cut
    one = cut s.greeted (s.rest ++ p)

    over : is_some (session_of g (take_bytes setup g p d).desk).ended ≡ true
    over =
        ap (λ x. is_some (session_of g (bytes_of_open setup g p x d).desk).ended) running
        ∙ unclean-ends setup g one.units (with_rest g one.rest d) (sym-length known) unclean
      where
        sym-length : g < length d.sessions → g < length (with_rest g one.rest d).sessions
        sym-length k = rw (length-rest g one.rest d) k

-- ---- any two pieces

pub two_pieces : (setup : Setup) (g : ℕ) (p q : List ℕ) (d : DeskState) → g < length d.sessions
    → take_bytes setup g (p ++ q) d ≡ and_next (take_bytes setup g p d) (take_bytes setup g q)
two_pieces setup g p q d known = by_end (session_of g d).ended refl
  where
    by_clean : (b : Bool) → is_clean (cut (session_of g d).greeted ((session_of g d).rest ++ p)).units ≡ b → (session_of g d).ended ≡ None
        → take_bytes setup g (p ++ q) d ≡ and_next (take_bytes setup g p d) (take_bytes setup g q)
    by_clean true e running = clean_pieces setup g p q d known running e
    by_clean false e running = unclean_pieces setup g p q d known running e

    by_end : (c : Option Cause) → (session_of g d).ended ≡ c → take_bytes setup g (p ++ q) d ≡ and_next (take_bytes setup g p d) (take_bytes setup g q)
    by_end None e = by_clean (is_clean (cut (session_of g d).greeted ((session_of g d).rest ++ p)).units) refl e
    by_end (Some c) e =
        bytes-left setup g (p ++ q) d (ap is_some e) ∙ sym (bytes-left setup g q d (ap is_some e))
        ∙ sym (ap (λ x. and_next x (take_bytes setup g q)) (bytes-left setup g p d (ap is_some e)))

-- ---- the count of items

-- units don't look at the count of items, and leave it
unit-items : (setup : Setup) (g n : ℕ) (u : StreamUnit) (d : DeskState) → take_unit setup g u (with_items n d) ≡ with_items_out n (take_unit setup g u d)
unit-items setup g n u d = by_end (session_of g d).ended
  where
    by_cause : (e : Effect) (c : Option Cause) → unit_done setup g u e c (with_items n d) ≡ with_items_out n (unit_done setup g u e c d)
    by_cause e None = refl
    by_cause e (Some c) = refl

    by_end : (e : Option Cause) → unit_of_open setup g u e (with_items n d) ≡ with_items_out n (unit_of_open setup g u e d)
    by_end None = by_cause (unit_effect setup g u d) (unit_effect setup g u d).cause
    by_end (Some c) = refl

units-items : (setup : Setup) (g n : ℕ) (us : List StreamUnit) (d : DeskState) → take_units setup g us (with_items n d) ≡ with_items_out n (take_units setup g us d)
units-items setup g n [] d = refl
units-items setup g n (u ∷ us) d =
    ap (λ x. and_next x (take_units setup g us)) (unit-items setup g n u d)
    ∙ ap (step_after (take_unit setup g u d)) (units-items setup g n us (take_unit setup g u d).desk)

rest-items : (g n : ℕ) (r : List ℕ) (d : DeskState) → with_rest g r (with_items n d) ≡ with_items n (with_rest g r d)
rest-items g n r d = by_end (session_of g d).ended
  where
    by_end : (e : Option Cause) → rest_of_open g r e (with_items n d) ≡ with_items n (rest_of_open g r e d)
    by_end None = refl
    by_end (Some c) = refl

pub bytes-items : (setup : Setup) (g n : ℕ) (q : List ℕ) (d : DeskState) → take_bytes setup g q (with_items n d) ≡ with_items_out n (take_bytes setup g q d)
bytes-items setup g n q d = by_end (session_of g d).ended
  where
    c : Cut
    c = cut (session_of g d).greeted ((session_of g d).rest ++ q)

    by_end : (e : Option Cause) → bytes_of_open setup g q e (with_items n d) ≡ with_items_out n (bytes_of_open setup g q e d)
    by_end None = ap (take_units setup g c.units) (rest-items g n c.rest d) ∙ units-items setup g n c.units (with_rest g c.rest d)
    by_end (Some cause) = refl

-- ---- the law

pub pieces-join : PiecesJoin
pieces-join setup g p q d known =
    let d1 = count_item d in
    let x : StepOutcome = take_bytes setup g p d1 in
    let n = counted (x.desk.counts.items + 1) in
    let both : and_next x (λ e. take_bytes setup g q (count_item e)) ≡ with_items_out n (and_next x (take_bytes setup g q)) =
    ap (step_after x) (bytes-items setup g n q x.desk) in
    ap (λ y. with_items_out 0 (step_after x y)) (and-nothing (take_bytes setup g q (count_item x.desk)) stays refl)
    ∙ ap (with_items_out 0) both
    ∙ ap (with_items_out 0) (sym (two_pieces setup g p q d1 known))
    ∙ sym (ap (with_items_out 0) (and-nothing (take_bytes setup g (p ++ q) d1) stays refl))
