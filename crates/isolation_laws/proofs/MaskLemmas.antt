-- A step from a masked state is the step, but for what is masked.
use Rattle.std.proofs.Common.{◌≡◌, ℕ, zero, suc, ◌+◌, Bool, true, false, not, ◌||◌, ◌==◌, List, [], ◌∷◌, ◌++◌, length, map, arith, Option, Some, None, refl, sym, ◌∙◌, ap}
use Rattle.std.specs.Prelude.{if◌then◌else◌, filter, slice_set, slice_index_or, option_map, is_some}
use Rattle.std.proofs.lemmas.List.{map-append, length-map}
use Rattle.std.proofs.lemmas.Bool.Decides.{nat_tests}
use Rattle.desk_laws.specs.declared.row_id.RowId.{RowId}
use Rattle.desk_laws.specs.declared.setup.Setup.{Setup}
use Rattle.desk_laws.specs.declared.cause.Cause.{Cause}
use Rattle.desk_laws.specs.declared.cause.Cause.TheVariants.{StreamEnded, LinkFailed}
use Rattle.desk_laws.specs.declared.item.Item.{Item}
use Rattle.desk_laws.specs.declared.item.Item.TheVariants as item
use Rattle.desk_laws.specs.declared.input.GIn.{GIn}
use Rattle.desk_laws.specs.declared.input.GIn.TheVariants as g
use Rattle.gui_num.specs.declared.Rect.{Rect}
use Rattle.desk_laws.specs.declared.setup.Pair.{Pair}
use Rattle.desk_laws.specs.Pairs.{denies}
use Rattle.desk_laws.specs.Sizes.{Sizes, sizes_of}
use Rattle.desk_laws.specs.Stream.{StreamUnit, Cut, cut, is_greeting}
use Rattle.desk_laws.specs.Rows.{Row, id_of, row_at}
use Rattle.desk_laws.specs.Layers.{Layers, layer_of, is_in, followed}
use Rattle.desk_laws.specs.Frames.{store, counted}
use Rattle.desk_laws.specs.Effects.{Effect, effect, changed, Cleared}
use Rattle.desk_laws.specs.Grants.{Granted, granted}
use Rattle.desk_laws.specs.Clipboard.{Content, ask, wiped, forget}
use Rattle.desk_laws.specs.Scene.{Scene, SceneOutcome, Counts, Reply, Picture, Summary, Input, Took, Closing, Losing, Delivery, Grants, Asks, Pastes, InputOutcome, unchanged, outcome_after, and_then, replies, grant, grant_where, grant_in, with_rows, with_clip, pastes, deliver, deliver_all, scene_of_input, perform}
use Rattle.desk_laws.specs.State.{DeskState, StepOutcome, Session, fresh, stays, session_of, with_session, count_item, and_next, step_after}
use Rattle.desk_laws.specs.Settle.{settle, settled, grab_checked}
use Rattle.desk_laws.specs.Events.{route}
use Rattle.desk_laws.specs.Items.{FedItem}
use Rattle.desk_laws.specs.Steps.{run, step, event, take_unit, take_units, unit_of_open, unit_done, unit_effect, unit_told, end_told, session_after, counts_after, messages_of, picture_post, take_cut, with_rest, rest_of_open, bytes_of_open, end_of_open, store_of_open, went, ends, clip_of_unit}
use Rattle.isolation_laws.specs.Masks.{zeroed, veiled_session, mask, masked_piece, plain_post, AreAlikeBut, MaskedStepsAreAlike, StepsKeepAlike, masked_item, RunsKeepAlike}
use Rattle.isolation_laws.proofs.MaskVerdicts.{map-map}
use Rattle.isolation_laws.proofs.MaskRows.{veil, rows-twice, filter-veil, port-twice, port_if-twice, veiled_port_if, veiled_words, veiled_effect, effect-alike, changed-alike, veiled_grant, granted-alike, store-alike}
use Rattle.isolation_laws.proofs.VeilLemmas.{row_at-veil, route-veil, settles-veil}

-- ---- the scene

module _ (who : ℕ) where
  -- the lists follow hidden rows as they follow the rows
  ids-veil : (test : Row → Bool) → ((row : Row) → test (veil who row) ≡ test row) → (rows : List Row) → map id_of (filter test (map (veil who) rows)) ≡ map id_of (filter test rows)
  ids-veil test same rows = ap (map id_of) (filter-veil who test same rows) ∙ map-map id_of (veil who) (filter test rows)

  followed-veil : (rows : List Row) (layers : Layers) → followed (map (veil who) rows) layers ≡ followed rows layers
  followed-veil rows layers =
      let F : List RowId → List RowId → List RowId → Layers = λ normal over all. record {
        normal = filter (is_in normal) layers.normal ++ filter (λ id. not (is_in layers.normal id)) normal;
        over = filter (is_in over) layers.over ++ filter (λ id. not (is_in layers.over id)) over;
        focus = filter (λ id. not (is_in layers.focus id)) all ++ filter (is_in all) layers.focus;
      } in
      let hidden : List Row = map (veil who) rows in
      ap (λ ids. F ids (map id_of (layer_of true hidden)) (map id_of (filter (λ row. row.mapped) hidden))) (ids-veil _ (λ row. refl) rows)
      ∙ ap (λ ids. F (map id_of (layer_of false rows)) ids (map id_of (filter (λ row. row.mapped) hidden))) (ids-veil _ (λ row. refl) rows)
      ∙ ap (F (map id_of (layer_of false rows)) (map id_of (layer_of true rows))) (ids-veil (λ row. row.mapped) (λ row. refl) rows)

  abbrev pub hidden : Scene → Scene
  hidden scene = record scene { rows = map (veil who) scene.rows }

  abbrev pub hidden_out : SceneOutcome → SceneOutcome
  hidden_out outcome = record outcome { scene = hidden outcome.scene }

  -- rows that are alike, in a scene
  with_rows-alike : (rows rows' : List Row) (scene : Scene) → map (veil who) rows' ≡ map (veil who) rows → hidden (with_rows rows' scene) ≡ hidden (with_rows rows scene)
  with_rows-alike rows rows' scene e =
      let S : List Row → Layers → Scene = λ rs layers. record scene { rows = rs; layers = layers } in
      ap (S (map (veil who) rows')) (sym (followed-veil rows' scene.layers))
      ∙ ap (λ rs. S rs (followed rs scene.layers)) e
      ∙ ap (S (map (veil who) rows)) (followed-veil rows scene.layers)

  grant_in-alike : (id : RowId) (input : GIn) (paste : List ℕ) (x : Granted) (scene : Scene)
      → hidden_out (grant_in id input paste x scene) ≡ hidden_out (grant_in id input paste (veiled_grant who x) scene)
  grant_in-alike id input paste x scene =
      ap (λ s. record (grant_in id input paste x scene) { scene = s }) (with_rows-alike (map (veil who) x.rows) x.rows scene (sym (rows-twice who x.rows)))

  some-veil : (o : Option Row) → is_some (option_map (veil who) o) ≡ is_some o
  some-veil None = refl
  some-veil (Some row) = refl

  grant-hidden : (id : RowId) (input : GIn) (paste : List ℕ) (scene : Scene) → hidden_out (grant id input paste (hidden scene)) ≡ hidden_out (grant id input paste scene)
  grant-hidden id input paste scene =
      ap (λ b. hidden_out (grant_where b id input paste (hidden scene)))
      (ap is_some (row_at-veil (λ row. row.guest == who) id scene.rows) ∙ some-veil (row_at id scene.rows))
      ∙ by_row (is_some (row_at id scene.rows))
    where
      by_row : (b : Bool) → hidden_out (grant_where b id input paste (hidden scene)) ≡ hidden_out (grant_where b id input paste scene)
      by_row false = ap (λ rs. record { scene = record scene { rows = rs }; posts = []; inputs = [] }) (rows-twice who scene.rows)
      by_row true =
          grant_in-alike id input paste (granted id.guest (map (veil who) scene.rows) input paste) scene
          ∙ ap (λ x. hidden_out (grant_in id input paste x scene)) (granted-alike who id.guest scene.rows input paste)
          ∙ sym (grant_in-alike id input paste (granted id.guest scene.rows input paste) scene)

  -- one thing and then another, from scenes that are alike
  then-alike : (f : Scene → SceneOutcome) → ((scene : Scene) → hidden_out (f (hidden scene)) ≡ hidden_out (f scene))
      → (a b : SceneOutcome) → hidden_out a ≡ hidden_out b → hidden_out (and_then a f) ≡ hidden_out (and_then b f)
  then-alike f same a b e = from a ∙ ap (λ (o : SceneOutcome). hidden_out (and_then o f)) e ∙ sym (from b)
    where
      from : (o : SceneOutcome) → hidden_out (and_then o f) ≡ hidden_out (and_then (hidden_out o) f)
      from o = sym (ap (λ s. outcome_after o s) (same o.scene))

  unchanged-hidden : (scene : Scene) → hidden_out (unchanged (hidden scene)) ≡ hidden_out (unchanged scene)
  unchanged-hidden scene = ap (λ rs. record { scene = record scene { rows = rs }; posts = []; inputs = [] }) (rows-twice who scene.rows)

  pastes-hidden : (denied : List Pair) (id : RowId) (content : Option Content) (scene : Scene) → hidden_out (pastes denied id content (hidden scene)) ≡ hidden_out (pastes denied id content scene)
  pastes-hidden denied id None scene = unchanged-hidden scene
  pastes-hidden denied id (Some content) scene = by_denied (denies denied content.source id.guest)
    where
      given_to : Scene → SceneOutcome
      given_to s = grant id (g.ClipGive id.window) content.bytes (with_clip (wiped s.clip) s)

      by_denied : (b : Bool) → hidden_out (if b then unchanged (hidden scene) else given_to (hidden scene)) ≡ hidden_out (if b then unchanged scene else given_to scene)
      by_denied true = unchanged-hidden scene
      by_denied false = grant-hidden id (g.ClipGive id.window) content.bytes (with_clip (wiped scene.clip) scene)

  deliver-hidden : (denied : List Pair) (d : Delivery) (scene : Scene) → hidden_out (deliver denied d (hidden scene)) ≡ hidden_out (deliver denied d scene)
  deliver-hidden denied (Grants id input) scene = grant-hidden id input [] scene
  deliver-hidden denied (Asks id) scene = grant-hidden id (g.ClipAsk id.window) [] (with_clip (ask id.guest scene.clip) scene)
  deliver-hidden denied (Pastes id) scene = pastes-hidden denied id scene.clip.content scene

  deliver_all-hidden : (denied : List Pair) (ds : List Delivery) (scene : Scene) → hidden_out (deliver_all denied ds (hidden scene)) ≡ hidden_out (deliver_all denied ds scene)
  deliver_all-hidden denied [] scene = unchanged-hidden scene
  deliver_all-hidden denied (d ∷ ds) scene =
      then-alike (deliver_all denied ds) (deliver_all-hidden denied ds) (deliver denied d (hidden scene)) (deliver denied d scene) (deliver-hidden denied d scene)

  perform-hidden : (denied : List Pair) (r : InputOutcome) (scene : Scene) → hidden_out (perform denied r (hidden scene)) ≡ hidden_out (perform denied r scene)
  perform-hidden denied r scene = deliver_all-hidden denied r.deliveries (scene_of_input r scene)

  settle-hidden : (sizes : Sizes) (scene : Scene) → hidden_out (settle sizes (hidden scene)) ≡ hidden_out (settle sizes scene)
  settle-hidden sizes scene =
      ap (λ r. hidden_out (perform [] r (hidden scene))) (settles-veil (λ row. row.guest == who) scene.clip sizes scene)
      ∙ perform-hidden [] (settled sizes (grab_checked scene)) scene

  route-hidden : (setup : Setup) (i : Item) (scene : Scene) → hidden_out (perform setup.denied (route setup i (hidden scene)) (hidden scene)) ≡ hidden_out (perform setup.denied (route setup i scene) scene)
  route-hidden setup i scene =
      ap (λ r. hidden_out (perform setup.denied r (hidden scene))) (route-veil (λ row. row.guest == who) scene.clip setup i scene)
      ∙ perform-hidden setup.denied (route setup i scene) scene

-- ---- sessions

-- the session in its place, with frames of zeros
abbrev pub masked_sessions : ℕ → List Session → List Session
masked_sessions k [] = []
masked_sessions zero (s ∷ ss) = veiled_session s ∷ ss
masked_sessions (suc k) (s ∷ ss) = s ∷ masked_sessions k ss

abbrev veiled_if : Bool → Session → Session
veiled_if hides s = record s { port = veiled_port_if hides s.port }

sessions-masked : (k : ℕ) (ss : List Session) (d : Session) → slice_set ss k (veiled_session (slice_index_or ss k d)) ≡ masked_sessions k ss
sessions-masked k [] d = refl
sessions-masked zero (s ∷ ss) d = refl
sessions-masked (suc k) (s ∷ ss) d = ap (λ xs. s ∷ xs) (sessions-masked k ss d)

sessions-twice : (k : ℕ) (ss : List Session) → masked_sessions k (masked_sessions k ss) ≡ masked_sessions k ss
sessions-twice k [] = refl
sessions-twice zero (s ∷ ss) = ap (λ p. record s { port = p } ∷ ss) (port-twice s.port)
sessions-twice (suc k) (s ∷ ss) = ap (λ xs. s ∷ xs) (sessions-twice k ss)

fresh-veiled : (b : Bool) → veiled_if b (fresh 0) ≡ fresh 0
fresh-veiled true = refl
fresh-veiled false = refl

not-first : (h : ℕ) → (suc h == 0) ≡ false
not-first h = grind (arith, nat_tests)

not-later : (k : ℕ) → (0 == suc k) ≡ false
not-later k = grind (arith, nat_tests)

both-later : (h k : ℕ) → (suc h == suc k) ≡ (h == k)
both-later h k = grind (arith, nat_tests)

session-masked : (k h : ℕ) (ss : List Session) → slice_index_or (masked_sessions k ss) h (fresh 0) ≡ veiled_if (h == k) (slice_index_or ss h (fresh 0))
session-masked k h [] = sym (fresh-veiled (h == k))
session-masked zero zero (s ∷ ss) = refl
session-masked zero (suc h) (s ∷ ss) = sym (ap (λ b. veiled_if b (slice_index_or ss h (fresh 0))) (not-first h))
session-masked (suc k) zero (s ∷ ss) = sym (ap (λ b. veiled_if b s) (not-later k))
session-masked (suc k) (suc h) (s ∷ ss) =
    session-masked k h ss ∙ sym (ap (λ b. veiled_if b (slice_index_or ss h (fresh 0))) (both-later h k))

set-masked : (k h : ℕ) (new : Session) (ss : List Session) → masked_sessions k (slice_set ss h new) ≡ slice_set (masked_sessions k ss) h (veiled_if (h == k) new)
set-masked k h new [] = refl
set-masked zero zero new (s ∷ ss) = refl
set-masked zero (suc h) new (s ∷ ss) = sym (ap (λ b. veiled_session s ∷ slice_set ss h (veiled_if b new)) (not-first h))
set-masked (suc k) zero new (s ∷ ss) = sym (ap (λ b. veiled_if b new ∷ masked_sessions k ss) (not-later k))
set-masked (suc k) (suc h) new (s ∷ ss) =
    ap (λ xs. s ∷ xs) (set-masked k h new ss) ∙ sym (ap (λ b. s ∷ slice_set (masked_sessions k ss) h (veiled_if b new)) (both-later h k))

-- two sessions that are alike, written over a masked one and over the session
set-alike : (k h : ℕ) (new new' : Session) (ss : List Session) → veiled_if (h == k) new' ≡ veiled_if (h == k) new
    → masked_sessions k (slice_set (masked_sessions k ss) h new') ≡ masked_sessions k (slice_set ss h new)
set-alike k h new new' ss e =
    set-masked k h new' (masked_sessions k ss)
    ∙ ap (λ xs. slice_set xs h (veiled_if (h == k) new')) (sessions-twice k ss)
    ∙ ap (slice_set (masked_sessions k ss) h) e
    ∙ sym (set-masked k h new ss)

-- ---- the state

-- a post, a picture without its colours, as well as twice
plain-replies : (guest : ℕ) (answers : List (List ℕ)) → map plain_post (replies guest answers) ≡ replies guest answers
plain-replies guest [] = refl
plain-replies guest (a ∷ answers) = ap (λ ps. Reply guest a ∷ ps) (plain-replies guest answers)

same-length : (b : Bool) (xs ys : List ℕ) → veiled_words b xs ≡ veiled_words b ys → length xs ≡ length ys
same-length true xs ys e = sym (length-map xs (λ n. 0)) ∙ ap length e ∙ length-map ys (λ n. 0)
same-length false xs ys e = ap length e

module _ (who : ℕ) where
  abbrev pub masked_desk : DeskState → DeskState
  masked_desk desk = record desk { scene = hidden who desk.scene; sessions = masked_sessions who desk.sessions }

  pub desk-masked : (desk : DeskState) → mask who desk ≡ masked_desk desk
  desk-masked desk = ap (λ ss. record desk { scene = hidden who desk.scene; sessions = ss }) (sessions-masked who desk.sessions (fresh 0))

  abbrev pub masked_out : StepOutcome → StepOutcome
  masked_out outcome = record { desk = masked_desk outcome.desk; posts = map plain_post outcome.posts; inputs = outcome.inputs; readings = [] }

  session_of-masked : (guest : ℕ) (desk : DeskState) → session_of guest (masked_desk desk) ≡ veiled_if (guest == who) (session_of guest desk)
  session_of-masked guest desk = session-masked who guest desk.sessions

  stays-masked : (desk : DeskState) → masked_out (stays (masked_desk desk)) ≡ masked_out (stays desk)
  stays-masked desk =
      ap (λ rs. record (masked_out (stays desk)) { desk = record desk { scene = record desk.scene { rows = rs }; sessions = masked_sessions who (masked_sessions who desk.sessions) } }) (rows-twice who desk.scene.rows)
      ∙ ap (λ ss. record (masked_out (stays desk)) { desk = record desk { scene = hidden who desk.scene; sessions = ss } }) (sessions-twice who desk.sessions)

  -- what comes out of a scene, with the sessions and counts around it
  abbrev around : SceneOutcome → List Session → Counts → StepOutcome
  around o sessions counts = record { desk = record { scene = o.scene; sessions = sessions; counts = counts }; posts = map plain_post o.posts; inputs = o.inputs; readings = [] }

  -- ---- a unit

  module _ (setup : Setup) (guest : ℕ) where
    mine_too : Bool
    mine_too = guest == who

    end_told-hidden : (input : Input) (cause : Cause) (scene : Scene) → hidden_out who (end_told guest input cause (hidden who scene)) ≡ hidden_out who (end_told guest input cause scene)
    end_told-hidden input cause scene =
        ap (λ s. record (end_told guest input cause scene) { scene = s })
        (ap (with_clip (forget guest scene.clip))
        (with_rows-alike who (changed guest Cleared scene.rows) (changed guest Cleared (map (veil who) scene.rows)) scene (changed-alike who guest Cleared Cleared scene.rows refl)))

    ends-masked : (input : Input) (cause : Cause) (desk : DeskState) → masked_out (ends setup guest input cause (masked_desk desk)) ≡ masked_out (ends setup guest input cause desk)
    ends-masked input cause desk =
        let s' : Session = session_of guest (masked_desk desk) in
        let s : Session = session_of guest desk in
        let over : Session → Session = λ x. record x { rest = []; ended = Some cause } in
        let told' : SceneOutcome = and_then (end_told guest input cause (hidden who desk.scene)) (settle (sizes_of setup)) in
        let told : SceneOutcome = and_then (end_told guest input cause desk.scene) (settle (sizes_of setup)) in
        let same : hidden_out who told' ≡ hidden_out who told =
        then-alike who (settle (sizes_of setup)) (settle-hidden who (sizes_of setup)) (end_told guest input cause (hidden who desk.scene)) (end_told guest input cause desk.scene)
        (end_told-hidden input cause desk.scene) in
        let alike : veiled_if (guest == who) (over s') ≡ veiled_if (guest == who) (over s) =
        ap (λ x. veiled_if (guest == who) (over x)) (session_of-masked guest desk)
        ∙ ap (λ p. record (over s) { port = p }) (port_if-twice (guest == who) s.port) in
        ap (λ o. around o (masked_sessions who (slice_set (masked_sessions who desk.sessions) guest (over s'))) desk.counts) same
        ∙ ap (λ ss. around (hidden_out who told) ss desk.counts) (set-alike who guest (over s) (over s') desk.sessions alike)

    unit_told-hidden : (unit : StreamUnit) (e e' : Effect) (scene : Scene) → veiled_effect who guest e' ≡ veiled_effect who guest e
        → hidden_out who (unit_told (sizes_of setup).clip_limit guest unit e' (hidden who scene)) ≡ hidden_out who (unit_told (sizes_of setup).clip_limit guest unit e scene)
    unit_told-hidden unit e e' scene same =
        ap (λ s. record (unit_told (sizes_of setup).clip_limit guest unit e' scene) { scene = s })
        (ap (with_clip (clip_of_unit (sizes_of setup).clip_limit guest unit scene.clip)) (with_rows-alike who e.rows e'.rows scene (ap (λ x. x.rows) same)))
        ∙ ap (λ (x : Effect). record (hidden_out who (unit_told (sizes_of setup).clip_limit guest unit e scene)) { posts = replies guest x.answers }) same

    went-masked : (unit : StreamUnit) (e e' : Effect) (desk : DeskState) → veiled_effect who guest e' ≡ veiled_effect who guest e
        → masked_out (went setup guest unit e' (masked_desk desk)) ≡ masked_out (went setup guest unit e desk)
    went-masked unit e e' desk same =
        let s' : Session = session_of guest (masked_desk desk) in
        let s : Session = session_of guest desk in
        let told' : SceneOutcome = and_then (unit_told (sizes_of setup).clip_limit guest unit e' (hidden who desk.scene)) (settle (sizes_of setup)) in
        let told : SceneOutcome = and_then (unit_told (sizes_of setup).clip_limit guest unit e desk.scene) (settle (sizes_of setup)) in
        let scenes : hidden_out who told' ≡ hidden_out who told =
        then-alike who (settle (sizes_of setup)) (settle-hidden who (sizes_of setup)) (unit_told (sizes_of setup).clip_limit guest unit e' (hidden who desk.scene)) (unit_told (sizes_of setup).clip_limit guest unit e desk.scene)
        (unit_told-hidden unit e e' desk.scene same) in
        let alike : veiled_if (guest == who) (session_after unit e' s') ≡ veiled_if (guest == who) (session_after unit e s) =
        ap (λ x. veiled_if (guest == who) (session_after unit e' x)) (session_of-masked guest desk)
        ∙ ap (λ (x : Effect). record s { greeted = is_greeting unit || s.greeted; minor = x.minor; port = x.port }) same in
        let counts : counts_after unit e' desk.counts ≡ counts_after unit e desk.counts =
        ap (λ n. record desk.counts { messages = counted (desk.counts.messages + messages_of unit); glances = counted (desk.counts.glances + n) })
        (same-length (guest == who) e'.readings e.readings (ap (λ x. x.readings) same)) in
        ap (λ o. around o (masked_sessions who (slice_set (masked_sessions who desk.sessions) guest (session_after unit e' s'))) (counts_after unit e' desk.counts)) scenes
        ∙ ap (λ ss. around (hidden_out who told) ss (counts_after unit e' desk.counts)) (set-alike who guest (session_after unit e s) (session_after unit e' s') desk.sessions alike)
        ∙ ap (around (hidden_out who told) (masked_sessions who (slice_set desk.sessions guest (session_after unit e s)))) counts

    unit_effect-alike : (unit : StreamUnit) (desk : DeskState) → veiled_effect who guest (unit_effect setup guest unit (masked_desk desk)) ≡ veiled_effect who guest (unit_effect setup guest unit desk)
    unit_effect-alike unit desk =
        let s : Session = session_of guest desk in
        ap (λ (x : Session). veiled_effect who guest (effect (sizes_of setup) guest x.minor (map (veil who) desk.scene.rows) x.port unit)) (session_of-masked guest desk)
        ∙ effect-alike who (sizes_of setup) guest s.minor desk.scene.rows s.port (veiled_port_if (guest == who) s.port) unit (port_if-twice (guest == who) s.port)

    unit_done-masked : (unit : StreamUnit) (e e' : Effect) (desk : DeskState) (c : Option Cause) → veiled_effect who guest e' ≡ veiled_effect who guest e
        → masked_out (unit_done setup guest unit e' c (masked_desk desk)) ≡ masked_out (unit_done setup guest unit e c desk)
    unit_done-masked unit e e' desk None same = went-masked unit e e' desk same
    unit_done-masked unit e e' desk (Some cause) same = ends-masked (Took unit) cause desk

    pub unit-masked : (unit : StreamUnit) (desk : DeskState) → masked_out (take_unit setup guest unit (masked_desk desk)) ≡ masked_out (take_unit setup guest unit desk)
    unit-masked unit desk =
        ap (λ (x : Session). masked_out (unit_of_open setup guest unit x.ended (masked_desk desk))) (session_of-masked guest desk)
        ∙ by_end (session_of guest desk).ended
      where
        by_end : (c : Option Cause) → masked_out (unit_of_open setup guest unit c (masked_desk desk)) ≡ masked_out (unit_of_open setup guest unit c desk)
        by_end (Some c) = stays-masked desk
        by_end None =
            let e' : Effect = unit_effect setup guest unit (masked_desk desk) in
            let e : Effect = unit_effect setup guest unit desk in
            ap (λ (x : Effect). masked_out (unit_done setup guest unit e' x.cause (masked_desk desk))) (unit_effect-alike unit desk)
            ∙ unit_done-masked unit e e' desk e.cause (unit_effect-alike unit desk)

  -- ---- steps

  next-masked : (f : DeskState → StepOutcome) → ((desk : DeskState) → masked_out (f (masked_desk desk)) ≡ masked_out (f desk))
      → (a b : StepOutcome) → masked_out a ≡ masked_out b → masked_out (and_next a f) ≡ masked_out (and_next b f)
  next-masked f same a b e =
      split a ∙ ap (joined (masked_out a)) (sym (same a.desk)) ∙ ap (λ x. joined x (masked_out (f x.desk))) e
      ∙ ap (joined (masked_out b)) (same b.desk) ∙ sym (split b)
    where
      joined : StepOutcome → StepOutcome → StepOutcome
      joined x y = record { desk = y.desk; posts = x.posts ++ y.posts; inputs = x.inputs ++ y.inputs; readings = [] }

      split : (o : StepOutcome) → masked_out (and_next o f) ≡ joined (masked_out o) (masked_out (f o.desk))
      split o = ap (λ ps. record (joined (masked_out o) (masked_out (f o.desk))) { posts = ps }) (map-append plain_post o.posts (f o.desk).posts)

  units-masked : (setup : Setup) (guest : ℕ) (units : List StreamUnit) (desk : DeskState)
      → masked_out (take_units setup guest units (masked_desk desk)) ≡ masked_out (take_units setup guest units desk)
  units-masked setup guest [] desk = stays-masked desk
  units-masked setup guest (unit ∷ units) desk =
      next-masked (take_units setup guest units) (units-masked setup guest units)
      (take_unit setup guest unit (masked_desk desk)) (take_unit setup guest unit desk) (unit-masked setup guest unit desk)

  -- a desk of this scene and these sessions
  abbrev with_sessions : List Session → DeskState → DeskState
  with_sessions ss desk = record desk { sessions = ss }

  rest-masked : (guest : ℕ) (rest : List ℕ) (desk : DeskState) → with_rest guest rest (masked_desk desk) ≡ masked_desk (with_rest guest rest desk)
  rest-masked guest rest desk =
      ap (λ (x : Session). rest_of_open guest rest x.ended (masked_desk desk)) (session_of-masked guest desk) ∙ by_end (session_of guest desk).ended
    where
      by_end : (c : Option Cause) → rest_of_open guest rest c (masked_desk desk) ≡ masked_desk (rest_of_open guest rest c desk)
      by_end (Some c) = refl
      by_end None =
          ap (λ (x : Session). with_session guest (record x { rest = rest }) (masked_desk desk)) (session_of-masked guest desk)
          ∙ ap (λ ss. record (masked_desk desk) { sessions = ss }) (sym (set-masked who guest (record (session_of guest desk) { rest = rest }) desk.sessions))

  bytes-masked : (setup : Setup) (guest : ℕ) (piece : List ℕ) (desk : DeskState)
      → masked_out (bytes_of_open setup guest piece (session_of guest (masked_desk desk)).ended (masked_desk desk)) ≡ masked_out (bytes_of_open setup guest piece (session_of guest desk).ended desk)
  bytes-masked setup guest piece desk =
      ap (λ (x : Session). masked_out (bytes_of_open setup guest piece x.ended (masked_desk desk))) (session_of-masked guest desk) ∙ by_end (session_of guest desk).ended
    where
      by_end : (c : Option Cause) → masked_out (bytes_of_open setup guest piece c (masked_desk desk)) ≡ masked_out (bytes_of_open setup guest piece c desk)
      by_end (Some c) = stays-masked desk
      by_end None =
          let c : Cut = cut (session_of guest desk).greeted ((session_of guest desk).rest ++ piece) in
          ap (λ (x : Session). masked_out (take_cut setup guest (cut x.greeted (x.rest ++ piece)) (masked_desk desk))) (session_of-masked guest desk)
          ∙ ap (λ d. masked_out (take_units setup guest c.units d)) (rest-masked guest c.rest desk)
          ∙ units-masked setup guest c.units (with_rest guest c.rest desk)

  end-masked : (setup : Setup) (guest : ℕ) (input : Input) (cause : Cause) (desk : DeskState)
      → masked_out (end_of_open setup guest input cause (session_of guest (masked_desk desk)).ended (masked_desk desk)) ≡ masked_out (end_of_open setup guest input cause (session_of guest desk).ended desk)
  end-masked setup guest input cause desk =
      ap (λ (x : Session). masked_out (end_of_open setup guest input cause x.ended (masked_desk desk))) (session_of-masked guest desk) ∙ by_end (session_of guest desk).ended
    where
      by_end : (c : Option Cause) → masked_out (end_of_open setup guest input cause c (masked_desk desk)) ≡ masked_out (end_of_open setup guest input cause c desk)
      by_end (Some c) = stays-masked desk
      by_end None = ends-masked setup guest input cause desk

  store-masked : (guest delay page offset : ℕ) (bytes : List ℕ) (desk : DeskState)
      → masked_out (store_of_open guest delay page offset (if guest == who then zeroed bytes else bytes) (session_of guest (masked_desk desk)).ended (masked_desk desk))
      ≡ masked_out (store_of_open guest delay page offset bytes (session_of guest desk).ended desk)
  store-masked guest delay page offset bytes desk =
      ap (λ (x : Session). masked_out (store_of_open guest delay page offset bytes' x.ended (masked_desk desk))) (session_of-masked guest desk) ∙ by_end (session_of guest desk).ended
    where
      bytes' : List ℕ
      bytes' = if guest == who then zeroed bytes else bytes

      kept : Session → List ℕ → Session
      kept x bs = record x { port = store x.port delay page offset bs }

      by_end : (c : Option Cause) → masked_out (store_of_open guest delay page offset bytes' c (masked_desk desk)) ≡ masked_out (store_of_open guest delay page offset bytes c desk)
      by_end (Some c) = stays-masked desk
      by_end None =
          let s : Session = session_of guest desk in
          ap (λ (x : Session). masked_out (stays (with_session guest (kept x bytes') (masked_desk desk)))) (session_of-masked guest desk)
          ∙ ap (λ rs. masked_out_of rs (masked_sessions who (slice_set (masked_sessions who desk.sessions) guest (kept (veiled_if (guest == who) s) bytes')))) (rows-twice who desk.scene.rows)
          ∙ ap (masked_out_of (map (veil who) desk.scene.rows))
          (set-alike who guest (kept s bytes) (kept (veiled_if (guest == who) s) bytes') desk.sessions
          (ap (λ p. record s { port = p }) (store-alike (guest == who) s.port delay page offset bytes)))
        where
          masked_out_of : List Row → List Session → StepOutcome
          masked_out_of rs ss = record { desk = record desk { scene = record desk.scene { rows = rs }; sessions = ss }; posts = []; inputs = []; readings = [] }

  event-masked : (setup : Setup) (i : Item) (desk : DeskState) → masked_out (event setup i (masked_desk desk)) ≡ masked_out (event setup i desk)
  event-masked setup i desk =
      let acted' : SceneOutcome = perform setup.denied (route setup i (hidden who desk.scene)) (hidden who desk.scene) in
      let acted : SceneOutcome = perform setup.denied (route setup i desk.scene) desk.scene in
      ap (λ o. around o (masked_sessions who (masked_sessions who desk.sessions)) desk.counts)
      (then-alike who (settle (sizes_of setup)) (settle-hidden who (sizes_of setup)) acted' acted (route-hidden who setup i desk.scene))
      ∙ ap (λ ss. around (hidden_out who (and_then acted (settle (sizes_of setup)))) ss desk.counts) (sessions-twice who desk.sessions)

  -- pictures of any rows are alike but for their colours
  plain-pictures : (setup : Setup) (rows rows' : List Row) (layers : Layers) (outputs : List Rect)
      → map plain_post (map (picture_post setup rows layers) outputs) ≡ map plain_post (map (picture_post setup rows' layers) outputs)
  plain-pictures setup rows rows' layers [] = refl
  plain-pictures setup rows rows' layers (output ∷ outputs) = ap (λ ps. Picture output.w output.h [] ∷ ps) (plain-pictures setup rows rows' layers outputs)

  pub step-masked : (setup : Setup) (i : Item) (piece : List ℕ) (desk : DeskState)
      → masked_out (step setup i (masked_piece who i piece) (masked_desk desk)) ≡ masked_out (step setup i piece desk)
  step-masked setup (item.Bytes guest) piece desk = bytes-masked setup guest piece (count_item desk)
  step-masked setup (item.Closed guest) piece desk = end-masked setup guest Closing (StreamEnded 0 0) (count_item desk)
  step-masked setup (item.Store guest delay page offset) piece desk = store-masked guest delay page offset piece (count_item desk)
  step-masked setup (item.Lost guest) piece desk = end-masked setup guest Losing (LinkFailed 0 0) (count_item desk)
  step-masked setup item.Snap piece desk =
      ap (λ ps. record { desk = masked_desk (masked_desk (count_item desk)); posts = ps; inputs = []; readings = [] })
      (plain-pictures setup (masked_desk desk).scene.rows desk.scene.rows desk.scene.layers setup.outputs)
      ∙ ap (λ (x : StepOutcome). record x { posts = map plain_post (map (picture_post setup desk.scene.rows desk.scene.layers) setup.outputs) }) (stays-masked (count_item desk))
  step-masked setup item.End piece desk =
      ap (λ (x : StepOutcome). record x { posts = Summary (count_item desk).counts ∷ [] }) (stays-masked (count_item desk))
  step-masked setup item.Idle piece desk = stays-masked desk
  step-masked setup i piece desk = event-masked setup i (count_item desk)

  -- ---- the law

  alike-from : (a b : StepOutcome) → masked_out a ≡ masked_out b → AreAlikeBut who a b
  alike-from a b e = record {
    desk = desk-masked a.desk ∙ ap (λ x. x.desk) e ∙ sym (desk-masked b.desk);
    posts = ap (λ x. x.posts) e;
    inputs = ap (λ x. x.inputs) e;
  }

  -- a step of two states that are alike
  step-alike : (setup : Setup) (i : Item) (piece other : List ℕ) (one two : DeskState) → masked_desk one ≡ masked_desk two → masked_piece who i piece ≡ masked_piece who i other
      → masked_out (step setup i piece one) ≡ masked_out (step setup i other two)
  step-alike setup i piece other one two same pieces =
      sym (step-masked setup i piece one)
      ∙ ap (λ d. masked_out (step setup i (masked_piece who i piece) d)) same
      ∙ ap (λ bs. masked_out (step setup i bs (masked_desk two))) pieces
      ∙ step-masked setup i other two

  joined-out : StepOutcome → StepOutcome → StepOutcome
  joined-out x y = record { desk = y.desk; posts = x.posts ++ y.posts; inputs = x.inputs ++ y.inputs; readings = [] }

  split-out : (a b : StepOutcome) → masked_out (step_after a b) ≡ joined-out (masked_out a) (masked_out b)
  unfolding joined-out
  split-out a b = ap (λ ps. record { desk = masked_desk b.desk; posts = ps; inputs = a.inputs ++ b.inputs; readings = [] }) (map-append plain_post a.posts b.posts)

  abbrev first_of : FedItem → List FedItem → FedItem
  first_of d [] = d
  first_of d (i ∷ items) = i

  abbrev rest_items : List FedItem → List FedItem
  rest_items [] = []
  rest_items (i ∷ items) = items

  run-alike : (setup : Setup) (items others : List FedItem) (one two : DeskState) → masked_desk one ≡ masked_desk two
      → map (masked_item who) items ≡ map (masked_item who) others → masked_out (run setup items one) ≡ masked_out (run setup others two)
  run-alike setup [] [] one two same e = ap (λ d. record { desk = d; posts = []; inputs = []; readings = [] }) same
  run-alike setup [] (j ∷ others) one two same e = cc
  run-alike setup (i ∷ items) [] one two same e = cc
  run-alike setup (i ∷ items) (j ∷ others) one two same e =
      let heads : masked_item who i ≡ masked_item who j = ap (first_of i) e in
      let kinds : i.item ≡ j.item = ap (λ x. x.item) heads in
      let a : StepOutcome = step setup i.item i.piece one in
      let b : StepOutcome = step setup j.item j.piece two in
      let first : masked_out a ≡ masked_out b =
      step-alike setup i.item i.piece j.piece one two same (ap (λ x. x.piece) heads ∙ ap (λ k. masked_piece who k j.piece) (sym kinds))
      ∙ ap (λ k. masked_out (step setup k j.piece two)) kinds in
      split-out a (run setup items a.desk)
      ∙ ap (joined-out (masked_out a)) (run-alike setup items others a.desk b.desk (ap (λ x. x.desk) first) (ap rest_items e))
      ∙ ap (λ x. joined-out x (masked_out (run setup others b.desk))) first
      ∙ sym (split-out b (run setup others b.desk))

pub masked-steps : MaskedStepsAreAlike
masked-steps setup i piece guest state =
    alike-from guest (step setup i (masked_piece guest i piece) (mask guest state)) (step setup i piece state)
    (ap (λ d. masked_out guest (step setup i (masked_piece guest i piece) d)) (desk-masked guest state) ∙ step-masked guest setup i piece state)

same-masks : (guest : ℕ) (one two : DeskState) → mask guest one ≡ mask guest two → masked_desk guest one ≡ masked_desk guest two
same-masks guest one two same = sym (desk-masked guest one) ∙ same ∙ desk-masked guest two

pub steps-keep_alike : StepsKeepAlike
steps-keep_alike setup i piece other guest one two same pieces =
    alike-from guest (step setup i piece one) (step setup i other two) (step-alike guest setup i piece other one two (same-masks guest one two same) pieces)

pub runs-keep_alike : RunsKeepAlike
runs-keep_alike setup items others guest one two same alike =
    alike-from guest (run setup items one) (run setup others two) (run-alike guest setup items others one two (same-masks guest one two same) alike)
