-- Sessions stand for a scene, and what is carried out on them is carried out on it.
use Rattle.std.proofs.Common.{◌≡◌, ◌≢◌, ℕ, suc, ◌+◌, ◌<◌, ◌≤◌, Bool, true, false, List, [], ◌∷◌, ◌++◌, length, map, take, get_or, is_some, refl, sym, ◌∙◌, ap, subst, arith}
use Rattle.std.specs.Prelude.{◌==◌, nat_lt, slice_index_or, slice_set}
use Rattle.std.proofs.lemmas.Bool.{eqb-true, eqb-false}
use Rattle.std.proofs.lemmas.Bool.Decides.{nat_tests}
use Rattle.std.proofs.lemmas.List.{get_or-set_same, get_or-set_other, length-set, get_or_past, get_or_default, append-nil, append_assoc, get_or-map, length-map, map-append}
use Rattle.std.proofs.lemmas.List.Elements.{All-get_or}
use Rattle.std.proofs.Math.Seq.{take-suc}
use Rattle.std.specs.List.{All}
use Rattle.desk_laws.specs.declared.row_id.RowId.{RowId}
use Rattle.desk_laws.specs.declared.input.GIn.{GIn}
use Rattle.desk_laws.specs.Grants.{FitsGrant, Granted, granted}
use Rattle.desk_laws.specs.declared.setup.Pair.{Pair}
use Rattle.desk_laws.specs.Rows.{Row, mine, row_with, row_at}
use Rattle.desk_laws.specs.Scene.{Scene, SceneOutcome, Post, Delivery, deliver, deliver_all, grant, grant_where, grant_in, replies}
use Rattle.desk_laws.proofs.FollowChanges.{row_with-mine}
use Rattle.io_ports.specs.Posts.{Leads}
use Rattle.clipboard_gate.specs.Kept.{GateView, keeping}
use Rattle.guest_session.specs.SessionView.{SessionView, AreRows}
use Rattle.desk_core.specs.WindowsView.{no_session}
use Rattle.desk_core.specs.Panes.{rows_in}
use Rattle.desk_core.specs.Places.{row_of}
use Rattle.desk_core.specs.declared.deliveries.Delivery.{Delivery as Waiting}
use Rattle.desk_core.specs.Queued.{delivery_of, FitsDelivery}
use Rattle.desk_core.specs.Scenes.{HasRowsOf, KeepSessions, TakePastes, CarriedOut, Delivered, session_at}
use Rattle.desk_core.proofs.GrantScenes.{granted-are, granted-own, granted-others, IsOwnGrant}
use Rattle.desk_core.proofs.PostLemmas.{leads-append}

-- ---- the rows of sessions

-- behind the last session there is no row
pub row-within : (sessions : List SessionView) (id : RowId) → is_some (row_of sessions id) ≡ true → id.guest < length sessions
row-within sessions id there = by_test (nat_lt id.guest (length sessions)) refl
  where
    by_test : (b : Bool) → nat_lt id.guest (length sessions) ≡ b → id.guest < length sessions
    by_test true e = grind (arith, nat_tests)
    by_test false e =
        let past : length sessions ≤ id.guest = grind (arith, nat_tests) in
        let none : is_some (row_of sessions id) ≡ false =
        ap (λ (s : SessionView). is_some (row_with id.window s.rows)) (get_or_past sessions id.guest no_session past) in
        absurd (cc)

-- the row with an id in the scene is the one of its guest's session
pub row-there : (sessions : List SessionView) (scene : Scene) (id : RowId) → HasRowsOf sessions scene → row_at id scene.rows ≡ row_of sessions id
row-there sessions scene id has = sym (row_with-mine id.guest id.window scene.rows) ∙ ap (row_with id.window) (has.rows id.guest)

-- ---- sessions that keep all but their rows

pub kept-same : (sessions : List SessionView) → KeepSessions sessions sessions
kept-same sessions = record { count = refl; rest = λ guest. refl }

pub kept-both : (a b c : List SessionView) → KeepSessions a b → KeepSessions b c → KeepSessions a c
kept-both a b c first next = record {
  count = next.count ∙ first.count;
  rest = λ guest. next.rest guest ∙ ap (λ (s : SessionView). record s { rows = rows_in c guest }) (first.rest guest);
}

-- sessions that keep all but their rows, beside a clipboard that holds as much, take its pastes still
pub takes-still : (gate gate' : GateView) (old new : List SessionView) → TakePastes gate old → KeepSessions old new → gate'.limit ≡ gate.limit → TakePastes gate' new
takes-still gate gate' old new takes kept limit = λ guest below.
    ap (λ (s : SessionView). s.sizes.clip_limit) (kept.rest guest) ∙ takes guest (omega (arith, below, kept.count)) ∙ sym limit

-- ---- deliveries one behind the other

module _ (denied : List Pair) where
  pub scene-both : (xs ys : List Delivery) (scene : Scene) → (deliver_all denied (xs ++ ys) scene).scene ≡ (deliver_all denied ys (deliver_all denied xs scene).scene).scene
  scene-both [] ys scene = refl
  scene-both (x ∷ xs) ys scene = scene-both xs ys (deliver denied x scene).scene

  pub posts-both : (xs ys : List Delivery) (scene : Scene) → (deliver_all denied (xs ++ ys) scene).posts ≡ (deliver_all denied xs scene).posts ++ (deliver_all denied ys (deliver_all denied xs scene).scene).posts
  posts-both [] ys scene = refl
  posts-both (x ∷ xs) ys scene =
      let one : Scene = (deliver denied x scene).scene in
      ap (λ ps. (deliver denied x scene).posts ++ ps) (posts-both xs ys one)
      ∙ sym (append_assoc (deliver denied x scene).posts (deliver_all denied xs one).posts (deliver_all denied ys (deliver_all denied xs one).scene).posts)

  -- some deliveries, and then one more
  pub delivered-more : {O : Type 0} (takes : O → Post → O → Type 0) (a b c : O) (next last : List SessionView) (limit : ℕ) (gate gate' : GateView) (xs : List Delivery) (x : Delivery) (scene : Scene)
      → Delivered takes a b next limit gate (deliver_all denied xs scene) → Delivered takes b c last limit gate' (deliver denied x (deliver_all denied xs scene).scene)
      → Delivered takes a c last limit gate' (deliver_all denied (xs ++ x ∷ []) scene)
  delivered-more takes a b c next last limit gate gate' xs x scene one two =
      let between : Scene = (deliver_all denied xs scene).scene in
      let done : (deliver_all denied (xs ++ x ∷ []) scene).scene ≡ (deliver denied x between).scene = scene-both xs (x ∷ []) scene in
      let said : (deliver_all denied (xs ++ x ∷ []) scene).posts ≡ (deliver_all denied xs scene).posts ++ (deliver denied x between).posts =
      posts-both xs (x ∷ []) scene ∙ ap (λ ps. (deliver_all denied xs scene).posts ++ ps) (append-nil (deliver denied x between).posts) in
      let P : List Post → Type 0 = λ ps. Leads takes a ps c in
      record {
        carried = record {
          rows = subst (HasRowsOf last) (sym done) two.carried.rows;
          posts = subst P (sym said) (leads-append takes (deliver_all denied xs scene).posts (deliver denied x between).posts a b c one.carried.posts two.carried.posts);
        };
        clip = two.clip ∙ ap (λ (s : Scene). keeping limit s.clip) (sym done);
      }

-- ---- a session with other rows

module _ (sessions sessions' : List SessionView) (at : ℕ) (rows : List Row) (within : at < length sessions) (set : sessions' ≡ slice_set sessions at (record (session_at sessions at) { rows = rows })) where
  at-same : session_at sessions' at ≡ record (session_at sessions at) { rows = rows }
  at-same =
      ap (λ ss. session_at ss at) set
      ∙ get_or-set_same sessions at (record (session_at sessions at) { rows = rows }) no_session within

  at-other : (guest : ℕ) → guest ≢ at → session_at sessions' guest ≡ session_at sessions guest
  at-other guest apart =
      ap (λ ss. session_at ss guest) set
      ∙ get_or-set_other sessions at guest (record (session_at sessions at) { rows = rows }) no_session apart

  count : length sessions' ≡ length sessions
  count = ap (λ (ss : List SessionView). length ss) set ∙ length-set sessions at (record (session_at sessions at) { rows = rows })

  -- what is shown of the session with other rows, and of those that are as before
  each : (P : ℕ → Type 0) → P at → ((guest : ℕ) → guest ≢ at → P guest) → (guest : ℕ) → P guest
  each P here there guest = by_guest (guest == at) refl
    where
      by_guest : (b : Bool) → (guest == at) ≡ b → P guest
      by_guest true e = subst P (sym (eqb-true guest at e)) here
      by_guest false e = there guest (eqb-false guest at e)

  set-rest : (guest : ℕ) → session_at sessions' guest ≡ record (session_at sessions guest) { rows = rows_in sessions' guest }
  set-rest =
      each (λ guest. session_at sessions' guest ≡ record (session_at sessions guest) { rows = rows_in sessions' guest })
      (at-same ∙ ap (λ (s : SessionView). record (session_at sessions at) { rows = s.rows }) (sym at-same))
      (λ guest apart. at-other guest apart ∙ ap (λ (s : SessionView). record (session_at sessions guest) { rows = s.rows }) (sym (at-other guest apart)))

  -- the sessions change in nothing but their rows
  kept-set : KeepSessions sessions sessions'
  kept-set = record { count = count; rest = set-rest }

  -- a scene in which this guest has those rows, and each other has its own
  has-set : (before after : Scene) → HasRowsOf sessions before → mine at after.rows ≡ rows → AreRows at rows → ((guest : ℕ) → guest ≢ at → mine guest after.rows ≡ mine guest before.rows) → HasRowsOf sessions' after
  has-set before after has own are others = record {
    rows = each (λ guest. mine guest after.rows ≡ rows_in sessions' guest)
        (own ∙ sym (ap (λ (s : SessionView). s.rows) at-same))
        (λ guest apart. others guest apart ∙ has.rows guest ∙ sym (ap (λ (s : SessionView). s.rows) (at-other guest apart)));
    owner = λ guest below.
        each (λ guest. guest < length sessions → (session_at sessions' guest).guest ≡ guest)
        (λ below. ap (λ (s : SessionView). s.guest) at-same ∙ has.owner at below)
        (λ guest apart below. ap (λ (s : SessionView). s.guest) (at-other guest apart) ∙ has.owner guest below)
        guest (omega (arith, count, below));
    own = λ guest below.
        each (λ guest. guest < length sessions → AreRows guest (rows_in sessions' guest))
        (λ below. subst (λ (s : SessionView). AreRows at s.rows) (sym at-same) are)
        (λ guest apart below. subst (λ (s : SessionView). AreRows guest s.rows) (sym (at-other guest apart)) (has.own guest below))
        guest (omega (arith, count, below));
  }

-- ---- one grant

-- a session after a grant, and what it tells
abbrev granted_to_session : GIn → List ℕ → SessionView → SessionView
granted_to_session input bytes session = record session { rows = (granted session.guest session.rows input bytes).rows }

abbrev told_by_session : GIn → List ℕ → SessionView → List Post
told_by_session input bytes session = replies session.guest (granted session.guest session.rows input bytes).answers

-- a session that was granted an input stands at its place, whichever session stands behind the last one
at-place : (sessions : List SessionView) (id : RowId) (input : GIn) (bytes : List ℕ) (d new : SessionView) → id.guest < length sessions → new ≡ granted_to_session input bytes (slice_index_or sessions id.guest d)
    → slice_set sessions id.guest new ≡ slice_set sessions id.guest (granted_to_session input bytes (session_at sessions id.guest))
at-place sessions id input bytes d new within set =
    ap (slice_set sessions id.guest) (set ∙ ap (granted_to_session input bytes) (get_or_default sessions id.guest d no_session within))

-- what the session at a place takes, whichever session stands behind the last one
pub granted-fits : (sessions : List SessionView) (id : RowId) (d : SessionView) (size : ℕ) → is_some (row_of sessions id) ≡ true → (id.guest < length sessions → size ≤ (session_at sessions id.guest).sizes.clip_limit)
    → size ≤ (slice_index_or sessions id.guest d).sizes.clip_limit
granted-fits sessions id d size there fits =
    let within : id.guest < length sessions = row-within sessions id there in
    let P : SessionView → Type 0 = λ s. size ≤ s.sizes.clip_limit in
    subst P (sym (get_or_default sessions id.guest d no_session within)) (fits within)

-- the sessions change in nothing but their rows
pub grant-keeps : (sessions : List SessionView) (id : RowId) (input : GIn) (bytes : List ℕ) (d new : SessionView) → is_some (row_of sessions id) ≡ true → new ≡ granted_to_session input bytes (slice_index_or sessions id.guest d)
    → KeepSessions sessions (slice_set sessions id.guest new)
grant-keeps sessions id input bytes d new there set =
    let within : id.guest < length sessions = row-within sessions id there in
    let s : SessionView = session_at sessions id.guest in
    kept-set sessions (slice_set sessions id.guest new) id.guest (granted s.guest s.rows input bytes).rows within (at-place sessions id input bytes d new within set)

module _ (sessions : List SessionView) (id : RowId) (input : GIn) (bytes : List ℕ) (scene : Scene) (has : HasRowsOf sessions scene) where
  -- what the definitions do, where it is known whether the row is there
  grant-is : (b : Bool) → is_some (row_of sessions id) ≡ b → grant id input bytes scene ≡ grant_where b id input bytes scene
  grant-is b e = ap (λ o. grant_where (is_some o) id input bytes scene) (row-there sessions scene id has) ∙ ap (λ t. grant_where t id input bytes scene) e

  -- to a row that isn't there
  pub carried-nothing : {O : Type 0} (takes : O → Post → O → Type 0) (out : O) → is_some (row_of sessions id) ≡ false → CarriedOut takes out out sessions (grant id input bytes scene)
  carried-nothing takes out gone = subst (CarriedOut takes out out sessions) (sym (grant-is false gone)) (record { rows = has; posts = refl })

  module _ (fits : FitsGrant input) (there : is_some (row_of sessions id) ≡ true) where
    abbrev session : SessionView
    session = session_at sessions id.guest

    abbrev told : Granted
    told = granted session.guest session.rows input bytes

    -- what the definitions grant
    abbrev all : Granted
    all = granted id.guest scene.rows input bytes

    within : id.guest < length sessions
    within = row-within sessions id there

    told-is : told ≡ granted id.guest (mine id.guest scene.rows) input bytes
    told-is =
        ap (λ g. granted g session.rows input bytes) (has.owner id.guest within)
        ∙ sym (ap (λ rs. granted id.guest rs input bytes) (has.rows id.guest))

    own : IsOwnGrant id.guest all (granted id.guest (mine id.guest scene.rows) input bytes)
    own = granted-own id.guest scene.rows input bytes

    own-rows : mine id.guest all.rows ≡ told.rows
    own-rows = own.rows ∙ sym (ap (λ (g : Granted). g.rows) told-is)

    own-answers : replies id.guest all.answers ≡ replies session.guest told.answers
    own-answers =
        ap (replies id.guest) (own.answers ∙ sym (ap (λ (g : Granted). g.answers) told-is))
        ∙ sym (ap (λ g. replies g told.answers) (has.owner id.guest within))

    are : AreRows id.guest told.rows
    are =
        let P : ℕ → Type 0 = λ g. AreRows id.guest (granted g session.rows input bytes).rows in
        subst P (sym (has.owner id.guest within)) (granted-are id.guest session.rows (has.own id.guest within) input bytes fits)

    -- to a row that is there
    carried-grant : {O : Type 0} (takes : O → Post → O → Type 0) (out out' : O) (sessions' : List SessionView) → sessions' ≡ slice_set sessions id.guest (record session { rows = told.rows })
        → Leads takes out (replies session.guest told.answers) out' → CarriedOut takes out out' sessions' (grant id input bytes scene)
    carried-grant takes out out' sessions' set posts =
        let P : List Post → Type 0 = λ ps. Leads takes out ps out' in
        let after : SceneOutcome = grant_in id input bytes all scene in
        subst (CarriedOut takes out out' sessions') (sym (grant-is true there))
        (record {
          rows = has-set sessions sessions' id.guest told.rows within set scene after.scene has own-rows are (λ guest apart. granted-others id.guest scene.rows input bytes guest apart);
          posts = subst P (sym own-answers) posts;
        })

-- to a row that is there, as its session tells it
pub carried-there : {O : Type 0} (takes : O → Post → O → Type 0) (out out' : O) (sessions : List SessionView) (id : RowId) (input : GIn) (bytes : List ℕ) (d new : SessionView) (scene : Scene) → HasRowsOf sessions scene
    → FitsGrant input → is_some (row_of sessions id) ≡ true → new ≡ granted_to_session input bytes (slice_index_or sessions id.guest d)
    → Leads takes out (told_by_session input bytes (slice_index_or sessions id.guest d)) out'
    → CarriedOut takes out out' (slice_set sessions id.guest new) (grant id input bytes scene)
carried-there takes out out' sessions id input bytes d new scene has fits there set posts =
    let within : id.guest < length sessions = row-within sessions id there in
    let same : slice_index_or sessions id.guest d ≡ session_at sessions id.guest = get_or_default sessions id.guest d no_session within in
    let P : SessionView → Type 0 = λ s. Leads takes out (told_by_session input bytes s) out' in
    carried-grant sessions id input bytes scene has fits there takes out out' (slice_set sessions id.guest new)
    (at-place sessions id input bytes d new within set) (subst P same posts)

-- ---- one delivery behind the others

pub fits-at : (items : List Waiting) (k : ℕ) (d : Waiting) → k < length items → All FitsDelivery (map delivery_of items) → FitsDelivery (delivery_of (get_or items k d))
fits-at items k d below all =
    subst FitsDelivery (get_or-map delivery_of items k d (delivery_of d) below)
    (All-get_or FitsDelivery (map delivery_of items) k (delivery_of d) (omega (arith, below, length-map items delivery_of)) all)

pub one-more : (items : List Waiting) (k : ℕ) (d : Waiting) → k < length items
    → map delivery_of (take (k + 1) items) ≡ map delivery_of (take k items) ++ delivery_of (get_or items k d) ∷ []
one-more items k d below =
    let one : k + 1 ≡ suc k = omega arith in
    ap (λ n. map delivery_of (take n items)) one ∙ ap (map delivery_of) (take-suc items k d below)
    ∙ map-append delivery_of (take k items) (get_or items k d ∷ [])

-- what was carried out, and then the next of the queue
pub carried-more : {O : Type 0} (takes : O → Post → O → Type 0) (a b c : O) (next last : List SessionView) (denied : List Pair) (limit : ℕ) (gate gate' : GateView) (items : List Waiting) (k : ℕ) (d : Waiting) (scene : Scene) → k < length items
    → Delivered takes a b next limit gate (deliver_all denied (map delivery_of (take k items)) scene)
    → ((limit : ℕ) (s : Scene) → HasRowsOf next s → gate ≡ keeping limit s.clip → Delivered takes b c last limit gate' (deliver denied (delivery_of (get_or items k d)) s))
    → Delivered takes a c last limit gate' (deliver_all denied (map delivery_of (take (k + 1) items)) scene)
carried-more takes a b c next last denied limit gate gate' items k d scene below done one =
    let before : List Delivery = map delivery_of (take k items) in
    let P : List Delivery → Type 0 = λ ds. Delivered takes a c last limit gate' (deliver_all denied ds scene) in
    subst P (sym (one-more items k d below))
    (delivered-more denied takes a b c next last limit gate gate' before (delivery_of (get_or items k d)) scene done (one limit (deliver_all denied before scene).scene done.carried.rows done.clip))
