-- What an item of one guest tells the others.
use Rattle.std.proofs.Common.{◌≡◌, ℕ, Bool, true, false, ◌==◌, List, [], ◌∷◌, ◌++◌, map, Option, Some, None, refl, arith}
use Rattle.std.specs.Prelude.{is_some, if◌then◌else◌}
use Rattle.std.specs.List.{All}
use Rattle.std.proofs.lemmas.Bool.Decides.{nat_tests}
use Rattle.std.proofs.lemmas.List.Elements.{All-append, All-cons, All-head, All-tail, All-weaker}
use Rattle.gui_num.specs.declared.Rect.{Rect}
use Rattle.desk_laws.specs.declared.setup.Setup.{Setup}
use Rattle.desk_laws.specs.declared.setup.Pair.{Pair}
use Rattle.desk_laws.specs.declared.row_id.RowId.{RowId}
use Rattle.desk_laws.specs.declared.cause.Cause.{Cause}
use Rattle.desk_laws.specs.declared.cause.Cause.TheVariants.{StreamEnded, LinkFailed}
use Rattle.desk_laws.specs.declared.input.GIn.{GIn}
use Rattle.desk_laws.specs.declared.input.GIn.TheVariants.{ClipAsk, ClipGive}
use Rattle.desk_laws.specs.declared.item.Item.{Item}
use Rattle.desk_laws.specs.declared.item.Item.TheVariants as item
use Rattle.desk_laws.specs.Clipboard.{Content, ask, wiped}
use Rattle.desk_laws.specs.Effects.{Effect}
use Rattle.desk_laws.specs.Endings.{is_item_of}
use Rattle.desk_laws.specs.Events.{route}
use Rattle.desk_laws.specs.Grants.{granted}
use Rattle.desk_laws.specs.Layers.{Layers}
use Rattle.desk_laws.specs.Pairs.{denies}
use Rattle.desk_laws.specs.Rows.{Row, row_at}
use Rattle.desk_laws.specs.Scene.{Scene, SceneOutcome, Reply, Ended, Input, Closing, Losing, GuestInput, replies, and_then, grant, grant_where, with_clip, Delivery, Grants, Asks, Pastes, pastes, deliver, deliver_all, scene_of_input, perform}
use Rattle.desk_laws.specs.Settle.{crossing, focusing, focus_told, hover_told, keymap, settle, settled, same_id, focus_now, hover_now, grab_checked}
use Rattle.desk_laws.specs.Sizes.{Sizes, sizes_of}
use Rattle.desk_laws.specs.State.{DeskState, StepOutcome, session_of, count_item, and_next}
use Rattle.desk_laws.specs.Stream.{StreamUnit, cut}
use Rattle.desk_laws.specs.Steps.{bytes_of_open, end_of_open, end_session, end_told, ends, picture_post, step, store_of_open, take_bytes, take_store, take_unit, take_units, unit_done, unit_effect, unit_of_open, unit_told, went, with_rest}
use Rattle.run_laws.specs.OthersHear.{EndsItsGuest, EndsStayAtHome, IsNews, IsNewsToOthers, OthersHearNews, TellsFocus}

none : {A : Type 0} (P : A → Type 0) → All P []
none P = λ k d below. absurd (omega (arith, below))

-- replies end no session
replies-end : (i : Item) (guest : ℕ) (answers : List (List ℕ)) → All (EndsItsGuest i) (replies guest answers)
replies-end i guest [] = none (EndsItsGuest i)
replies-end i guest (a ∷ answers) = All-cons (EndsItsGuest i) (Reply guest a) (replies guest answers) tt (replies-end i guest answers)

-- ---- grants end no session

grant-ends : (i : Item) (id : RowId) (input : GIn) (paste : List ℕ) (scene : Scene) → All (EndsItsGuest i) (grant id input paste scene).posts
grant-ends i id input paste scene = by_there (is_some (row_at id scene.rows))
  where
    by_there : (there : Bool) → All (EndsItsGuest i) (grant_where there id input paste scene).posts
    by_there false = none (EndsItsGuest i)
    by_there true = replies-end i id.guest (granted id.guest scene.rows input paste).answers

pastes-end : (i : Item) (denied : List Pair) (id : RowId) (content : Option Content) (scene : Scene) → All (EndsItsGuest i) (pastes denied id content scene).posts
pastes-end i denied id None scene = none (EndsItsGuest i)
pastes-end i denied id (Some content) scene = by_pair (denies denied content.source id.guest)
  where
    by_pair : (no : Bool) → All (EndsItsGuest i) (if no then record { scene = scene; posts = []; inputs = [] } else grant id (ClipGive id.window) content.bytes (with_clip (wiped scene.clip) scene)).posts
    by_pair true = none (EndsItsGuest i)
    by_pair false = grant-ends i id (ClipGive id.window) content.bytes (with_clip (wiped scene.clip) scene)

deliver-ends : (i : Item) (denied : List Pair) (d : Delivery) (scene : Scene) → All (EndsItsGuest i) (deliver denied d scene).posts
deliver-ends i denied (Grants id input) scene = grant-ends i id input [] scene
deliver-ends i denied (Asks id) scene = grant-ends i id (ClipAsk id.window) [] (with_clip (ask id.guest scene.clip) scene)
deliver-ends i denied (Pastes id) scene = pastes-end i denied id scene.clip.content scene

deliveries-end : (i : Item) (denied : List Pair) (ds : List Delivery) (scene : Scene) → All (EndsItsGuest i) (deliver_all denied ds scene).posts
deliveries-end i denied [] scene = none (EndsItsGuest i)
deliveries-end i denied (d ∷ ds) scene =
    let one : SceneOutcome = deliver denied d scene in
    All-append (EndsItsGuest i) one.posts (deliver_all denied ds one.scene).posts (deliver-ends i denied d scene) (deliveries-end i denied ds one.scene)

settle-ends : (i : Item) (sizes : Sizes) (scene : Scene) → All (EndsItsGuest i) (settle sizes scene).posts
settle-ends i sizes scene = deliveries-end i [] (settled sizes (grab_checked scene)).deliveries (scene_of_input (settled sizes (grab_checked scene)) scene)

-- ---- what is settled is news of focus and hover

-- a delivery of such news
abbrev IsNewsOf : Delivery → Type 0
IsNewsOf (Grants id input) = TellsFocus input
IsNewsOf (Asks id) = ⊥
IsNewsOf (Pastes id) = ⊥

focusing-news : (gained : Bool) (o : Option RowId) → All IsNewsOf (focusing gained o)
focusing-news gained None = none IsNewsOf
focusing-news gained (Some id) = All-cons IsNewsOf _ [] tt (none IsNewsOf)

keymap-news : (o : Option RowId) → All IsNewsOf (keymap o)
keymap-news None = none IsNewsOf
keymap-news (Some id) = All-cons IsNewsOf _ [] tt (none IsNewsOf)

crossing-news : (enter : Bool) (o : Option RowId) (scene : Scene) → All IsNewsOf (crossing enter o scene)
crossing-news enter None scene = none IsNewsOf
crossing-news enter (Some id) scene = All-cons IsNewsOf _ [] tt (none IsNewsOf)

focus-news : (old new : Option RowId) → All IsNewsOf (focus_told old new)
focus-news old new = by_same (same_id old new)
  where
    by_same : (same : Bool) → All IsNewsOf (if same then [] else focusing false old ++ focusing true new ++ keymap new)
    by_same true = none IsNewsOf
    by_same false =
        All-append IsNewsOf (focusing false old ++ focusing true new) (keymap new)
        (All-append IsNewsOf (focusing false old) (focusing true new) (focusing-news false old) (focusing-news true new)) (keymap-news new)

hover-news : (old new : Option RowId) (scene : Scene) → All IsNewsOf (hover_told old new scene)
hover-news old new scene = by_same (same_id old new)
  where
    by_same : (same : Bool) → All IsNewsOf (if same then [] else crossing false old scene ++ crossing true new scene)
    by_same true = none IsNewsOf
    by_same false = All-append IsNewsOf (crossing false old scene) (crossing true new scene) (crossing-news false old scene) (crossing-news true new scene)

settled-news : (sizes : Sizes) (scene : Scene) → All IsNewsOf (settled sizes scene).deliveries
settled-news sizes scene =
    All-append IsNewsOf (focus_told scene.seat.focus (focus_now scene)) (hover_told scene.seat.hover (hover_now sizes scene) scene)
    (focus-news scene.seat.focus (focus_now scene)) (hover-news scene.seat.hover (hover_now sizes scene) scene)

-- so each input is such news
abbrev IsNewsFor : GuestInput → Type 0
IsNewsFor t = IsNews t.input

grant-news : (id : RowId) (input : GIn) (scene : Scene) → TellsFocus input → All IsNewsFor (grant id input [] scene).inputs
grant-news id input scene tells = by_there (is_some (row_at id scene.rows))
  where
    by_there : (there : Bool) → All IsNewsFor (grant_where there id input [] scene).inputs
    by_there false = none IsNewsFor
    by_there true = All-cons IsNewsFor _ [] (tells, refl) (none IsNewsFor)

delivered-news : (denied : List Pair) (d : Delivery) (scene : Scene) → IsNewsOf d → All IsNewsFor (deliver denied d scene).inputs
delivered-news denied (Grants id input) scene tells = grant-news id input scene tells
delivered-news denied (Asks id) scene tells = absurd tells
delivered-news denied (Pastes id) scene tells = absurd tells

deliveries-news : (denied : List Pair) (ds : List Delivery) (scene : Scene) → All IsNewsOf ds → All IsNewsFor (deliver_all denied ds scene).inputs
deliveries-news denied [] scene all = none IsNewsFor
deliveries-news denied (d ∷ ds) scene all =
    let one : SceneOutcome = deliver denied d scene in
    All-append IsNewsFor one.inputs (deliver_all denied ds one.scene).inputs (delivered-news denied d scene (All-head IsNewsOf d ds all)) (deliveries-news denied ds one.scene (All-tail IsNewsOf d ds all))

settle-news : (i : Item) (sizes : Sizes) (scene : Scene) → All (IsNewsToOthers i) (settle sizes scene).inputs
settle-news i sizes scene =
    All-weaker IsNewsFor (IsNewsToOthers i) (λ t news other. news) (settle sizes scene).inputs
    (deliveries-news [] (settled sizes (grab_checked scene)).deliveries (scene_of_input (settled sizes (grab_checked scene)) scene) (settled-news sizes (grab_checked scene)))

-- ---- an item of a guest

-- what an item of a guest ends, and what it tells others
pub record StaysAtHome (i : Item) (outcome : StepOutcome) : Type 0 where
  pub posts : All (EndsItsGuest i) outcome.posts
  pub inputs : All (IsNewsToOthers i) outcome.inputs

stays-home : (i : Item) (d : DeskState) → StaysAtHome i (record { desk = d; posts = []; inputs = []; readings = [] })
stays-home i d = record { posts = none (EndsItsGuest i); inputs = none (IsNewsToOthers i) }

next-home : (i : Item) (x : StepOutcome) (f : DeskState → StepOutcome) → StaysAtHome i x → StaysAtHome i (f x.desk) → StaysAtHome i (and_next x f)
next-home i x f one two = record {
  posts = All-append (EndsItsGuest i) x.posts (f x.desk).posts one.posts two.posts;
  inputs = All-append (IsNewsToOthers i) x.inputs (f x.desk).inputs one.inputs two.inputs;
}

-- the guest's own input
own-input : (i : Item) (g : ℕ) (input : Input) → is_item_of g i ≡ true → All (IsNewsToOthers i) (record { guest = g; input = input } ∷ [])
own-input i g input own = All-cons (IsNewsToOthers i) (record { guest = g; input = input }) [] (λ other. absurd (cc)) (none (IsNewsToOthers i))

ends-home : (setup : Setup) (i : Item) (g : ℕ) (input : Input) (cause : Cause) (d : DeskState) → is_item_of g i ≡ true → StaysAtHome i (ends setup g input cause d)
ends-home setup i g input cause d own =
    let told : SceneOutcome = end_told g input cause d.scene in
    let next : SceneOutcome = settle (sizes_of setup) told.scene in
    record {
      posts = All-cons (EndsItsGuest i) (Ended g cause) next.posts own (settle-ends i (sizes_of setup) told.scene);
      inputs = All-append (IsNewsToOthers i) told.inputs next.inputs (own-input i g input own) (settle-news i (sizes_of setup) told.scene);
    }

went-home : (setup : Setup) (i : Item) (g : ℕ) (unit : StreamUnit) (e : Effect) (d : DeskState) → is_item_of g i ≡ true → StaysAtHome i (went setup g unit e d)
went-home setup i g unit e d own =
    let told : SceneOutcome = unit_told (sizes_of setup).clip_limit g unit e d.scene in
    let next : SceneOutcome = settle (sizes_of setup) told.scene in
    record {
      posts = All-append (EndsItsGuest i) told.posts next.posts (replies-end i g e.answers) (settle-ends i (sizes_of setup) told.scene);
      inputs = All-append (IsNewsToOthers i) told.inputs next.inputs (own-input i g _ own) (settle-news i (sizes_of setup) told.scene);
    }

unit-home : (setup : Setup) (i : Item) (g : ℕ) (unit : StreamUnit) (d : DeskState) → is_item_of g i ≡ true → StaysAtHome i (take_unit setup g unit d)
unit-home setup i g unit d own = by_end (session_of g d).ended
  where
    by_cause : (e : Effect) (c : Option Cause) → StaysAtHome i (unit_done setup g unit e c d)
    by_cause e None = went-home setup i g unit e d own
    by_cause e (Some c) = ends-home setup i g _ c d own

    by_end : (c : Option Cause) → StaysAtHome i (unit_of_open setup g unit c d)
    by_end (Some c) = stays-home i d
    by_end None = by_cause (unit_effect setup g unit d) (unit_effect setup g unit d).cause

units-home : (setup : Setup) (i : Item) (g : ℕ) (units : List StreamUnit) (d : DeskState) → is_item_of g i ≡ true → StaysAtHome i (take_units setup g units d)
units-home setup i g [] d own = stays-home i d
units-home setup i g (unit ∷ units) d own =
    next-home i (take_unit setup g unit d) (take_units setup g units) (unit-home setup i g unit d own) (units-home setup i g units (take_unit setup g unit d).desk own)

bytes-home : (setup : Setup) (i : Item) (g : ℕ) (piece : List ℕ) (d : DeskState) → is_item_of g i ≡ true → StaysAtHome i (take_bytes setup g piece d)
bytes-home setup i g piece d own = by_end (session_of g d).ended
  where
    by_end : (c : Option Cause) → StaysAtHome i (bytes_of_open setup g piece c d)
    by_end (Some c) = stays-home i d
    by_end None =
        let c = cut (session_of g d).greeted ((session_of g d).rest ++ piece) in
        units-home setup i g c.units (with_rest g c.rest d) own

end-home : (setup : Setup) (i : Item) (g : ℕ) (input : Input) (cause : Cause) (d : DeskState) → is_item_of g i ≡ true → StaysAtHome i (end_session setup g input cause d)
end-home setup i g input cause d own = by_end (session_of g d).ended
  where
    by_end : (c : Option Cause) → StaysAtHome i (end_of_open setup g input cause c d)
    by_end (Some c) = stays-home i d
    by_end None = ends-home setup i g input cause d own

store-home : (i : Item) (g delay page offset : ℕ) (bytes : List ℕ) (d : DeskState) → StaysAtHome i (take_store g delay page offset bytes d)
store-home i g delay page offset bytes d = by_end (session_of g d).ended
  where
    by_end : (c : Option Cause) → StaysAtHome i (store_of_open g delay page offset bytes c d)
    by_end (Some c) = stays-home i d
    by_end None = record { posts = none (EndsItsGuest i); inputs = none (IsNewsToOthers i) }

is-own : (g : ℕ) → (g == g) ≡ true
is-own g = grind (arith, nat_tests)

-- what is true of each item of a guest
item-home : (setup : Setup) (i : Item) (piece : List ℕ) (guest : ℕ) (d : DeskState) → is_item_of guest i ≡ true → StaysAtHome i (step setup i piece d)
item-home setup (item.Bytes g) piece guest d own = bytes-home setup (item.Bytes g) g piece (count_item d) (is-own g)
item-home setup (item.Closed g) piece guest d own = end-home setup (item.Closed g) g Closing (StreamEnded 0 0) (count_item d) (is-own g)
item-home setup (item.Store g delay page offset) piece guest d own = store-home (item.Store g delay page offset) g delay page offset piece (count_item d)
item-home setup (item.Lost g) piece guest d own = end-home setup (item.Lost g) g Losing (LinkFailed 0 0) (count_item d) (is-own g)
item-home setup i piece guest d own = absurd (cc)

pub others-hear_news : OthersHearNews
others-hear_news setup i piece guest state own = (item-home setup i piece guest state own).inputs

-- ---- any item

pictures-end : (i : Item) (setup : Setup) (rows : List Row) (layers : Layers) (outputs : List Rect) → All (EndsItsGuest i) (map (picture_post setup rows layers) outputs)
pictures-end i setup rows layers [] = none (EndsItsGuest i)
pictures-end i setup rows layers (o ∷ outputs) = All-cons (EndsItsGuest i) (picture_post setup rows layers o) (map (picture_post setup rows layers) outputs) tt (pictures-end i setup rows layers outputs)

event-ends : (setup : Setup) (i : Item) (scene : Scene) → All (EndsItsGuest i) (and_then (perform setup.denied (route setup i scene) scene) (settle (sizes_of setup))).posts
event-ends setup i scene =
    let done : SceneOutcome = perform setup.denied (route setup i scene) scene in
    All-append (EndsItsGuest i) done.posts (settle (sizes_of setup) done.scene).posts
    (deliveries-end i setup.denied (route setup i scene).deliveries (scene_of_input (route setup i scene) scene)) (settle-ends i (sizes_of setup) done.scene)

pub ends-stay_at_home : EndsStayAtHome
ends-stay_at_home setup (item.Bytes g) piece state = (item-home setup (item.Bytes g) piece g state (is-own g)).posts
ends-stay_at_home setup (item.Closed g) piece state = (item-home setup (item.Closed g) piece g state (is-own g)).posts
ends-stay_at_home setup (item.Store g delay page offset) piece state = (item-home setup (item.Store g delay page offset) piece g state (is-own g)).posts
ends-stay_at_home setup (item.Lost g) piece state = (item-home setup (item.Lost g) piece g state (is-own g)).posts
ends-stay_at_home setup item.Snap piece state = pictures-end item.Snap setup state.scene.rows state.scene.layers setup.outputs
ends-stay_at_home setup item.End piece state = All-cons (EndsItsGuest item.End) _ [] tt (none (EndsItsGuest item.End))
ends-stay_at_home setup item.Idle piece state = none (EndsItsGuest item.Idle)
ends-stay_at_home setup i piece state = event-ends setup i state.scene
