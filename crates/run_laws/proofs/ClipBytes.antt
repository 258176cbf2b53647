-- The clipboard's bytes.
use Rattle.std.proofs.Common.{◌≡◌, ℕ, Bool, true, false, not, ◌&&◌, ◌==◌, List, [], ◌∷◌, ◌++◌, map, Option, Some, None, refl, sym, ◌∙◌, ap, append-nil, length}
use Rattle.std.specs.Prelude.{is_some, if◌then◌else◌, option_map, nat_le}
use Rattle.std.proofs.lemmas.Bool.{and_parts, eqb-true}
use Rattle.std.proofs.lemmas.List.Elements.{filter-append, All-head, All-tail}
use Rattle.desk_laws.specs.declared.row_id.RowId.{RowId}
use Rattle.desk_laws.specs.declared.setup.Setup.{Setup}
use Rattle.desk_laws.specs.declared.cause.Cause.{Cause}
use Rattle.desk_laws.specs.declared.cause.Cause.TheVariants.{StreamEnded, LinkFailed}
use Rattle.desk_laws.specs.declared.item.Item.{Item}
use Rattle.desk_laws.specs.declared.item.Item.TheVariants as item
use Rattle.desk_laws.specs.declared.input.GIn.{GIn}
use Rattle.desk_laws.specs.declared.input.GIn.TheVariants as g
use Rattle.desk_laws.specs.declared.setup.Pair.{Pair}
use Rattle.desk_laws.specs.Pairs.{denies}
use Rattle.desk_laws.specs.Sizes.{Sizes, sizes_of}
use Rattle.desk_laws.specs.Stream.{StreamUnit, Word, Stop, Whole, Cut, cut}
use Rattle.desk_laws.specs.Rows.{Row, row_at, is_shown}
use Rattle.desk_laws.specs.Layers.{focus_of}
use Rattle.desk_laws.specs.Effects.{Effect}
use Rattle.desk_laws.specs.Clipboard.{Clip, Content, ask, wiped, forget, is_asked}
use Rattle.desk_laws.specs.Scene.{Scene, SceneOutcome, Input, Took, Given, Closing, Losing, GuestInput, Delivery, Grants, Asks, Pastes, InputOutcome, with_deliveries, unchanged, outcome_after, and_then, grant, grant_where, with_clip, pastes, deliver, deliver_all, scene_of_input, perform}
use Rattle.desk_laws.specs.State.{DeskState, StepOutcome, session_of, count_item, and_next, step_after}
use Rattle.desk_laws.specs.Settle.{focus_now, settle, settled, grab_checked}
use Rattle.desk_laws.specs.Events.{route, is_chord, key_by, key_to, plain_key}
use Rattle.desk_laws.specs.Steps.{step, event, take_unit, take_units, unit_of_open, unit_done, unit_effect, unit_told, end_told, with_rest, rest_of_open, bytes_of_open, end_of_open, store_of_open, went, ends, clip_of_unit, clip_after}
use Rattle.gui_wire.specs.AgentMessages as agent
use Rattle.gui_wire.specs.AgentMessages.{AgentMessage, reading}
use Rattle.run_laws.specs.GrantedContent.{IsCarried, IsChordFor, IsGrantedAt, IfGiven}
use Rattle.isolation_laws.specs.Masks.{veiled_row}
use Rattle.run_laws.specs.Pastes.{is_give, is_paste, pastes_in, is_paste_chord, paste_for, pasted, PastesAreExact, emptied, without_bytes, without_bytes_out, BytesStayInTheClipboard}
use Rattle.isolation_laws.proofs.VeilLemmas.{route-veil, settles-veil}
use Rattle.run_laws.proofs.GrantLemmas.{AllGiven, Passes, given-settle, given-one}
use Rattle.run_laws.proofs.GrantedEvents.{fits-route, found-last}

-- ---- the clipboard has no part in what an event does

shown-same : (rows : List Row) → map (λ row. veiled_row false row) rows ≡ rows
shown-same [] = refl
shown-same (row ∷ rows) = ap (λ rs. row ∷ rs) (shown-same rows)

route-clip : (setup : Setup) (i : Item) (clip : Clip) (scene : Scene) → route setup i (record scene { clip = clip }) ≡ route setup i scene
route-clip setup i clip scene =
    ap (λ rs. route setup i (record scene { rows = rs; clip = clip })) (sym (shown-same scene.rows)) ∙ route-veil (λ row. false) clip setup i scene

-- ---- the scene without the clipboard's bytes

abbrev blank : Scene → Scene
blank scene = record scene { clip = emptied scene.clip }

abbrev blank_out : SceneOutcome → SceneOutcome
blank_out outcome = record outcome { scene = blank outcome.scene }

pastes_in-append : (xs ys : List GuestInput) → pastes_in (xs ++ ys) ≡ pastes_in xs ++ pastes_in ys
pastes_in-append xs ys = filter-append (λ t. is_paste t.input) xs ys

left-empty : {X : Type 0} (xs ys : List X) → xs ++ ys ≡ [] → xs ≡ []
left-empty [] ys e = refl
left-empty (x ∷ xs) ys e = cc

right-empty : {X : Type 0} (xs ys : List X) → xs ++ ys ≡ [] → ys ≡ []
right-empty [] ys e = e
right-empty (x ∷ xs) ys e = cc

emptied-twice : (clip : Clip) → emptied (emptied clip) ≡ emptied clip
emptied-twice clip = by_content clip.content
  where
    by_content : (c : Option Content) → record clip { content = option_map (λ (c : Content). record c { bytes = [] }) (option_map (λ (c : Content). record c { bytes = [] }) c) }
        ≡ record clip { content = option_map (λ (c : Content). record c { bytes = [] }) c }
    by_content None = refl
    by_content (Some c) = refl

grant-blank : (id : RowId) (input : GIn) (paste : List ℕ) (scene : Scene) → grant id input paste (blank scene) ≡ blank_out (grant id input paste scene)
grant-blank id input paste scene = by_row (is_some (row_at id scene.rows))
  where
    by_row : (b : Bool) → grant_where b id input paste (blank scene) ≡ blank_out (grant_where b id input paste scene)
    by_row true = refl
    by_row false = refl

pastes-blank : (denied : List Pair) (id : RowId) (content : Option Content) (scene : Scene) → pastes_in (pastes denied id content scene).inputs ≡ []
    → pastes denied id (option_map (λ (c : Content). record c { bytes = [] }) content) (blank scene) ≡ blank_out (pastes denied id content scene)
pastes-blank denied id None scene none = refl
pastes-blank denied id (Some content) scene none = by_denied (denies denied content.source id.guest) none
  where
    by_row : (b : Bool) → pastes_in (grant_where b id (g.ClipGive id.window) content.bytes (with_clip (wiped scene.clip) scene)).inputs ≡ []
        → grant_where b id (g.ClipGive id.window) [] (with_clip (wiped (emptied scene.clip)) (blank scene))
        ≡ blank_out (grant_where b id (g.ClipGive id.window) content.bytes (with_clip (wiped scene.clip) scene))
    by_row true none = cc
    by_row false none = refl

    by_denied : (b : Bool)
        → pastes_in (if b then unchanged scene else grant id (g.ClipGive id.window) content.bytes (with_clip (wiped scene.clip) scene)).inputs ≡ []
        → (if b then unchanged (blank scene) else grant id (g.ClipGive id.window) [] (with_clip (wiped (emptied scene.clip)) (blank scene)))
        ≡ blank_out (if b then unchanged scene else grant id (g.ClipGive id.window) content.bytes (with_clip (wiped scene.clip) scene))
    by_denied true none = refl
    by_denied false none = by_row (is_some (row_at id scene.rows)) none

deliver-blank : (denied : List Pair) (d : Delivery) (scene : Scene) → pastes_in (deliver denied d scene).inputs ≡ [] → deliver denied d (blank scene) ≡ blank_out (deliver denied d scene)
deliver-blank denied (Grants id input) scene none = grant-blank id input [] scene
deliver-blank denied (Asks id) scene none = grant-blank id (g.ClipAsk id.window) [] (with_clip (ask id.guest scene.clip) scene)
deliver-blank denied (Pastes id) scene none = pastes-blank denied id scene.clip.content scene none

deliver_all-blank : (denied : List Pair) (ds : List Delivery) (scene : Scene) → pastes_in (deliver_all denied ds scene).inputs ≡ [] → deliver_all denied ds (blank scene) ≡ blank_out (deliver_all denied ds scene)
deliver_all-blank denied [] scene none = refl
deliver_all-blank denied (d ∷ ds) scene none =
    let first : SceneOutcome = deliver denied d scene in
    let split = sym (pastes_in-append first.inputs (deliver_all denied ds first.scene).inputs) ∙ none in
    ap (λ o. and_then o (deliver_all denied ds)) (deliver-blank denied d scene (left-empty (pastes_in first.inputs) (pastes_in (deliver_all denied ds first.scene).inputs) split))
    ∙ ap (λ o. record { scene = o.scene; posts = first.posts ++ o.posts; inputs = first.inputs ++ o.inputs })
    (deliver_all-blank denied ds first.scene (right-empty (pastes_in first.inputs) (pastes_in (deliver_all denied ds first.scene).inputs) split))

-- ---- settle hands out nothing

given-none : (denied : List Pair) (i : Item) (at : Scene) → is_paste_chord i ≡ false → (told : List GuestInput) → AllGiven (IsGrantedAt denied i at) told → pastes_in told ≡ []
given-none denied i at plain [] all = refl
given-none denied i at plain (t ∷ told) all =
    ap (λ b. if b then t ∷ pastes_in told else pastes_in told) (of_input t.guest t.input (All-head (Passes (IsGrantedAt denied i at)) t told all))
    ∙ given-none denied i at plain told (All-tail (Passes (IsGrantedAt denied i at)) t told all)
  where
    chord : (guest window : ℕ) → IsChordFor i 55 at (record { guest = guest; window = window }) → true ≡ false
    chord guest window is = sym (ap is_paste_chord is.key ∙ ap (λ b. b && true) is.chord) ∙ plain

    of_given : (guest : ℕ) (input : GIn) → IsCarried i at guest input → is_give input ≡ false
    of_given guest (g.ClipGive window) carried = let no = chord guest window carried in cc
    of_given guest input carried = refl

    of_input : (guest : ℕ) (input : Input) → IfGiven (IsGrantedAt denied i at) guest input → is_paste input ≡ false
    of_input guest (Took unit) is = refl
    of_input guest (Given input paste) is = of_given guest input is.carried
    of_input guest Closing is = refl
    of_input guest Losing is = refl

settle-none : (sizes : Sizes) (scene : Scene) → pastes_in (settle sizes scene).inputs ≡ []
settle-none sizes scene = given-none [] item.Idle scene refl (settle sizes scene).inputs (given-settle [] item.Idle scene sizes)

settle-blank : (sizes : Sizes) (scene : Scene) → settle sizes (blank scene) ≡ blank_out (settle sizes scene)
settle-blank sizes scene =
    ap (λ r. perform [] r (blank scene)) same
    ∙ deliver_all-blank [] (settled sizes (grab_checked scene)).deliveries (scene_of_input (settled sizes (grab_checked scene)) scene) (settle-none sizes scene)
  where
    same : settled sizes (grab_checked (blank scene)) ≡ settled sizes (grab_checked scene)
    same =
        ap (λ rs. settled sizes (grab_checked (record scene { rows = rs; clip = emptied scene.clip }))) (sym (shown-same scene.rows))
        ∙ settles-veil (λ row. false) (emptied scene.clip) sizes scene

-- ---- when bytes are handed out

some-row : (o : Option Row) (row : Row) → o ≡ Some row → is_some o ≡ true
some-row o row e = ap is_some e

-- the focus is a row that is there
focus-there : (scene : Scene) (id : RowId) → focus_now scene ≡ Some id → is_some (row_at id scene.rows) ≡ true
focus-there scene id e = by_focus (focus_of scene.rows scene.layers) refl e
  where
    by_focus : (o : Option Row) → focus_of scene.rows scene.layers ≡ o → option_map (λ (row : Row). record { guest = row.guest; window = row.window }) o ≡ Some id
        → is_some (row_at id scene.rows) ≡ true
    by_focus None focus e = cc
    by_focus (Some row) focus e =
        let is : record { guest = row.guest; window = row.window } ≡ id = some-is (record { guest = row.guest; window = row.window }) id e in
        ap (λ x. is_some (row_at x scene.rows)) (sym is)
        ∙ some-row (row_at (record { guest = row.guest; window = row.window }) scene.rows) row
        (found-last (λ r. is_shown r && not r.over) scene.layers.focus scene.rows row focus)
      where
        some-is : (a b : RowId) → Some a ≡ Some b → a ≡ b
        some-is a b e = cc

-- what a paste chord hands on
chord-pastes : (denied : List Pair) (id : RowId) (scene : Scene) (r : InputOutcome) → is_some (row_at id scene.rows) ≡ true → r.deliveries ≡ Pastes id ∷ []
    → pastes_in (perform denied r scene).inputs ≡ paste_for denied (Some id) scene.clip.content
chord-pastes denied id scene r here e =
    ap (λ ds. pastes_in (deliver_all denied ds (scene_of_input r scene)).inputs) e ∙ by_content scene.clip.content
  where
    given_to : List ℕ → SceneOutcome
    given_to bytes = grant id (g.ClipGive id.window) bytes (with_clip (wiped scene.clip) (scene_of_input r scene))

    by_row : (bytes : List ℕ) (b : Bool) → b ≡ true
        → pastes_in (and_then (grant_where b id (g.ClipGive id.window) bytes (with_clip (wiped scene.clip) (scene_of_input r scene))) (deliver_all denied [])).inputs
        ≡ record { guest = id.guest; input = Given (g.ClipGive id.window) bytes } ∷ []
    by_row bytes true e = refl
    by_row bytes false e = cc

    by_denied : (content : Content) (b : Bool)
        → pastes_in (and_then (if b then unchanged (scene_of_input r scene) else given_to content.bytes) (deliver_all denied [])).inputs
        ≡ (if b then [] else record { guest = id.guest; input = Given (g.ClipGive id.window) content.bytes } ∷ [])
    by_denied content true = refl
    by_denied content false = by_row content.bytes (is_some (row_at id scene.rows)) here

    by_content : (c : Option Content) → pastes_in (and_then (pastes denied id c (scene_of_input r scene)) (deliver_all denied [])).inputs ≡ paste_for denied (Some id) c
    by_content None = refl
    by_content (Some content) = by_denied content (denies denied content.source id.guest)

event-pastes : (setup : Setup) (i : Item) (scene : Scene) (b : Bool) → is_paste_chord i ≡ b
    → pastes_in (perform setup.denied (route setup i scene) scene).inputs ≡ (if b then paste_for setup.denied (focus_now scene) scene.clip.content else [])
event-pastes setup i scene false plain =
    given-none setup.denied i scene plain (perform setup.denied (route setup i scene) scene).inputs (given-one setup.denied i scene (route setup i scene) (fits-route setup scene i))
event-pastes setup (item.Key true code state) scene true chord =
    let parts = and_parts (is_chord state) (code == 55) chord in
    by_focus (focus_now scene) refl parts.0 (eqb-true code 55 parts.1)
  where
    by_focus : (o : Option RowId) → focus_now scene ≡ o → is_chord state ≡ true → code ≡ 55
        → pastes_in (perform setup.denied (route setup (item.Key true code state) scene) scene).inputs ≡ paste_for setup.denied (focus_now scene) scene.clip.content
    by_focus None focus held key =
        ap (λ o. pastes_in (perform setup.denied (key_by o true code state scene) scene).inputs) focus
        ∙ sym (ap (λ o. paste_for setup.denied o scene.clip.content) focus)
    by_focus (Some id) focus held key =
        chord-pastes setup.denied id scene (route setup (item.Key true code state) scene) (focus-there scene id focus)
        (ap (λ o. (key_by o true code state scene).deliveries) focus
        ∙ ap (λ n. (key_to id true n state scene).deliveries) key
        ∙ ap (λ b. (if b && false then with_deliveries scene scene.seat (Asks id ∷ []) else if b && true then with_deliveries scene scene.seat (Pastes id ∷ []) else plain_key id true 55 state scene).deliveries) held)
        ∙ sym (ap (λ o. paste_for setup.denied o scene.clip.content) focus)
event-pastes setup (item.Key false code state) scene true chord = cc
event-pastes setup i scene true chord = cc

whole-event-pastes : (setup : Setup) (i : Item) (desk : DeskState) → pastes_in (event setup i desk).inputs ≡ pasted setup.denied i desk.scene
whole-event-pastes setup i desk =
    let acted : SceneOutcome = perform setup.denied (route setup i desk.scene) desk.scene in
    pastes_in-append acted.inputs (settle (sizes_of setup) acted.scene).inputs
    ∙ ap (λ xs. pastes_in acted.inputs ++ xs) (settle-none (sizes_of setup) acted.scene)
    ∙ append-nil (pastes_in acted.inputs)
    ∙ event-pastes setup i desk.scene (is_paste_chord i) refl

-- an item of a guest's session hands out nothing
end-pastes : (setup : Setup) (guest : ℕ) (input : Input) → is_paste input ≡ false → (cause : Cause) (desk : DeskState) (ended : Option Cause)
    → pastes_in (end_of_open setup guest input cause ended desk).inputs ≡ []
end-pastes setup guest input plain cause desk (Some c) = refl
end-pastes setup guest input plain cause desk None =
    let told : List GuestInput = (settle (sizes_of setup) (end_told guest input cause desk.scene).scene).inputs in
    ap (λ b. if b then record { guest = guest; input = input } ∷ pastes_in told else pastes_in told) plain
    ∙ settle-none (sizes_of setup) (end_told guest input cause desk.scene).scene

unit-pastes : (setup : Setup) (guest : ℕ) (unit : StreamUnit) (desk : DeskState) → pastes_in (take_unit setup guest unit desk).inputs ≡ []
unit-pastes setup guest unit desk = by_end (session_of guest desk).ended
  where
    by_cause : (e : Effect) (c : Option Cause) → pastes_in (unit_done setup guest unit e c desk).inputs ≡ []
    by_cause e None = settle-none (sizes_of setup) (unit_told (sizes_of setup).clip_limit guest unit e desk.scene).scene
    by_cause e (Some c) = settle-none (sizes_of setup) (end_told guest (Took unit) c desk.scene).scene

    by_end : (c : Option Cause) → pastes_in (unit_of_open setup guest unit c desk).inputs ≡ []
    by_end (Some c) = refl
    by_end None = by_cause (unit_effect setup guest unit desk) (unit_effect setup guest unit desk).cause

units-pastes : (setup : Setup) (guest : ℕ) (units : List StreamUnit) (desk : DeskState) → pastes_in (take_units setup guest units desk).inputs ≡ []
units-pastes setup guest [] desk = refl
units-pastes setup guest (unit ∷ units) desk =
    let first : StepOutcome = take_unit setup guest unit desk in
    pastes_in-append first.inputs (take_units setup guest units first.desk).inputs
    ∙ ap (λ xs. xs ++ pastes_in (take_units setup guest units first.desk).inputs) (unit-pastes setup guest unit desk)
    ∙ units-pastes setup guest units first.desk

bytes-pastes : (setup : Setup) (guest : ℕ) (piece : List ℕ) (desk : DeskState) (ended : Option Cause) → pastes_in (bytes_of_open setup guest piece ended desk).inputs ≡ []
bytes-pastes setup guest piece desk (Some c) = refl
bytes-pastes setup guest piece desk None =
    let c : Cut = cut (session_of guest desk).greeted ((session_of guest desk).rest ++ piece) in
    units-pastes setup guest c.units (with_rest guest c.rest desk)

store-pastes : (guest delay page offset : ℕ) (bytes : List ℕ) (desk : DeskState) (ended : Option Cause) → pastes_in (store_of_open guest delay page offset bytes ended desk).inputs ≡ []
store-pastes guest delay page offset bytes desk (Some c) = refl
store-pastes guest delay page offset bytes desk None = refl

pub pastes-exact : PastesAreExact
pastes-exact setup (item.Bytes guest) piece desk = bytes-pastes setup guest piece (count_item desk) (session_of guest desk).ended
pastes-exact setup (item.Closed guest) piece desk = end-pastes setup guest Closing refl (StreamEnded 0 0) (count_item desk) (session_of guest desk).ended
pastes-exact setup (item.Store guest delay page offset) piece desk = store-pastes guest delay page offset piece (count_item desk) (session_of guest desk).ended
pastes-exact setup (item.Lost guest) piece desk = end-pastes setup guest Losing refl (LinkFailed 0 0) (count_item desk) (session_of guest desk).ended
pastes-exact setup item.Snap piece desk = refl
pastes-exact setup item.End piece desk = refl
pastes-exact setup item.Idle piece desk = refl
pastes-exact setup i piece desk = whole-event-pastes setup i (count_item desk)

-- ---- a step from a state without the bytes

-- what came out of two scenes that differ in the bytes alone
then-blank : (sizes : Sizes) (a b : SceneOutcome) → blank_out a ≡ blank_out b → blank_out (and_then a (settle sizes)) ≡ blank_out (and_then b (settle sizes))
then-blank sizes a b e =
    settled_from a ∙ ap (λ (o : SceneOutcome). blank_out (and_then o (settle sizes))) e ∙ sym (settled_from b)
  where
    settled_from : (o : SceneOutcome) → blank_out (and_then o (settle sizes)) ≡ blank_out (and_then (blank_out o) (settle sizes))
    settled_from o =
        ap (λ c. record {
          scene = record (settle sizes o.scene).scene { clip = c };
          posts = o.posts ++ (settle sizes o.scene).posts;
          inputs = o.inputs ++ (settle sizes o.scene).inputs;
        })
        (sym (emptied-twice (settle sizes o.scene).scene.clip))
        ∙ sym (ap (λ s. blank_out (outcome_after o s)) (settle-blank sizes o.scene))

clip-blank : (limit guest : ℕ) (unit : StreamUnit) (clip : Clip) → emptied (clip_of_unit limit guest unit (emptied clip)) ≡ emptied (clip_of_unit limit guest unit clip)
clip-blank limit guest (Word word) clip = emptied-twice clip
clip-blank limit guest (Stop cause) clip = emptied-twice clip
clip-blank limit guest (Whole header body) clip = by_message (reading header.kind body)
  where
    by_message : (m : Option AgentMessage) → emptied (clip_after limit guest m (emptied clip)) ≡ emptied (clip_after limit guest m clip)
    by_message (Some (agent.ClipData bytes)) = by_asked (is_asked clip.asked guest)
      where
        new : Clip
        new = record { asked = None; content = if nat_le (length bytes) limit then Some (record { source = guest; bytes = bytes }) else None }

        by_asked : (b : Bool) → emptied (if b then new else emptied clip) ≡ emptied (if b then new else clip)
        by_asked true = refl
        by_asked false = emptied-twice clip
    by_message other = emptied-twice clip

forget-blank : (guest : ℕ) (clip : Clip) → emptied (forget guest (emptied clip)) ≡ emptied (forget guest clip)
forget-blank guest clip = by_asked (is_asked clip.asked guest)
  where
    by_asked : (b : Bool) → emptied (if b then record (emptied clip) { asked = None } else emptied clip) ≡ emptied (if b then record clip { asked = None } else clip)
    by_asked true = emptied-twice (record clip { asked = None })
    by_asked false = emptied-twice clip

module _ (setup : Setup) where
  abbrev Out : SceneOutcome → StepOutcome → StepOutcome
  Out o s = record s { desk = record s.desk { scene = o.scene }; posts = o.posts; inputs = o.inputs }

  ends-blank : (guest : ℕ) (input : Input) (cause : Cause) (desk : DeskState)
      → without_bytes_out (ends setup guest input cause (without_bytes desk)) ≡ without_bytes_out (ends setup guest input cause desk)
  ends-blank guest input cause desk =
      ap (λ o. Out o (ends setup guest input cause desk))
      (then-blank (sizes_of setup) (end_told guest input cause (blank desk.scene)) (end_told guest input cause desk.scene)
      (ap (λ c. record (end_told guest input cause desk.scene) { scene = record (end_told guest input cause desk.scene).scene { clip = c } }) (forget-blank guest desk.scene.clip)))

  went-blank : (guest : ℕ) (unit : StreamUnit) (e : Effect) (desk : DeskState)
      → without_bytes_out (went setup guest unit e (without_bytes desk)) ≡ without_bytes_out (went setup guest unit e desk)
  went-blank guest unit e desk =
      ap (λ o. Out o (went setup guest unit e desk))
      (then-blank (sizes_of setup) (unit_told (sizes_of setup).clip_limit guest unit e (blank desk.scene)) (unit_told (sizes_of setup).clip_limit guest unit e desk.scene)
      (ap (λ c. record (unit_told (sizes_of setup).clip_limit guest unit e desk.scene) { scene = record (unit_told (sizes_of setup).clip_limit guest unit e desk.scene).scene { clip = c } }) (clip-blank (sizes_of setup).clip_limit guest unit desk.scene.clip)))

  unit-blank : (guest : ℕ) (unit : StreamUnit) (desk : DeskState)
      → without_bytes_out (take_unit setup guest unit (without_bytes desk)) ≡ without_bytes_out (take_unit setup guest unit desk)
  unit-blank guest unit desk = by_end (session_of guest desk).ended
    where
      stays-blank : without_bytes (without_bytes desk) ≡ without_bytes desk
      stays-blank = ap (λ c. record desk { scene = record desk.scene { clip = c } }) (emptied-twice desk.scene.clip)

      by_cause : (c : Option Cause) → without_bytes_out (unit_done setup guest unit (unit_effect setup guest unit desk) c (without_bytes desk))
          ≡ without_bytes_out (unit_done setup guest unit (unit_effect setup guest unit desk) c desk)
      by_cause None = went-blank guest unit (unit_effect setup guest unit desk) desk
      by_cause (Some c) = ends-blank guest (Took unit) c desk

      by_end : (c : Option Cause) → without_bytes_out (unit_of_open setup guest unit c (without_bytes desk)) ≡ without_bytes_out (unit_of_open setup guest unit c desk)
      by_end (Some c) = ap (λ d. record { desk = d; posts = []; inputs = []; readings = [] }) stays-blank
      by_end None = by_cause (unit_effect setup guest unit desk).cause

  -- a further step from two states that differ in the bytes alone
  next-blank : (f : DeskState → StepOutcome) → ((desk : DeskState) → without_bytes_out (f (without_bytes desk)) ≡ without_bytes_out (f desk))
      → (a b : StepOutcome) → without_bytes_out a ≡ without_bytes_out b → without_bytes_out (and_next a f) ≡ without_bytes_out (and_next b f)
  next-blank f same a b e = from a ∙ ap (λ (o : StepOutcome). without_bytes_out (and_next o f)) e ∙ sym (from b)
    where
      from : (o : StepOutcome) → without_bytes_out (and_next o f) ≡ without_bytes_out (and_next (without_bytes_out o) f)
      from o = sym (ap (λ s. step_after o s) (same o.desk))

  units-blank : (guest : ℕ) (units : List StreamUnit) (desk : DeskState)
      → without_bytes_out (take_units setup guest units (without_bytes desk)) ≡ without_bytes_out (take_units setup guest units desk)
  units-blank guest [] desk = ap (λ c. record { desk = record desk { scene = record desk.scene { clip = c } }; posts = []; inputs = []; readings = [] }) (emptied-twice desk.scene.clip)
  units-blank guest (unit ∷ units) desk =
      next-blank (take_units setup guest units) (units-blank guest units)
      (take_unit setup guest unit (without_bytes desk)) (take_unit setup guest unit desk) (unit-blank guest unit desk)

  rest-blank : (guest : ℕ) (rest : List ℕ) (desk : DeskState) → with_rest guest rest (without_bytes desk) ≡ without_bytes (with_rest guest rest desk)
  rest-blank guest rest desk = by_end (session_of guest desk).ended
    where
      by_end : (c : Option Cause) → rest_of_open guest rest c (without_bytes desk) ≡ without_bytes (rest_of_open guest rest c desk)
      by_end (Some c) = refl
      by_end None = refl

  bytes-blank : (guest : ℕ) (piece : List ℕ) (desk : DeskState) (ended : Option Cause)
      → without_bytes_out (bytes_of_open setup guest piece ended (without_bytes desk)) ≡ without_bytes_out (bytes_of_open setup guest piece ended desk)
  bytes-blank guest piece desk (Some c) = units-blank guest [] desk
  bytes-blank guest piece desk None =
      let c : Cut = cut (session_of guest desk).greeted ((session_of guest desk).rest ++ piece) in
      ap (λ d. without_bytes_out (take_units setup guest c.units d)) (rest-blank guest c.rest desk)
      ∙ units-blank guest c.units (with_rest guest c.rest desk)

  end-blank : (guest : ℕ) (input : Input) (cause : Cause) (desk : DeskState) (ended : Option Cause)
      → without_bytes_out (end_of_open setup guest input cause ended (without_bytes desk)) ≡ without_bytes_out (end_of_open setup guest input cause ended desk)
  end-blank guest input cause desk (Some c) = units-blank guest [] desk
  end-blank guest input cause desk None = ends-blank guest input cause desk

  store-blank : (guest delay page offset : ℕ) (bytes : List ℕ) (desk : DeskState) (ended : Option Cause)
      → without_bytes_out (store_of_open guest delay page offset bytes ended (without_bytes desk)) ≡ without_bytes_out (store_of_open guest delay page offset bytes ended desk)
  store-blank guest delay page offset bytes desk (Some c) = units-blank guest [] desk
  store-blank guest delay page offset bytes desk None =
      units-blank guest [] (store_of_open guest delay page offset bytes None desk).desk

  event-blank : (i : Item) (desk : DeskState) → pastes_in (event setup i desk).inputs ≡ []
      → without_bytes_out (event setup i (without_bytes desk)) ≡ without_bytes_out (event setup i desk)
  event-blank i desk none =
      let acted : SceneOutcome = perform setup.denied (route setup i desk.scene) desk.scene in
      let quiet : pastes_in acted.inputs ≡ [] =
      left-empty (pastes_in acted.inputs) (pastes_in (settle (sizes_of setup) acted.scene).inputs)
      (sym (pastes_in-append acted.inputs (settle (sizes_of setup) acted.scene).inputs) ∙ none) in
      let same : perform setup.denied (route setup i (blank desk.scene)) (blank desk.scene) ≡ blank_out acted =
      ap (λ r. perform setup.denied r (blank desk.scene)) (route-clip setup i (emptied desk.scene.clip) desk.scene)
      ∙ deliver_all-blank setup.denied (route setup i desk.scene).deliveries (scene_of_input (route setup i desk.scene) desk.scene) quiet in
      ap (λ o. Out o (event setup i desk))
      (then-blank (sizes_of setup) (perform setup.denied (route setup i (blank desk.scene)) (blank desk.scene)) acted
      (ap blank_out same ∙ ap (λ c. record acted { scene = record acted.scene { clip = c } }) (emptied-twice acted.scene.clip)))

  pub step-blank : (i : Item) (piece : List ℕ) (desk : DeskState) → pastes_in (step setup i piece desk).inputs ≡ []
      → without_bytes_out (step setup i piece (without_bytes desk)) ≡ without_bytes_out (step setup i piece desk)
  step-blank (item.Bytes guest) piece desk none = bytes-blank guest piece (count_item desk) (session_of guest desk).ended
  step-blank (item.Closed guest) piece desk none = end-blank guest Closing (StreamEnded 0 0) (count_item desk) (session_of guest desk).ended
  step-blank (item.Store guest delay page offset) piece desk none = store-blank guest delay page offset piece (count_item desk) (session_of guest desk).ended
  step-blank (item.Lost guest) piece desk none = end-blank guest Losing (LinkFailed 0 0) (count_item desk) (session_of guest desk).ended
  step-blank item.Snap piece desk none =
      ap (λ c. record (step setup item.Snap piece desk) { desk = record (count_item desk) { scene = record desk.scene { clip = c } } }) (emptied-twice desk.scene.clip)
  step-blank item.End piece desk none =
      ap (λ c. record (step setup item.End piece desk) { desk = record (count_item desk) { scene = record desk.scene { clip = c } } }) (emptied-twice desk.scene.clip)
  step-blank item.Idle piece desk none = units-blank 0 [] desk
  step-blank i piece desk none = event-blank i (count_item desk) none

-- ---- two states

-- whether bytes are handed out doesn't depend on them
module _ (denied : List Pair) (i : Item) (scene : Scene) where
  abbrev no_bytes : Option Content → Option Content
  no_bytes c = option_map (λ (c : Content). record c { bytes = [] }) c

  -- a paste of these bytes to a row, unless it is denied
  abbrev given_unless : Bool → RowId → List ℕ → List GuestInput
  given_unless b id bytes = if b then [] else record { guest = id.guest; input = Given (g.ClipGive id.window) bytes } ∷ []

  pasted-blank : pasted denied i scene ≡ [] → pasted denied i (blank scene) ≡ []
  pasted-blank none = by_chord (is_paste_chord i) none
    where
      by_denied : (id : RowId) (c : Content) (b : Bool) → given_unless b id c.bytes ≡ []
          → given_unless b id [] ≡ []
      by_denied id c true none = refl
      by_denied id c false none = cc

      by_parts : (o : Option RowId) (c : Option Content) → paste_for denied o c ≡ [] → paste_for denied o (no_bytes c) ≡ []
      by_parts None c none = refl
      by_parts (Some id) None none = refl
      by_parts (Some id) (Some c) none = by_denied id c (denies denied c.source id.guest) none

      by_chord : (b : Bool) → (if b then paste_for denied (focus_now scene) scene.clip.content else []) ≡ []
          → (if b then paste_for denied (focus_now scene) (emptied scene.clip).content else []) ≡ []
      by_chord true none = by_parts (focus_now scene) scene.clip.content none
      by_chord false none = refl

  pasted-full : pasted denied i (blank scene) ≡ [] → pasted denied i scene ≡ []
  pasted-full none = by_chord (is_paste_chord i) none
    where
      by_denied : (id : RowId) (c : Content) (b : Bool) → given_unless b id [] ≡ []
          → given_unless b id c.bytes ≡ []
      by_denied id c true none = refl
      by_denied id c false none = cc

      by_parts : (o : Option RowId) (c : Option Content) → paste_for denied o (no_bytes c) ≡ [] → paste_for denied o c ≡ []
      by_parts None c none = refl
      by_parts (Some id) None none = refl
      by_parts (Some id) (Some c) none = by_denied id c (denies denied c.source id.guest) none

      by_chord : (b : Bool) → (if b then paste_for denied (focus_now scene) (emptied scene.clip).content else []) ≡ []
          → (if b then paste_for denied (focus_now scene) scene.clip.content else []) ≡ []
      by_chord true none = by_parts (focus_now scene) scene.clip.content none
      by_chord false none = refl

pub bytes-stay : BytesStayInTheClipboard
bytes-stay setup i piece one two same none =
    let first : pasted setup.denied i one.scene ≡ [] = sym (pastes-exact setup i piece one) ∙ none in
    let second : pasted setup.denied i two.scene ≡ [] =
    pasted-full setup.denied i two.scene (ap (λ (d : DeskState). pasted setup.denied i d.scene) (sym same) ∙ pasted-blank setup.denied i one.scene first) in
    sym (step-blank setup i piece one none)
    ∙ ap (λ d. without_bytes_out (step setup i piece d)) same
    ∙ step-blank setup i piece two (pastes-exact setup i piece two ∙ second)
