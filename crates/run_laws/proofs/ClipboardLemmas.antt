-- What the paste chord grants, and what data leaves of the clipboard.
use Rattle.std.proofs.Common.{◌≡◌, ℕ, Bool, true, false, not, ◌&&◌, ◌==◌, List, [], ◌∷◌, ◌++◌, length, Option, Some, None, is_some, refl, sym, ◌∙◌, ap}
use Rattle.std.specs.Prelude.{if◌then◌else◌, nat_le, option_map}
use Rattle.std.proofs.lemmas.Bool.{eqb-true, lt-leb, le-leb}
use Rattle.desk_laws.specs.declared.row_id.RowId.{RowId}
use Rattle.desk_laws.specs.declared.setup.Setup.{Setup}
use Rattle.desk_laws.specs.declared.setup.Pair.{Pair}
use Rattle.desk_laws.specs.declared.cause.Cause.{Cause}
use Rattle.desk_laws.specs.declared.cause.Cause.TheVariants.{StreamEnded, LinkFailed}
use Rattle.desk_laws.specs.declared.item.Item.TheVariants as item
use Rattle.desk_laws.specs.declared.input.GIn.TheVariants.{ClipGive}
use Rattle.desk_laws.specs.Sizes.{sizes_of}
use Rattle.desk_laws.specs.Pairs.{denies}
use Rattle.desk_laws.specs.Stream.{StreamUnit, Word, Stop, Whole, Cut, cut}
use Rattle.gui_wire.specs.AgentMessages as agent
use Rattle.gui_wire.specs.AgentMessages.{AgentMessage, reading}
use Rattle.desk_laws.specs.Rows.{Row, id_of, row_at, is_shown}
use Rattle.desk_laws.specs.Layers.{focus_of}
use Rattle.desk_laws.specs.Effects.{Effect}
use Rattle.desk_laws.specs.Grants.{granted}
use Rattle.desk_laws.specs.Clipboard.{Clip, Content, is_asked, give, forget, wiped}
use Rattle.desk_laws.specs.Scene.{Scene, SceneOutcome, Input, Took, Closing, Losing, Asks, Pastes, InputOutcome, outcome_after, unchanged, grant, grant_in, grant_where, with_clip, pastes, perform, with_deliveries, ignored}
use Rattle.desk_laws.specs.State.{DeskState, session_of, count_item}
use Rattle.desk_laws.specs.Settle.{focus_now}
use Rattle.desk_laws.specs.Events.{route, is_chord, key_by, plain_key}
use Rattle.desk_laws.specs.Steps.{clip_after, clip_of_unit, end_told, unit_told, take_unit, take_units, unit_done, unit_of_open, unit_effect, with_rest, rest_of_open, bytes_of_open, end_of_open}
use Rattle.desk_laws.proofs.SettleLemmas.{settle-clip}
use Rattle.desk_laws.proofs.SoundLemmas.{stored-scene}
use Rattle.run_laws.specs.ClipboardLaw.{MayPaste, paste_key, PasteKeyGives, PastesToTheFocus, PastesNothingElse, StrangersLeaveIt, DataIsHeld, LongDataIsLost, LongDataIsAlike}
use Rattle.run_laws.proofs.GrantedEvents.{found-last}

-- ---- pastes

-- the row that has the focus is there
focus-there : (scene : Scene) (id : RowId) → focus_now scene ≡ Some id → is_some (row_at id scene.rows) ≡ true
focus-there scene id focus = by_row (focus_of scene.rows scene.layers) refl focus
  where
    by_row : (o : Option Row) → focus_of scene.rows scene.layers ≡ o → option_map id_of o ≡ Some id → is_some (row_at id scene.rows) ≡ true
    by_row None of e = cc
    by_row (Some row) of e =
        let is : id_of row ≡ id = cc in
        ap (λ i. is_some (row_at i scene.rows)) (sym is)
        ∙ ap is_some (found-last (λ r. is_shown r && not r.over) scene.layers.focus scene.rows row of)

-- the chord's key is a paste for the row that has the focus
chord-pastes : (setup : Setup) (state : ℕ) (scene : Scene) (id : RowId) → is_chord state ≡ true → focus_now scene ≡ Some id
    → route setup (paste_key state) scene ≡ with_deliveries scene scene.seat (Pastes id ∷ [])
chord-pastes setup state scene id chord focus =
    let of_chord : Bool → InputOutcome = λ b.
    if b && 55 == 54 then with_deliveries scene scene.seat (Asks id ∷ [])
    else if b && 55 == 55 then with_deliveries scene scene.seat (Pastes id ∷ []) else plain_key id true 55 state scene in
    ap (λ o. key_by o true 55 state scene) focus ∙ ap of_chord chord

-- what is pasted to a row is what is held
pastes-held : (denied : List Pair) (scene : Scene) (id : RowId) (content : Content) → MayPaste denied scene id content
    → pastes denied id scene.clip.content scene
    ≡ grant_in id (ClipGive id.window) content.bytes (granted id.guest scene.rows (ClipGive id.window) content.bytes) (with_clip (wiped scene.clip) scene)
pastes-held denied scene id content may =
    let given : SceneOutcome = grant id (ClipGive id.window) content.bytes (with_clip (wiped scene.clip) scene) in
    ap (λ o. pastes denied id o scene) may.held
    ∙ ap (λ b. if b then unchanged scene else given) may.allowed
    ∙ ap (λ b. grant_where b id (ClipGive id.window) content.bytes (with_clip (wiped scene.clip) scene)) (focus-there scene id may.focus)

-- what a key does before focus and hover are told, and the clipboard that it leaves
key-gives : (setup : Setup) (state : ℕ) (desk : DeskState) (r : InputOutcome) (outcome : SceneOutcome) → route setup (paste_key state) desk.scene ≡ r
    → perform setup.denied r desk.scene ≡ outcome → PasteKeyGives setup state desk outcome.inputs outcome.scene.clip
key-gives setup state desk r outcome routed performed =
    let done : perform setup.denied (route setup (paste_key state) desk.scene) desk.scene ≡ outcome =
    ap (λ x. perform setup.denied x desk.scene) routed ∙ performed in
    record {
      granted = ap (λ o. o.inputs) done;
      left = settle-clip (sizes_of setup) (perform setup.denied (route setup (paste_key state) desk.scene) desk.scene).scene ∙ ap (λ o. o.scene.clip) done;
    }

pub pastes-to_the_focus : PastesToTheFocus
pastes-to_the_focus setup state desk id content chord may =
    let given : SceneOutcome =
    grant_in id (ClipGive id.window) content.bytes (granted id.guest desk.scene.rows (ClipGive id.window) content.bytes) (with_clip (wiped desk.scene.clip) desk.scene) in
    key-gives setup state desk (with_deliveries desk.scene desk.scene.seat (Pastes id ∷ [])) (outcome_after given (unchanged given.scene))
    (chord-pastes setup state desk.scene id chord may.focus)
    (ap (λ o. outcome_after o (unchanged o.scene)) (pastes-held setup.denied desk.scene id content may))

-- to a row that has the focus nothing is pasted where nothing may be
pastes-nothing : (denied : List Pair) (scene : Scene) (id : RowId) → focus_now scene ≡ Some id
    → ((content : Content) → MayPaste denied scene id content → ⊥) → pastes denied id scene.clip.content scene ≡ unchanged scene
pastes-nothing denied scene id focus none = by_content scene.clip.content refl
  where
    by_pair : (content : Content) → scene.clip.content ≡ Some content → (b : Bool) → denies denied content.source id.guest ≡ b
        → (if b then unchanged scene else grant id (ClipGive id.window) content.bytes (with_clip (wiped scene.clip) scene)) ≡ unchanged scene
    by_pair content held true e = refl
    by_pair content held false e = absurd (none content (record { focus = focus; held = held; allowed = e }))

    by_content : (o : Option Content) → scene.clip.content ≡ o → pastes denied id o scene ≡ unchanged scene
    by_content None held = refl
    by_content (Some content) held = by_pair content held (denies denied content.source id.guest) refl

pub pastes-nothing_else : PastesNothingElse
pastes-nothing_else setup state desk chord none = by_focus (focus_now desk.scene) refl
  where
    by_focus : (o : Option RowId) → focus_now desk.scene ≡ o → PasteKeyGives setup state desk [] desk.scene.clip
    by_focus None focus =
        key-gives setup state desk (ignored desk.scene) (unchanged desk.scene) (ap (λ o. key_by o true 55 state desk.scene) focus) refl
    by_focus (Some id) focus =
        key-gives setup state desk (with_deliveries desk.scene desk.scene.seat (Pastes id ∷ [])) (unchanged desk.scene)
        (chord-pastes setup state desk.scene id chord focus)
        (ap (λ o. outcome_after o (unchanged o.scene)) (pastes-nothing setup.denied desk.scene id focus (none id)))

-- ---- data of a guest that wasn't asked

module _ (limit guest : ℕ) (clip : Clip) (stranger : is_asked clip.asked guest ≡ false) where
  -- its data
  give-stranger : (bytes : List ℕ) → give limit guest bytes clip ≡ clip
  give-stranger bytes =
      let taken : Clip = record { asked = None; content = if nat_le (length bytes) limit then Some (record { source = guest; bytes = bytes }) else None } in
      ap (λ b. if b then taken else clip) stranger

  -- its messages
  after-stranger : (m : Option AgentMessage) → clip_after limit guest m clip ≡ clip
  after-stranger (Some (agent.ClipData bytes)) = give-stranger bytes
  after-stranger m = refl

  -- its units
  unit-stranger : (unit : StreamUnit) → clip_of_unit limit guest unit clip ≡ clip
  unit-stranger (Word word) = refl
  unit-stranger (Stop cause) = refl
  unit-stranger (Whole header body) = after-stranger (reading header.kind body)

  -- its end
  forget-stranger : forget guest clip ≡ clip
  forget-stranger = ap (λ b. if b then record clip { asked = None } else clip) stranger

module _ (setup : Setup) (guest : ℕ) where
  -- the clipboard is that of a state
  abbrev Leaves : DeskState → DeskState → Type 0
  Leaves desk after = after.scene.clip ≡ desk.scene.clip

  -- one unit
  unit-leaves : (unit : StreamUnit) (desk : DeskState) → is_asked desk.scene.clip.asked guest ≡ false → Leaves desk (take_unit setup guest unit desk).desk
  unit-leaves unit desk stranger = by_end (session_of guest desk).ended
    where
      by_cause : (e : Effect) (cause : Option Cause) → Leaves desk (unit_done setup guest unit e cause desk).desk
      by_cause e None =
          settle-clip (sizes_of setup) (unit_told (sizes_of setup).clip_limit guest unit e desk.scene).scene
          ∙ unit-stranger (sizes_of setup).clip_limit guest desk.scene.clip stranger unit
      by_cause e (Some cause) =
          settle-clip (sizes_of setup) (end_told guest (Took unit) cause desk.scene).scene
          ∙ forget-stranger (sizes_of setup).clip_limit guest desk.scene.clip stranger

      by_end : (ended : Option Cause) → Leaves desk (unit_of_open setup guest unit ended desk).desk
      by_end None = by_cause (unit_effect setup guest unit desk) (unit_effect setup guest unit desk).cause
      by_end (Some cause) = refl

  -- units
  units-leave : (units : List StreamUnit) (desk : DeskState) → is_asked desk.scene.clip.asked guest ≡ false → Leaves desk (take_units setup guest units desk).desk
  units-leave [] desk stranger = refl
  units-leave (unit ∷ units) desk stranger =
      let first : Leaves desk (take_unit setup guest unit desk).desk = unit-leaves unit desk stranger in
      units-leave units (take_unit setup guest unit desk).desk (ap (λ (c : Clip). is_asked c.asked guest) first ∙ stranger) ∙ first

  -- the bytes that wait
  rest-scene : (rest : List ℕ) (ended : Option Cause) (desk : DeskState) → (rest_of_open guest rest ended desk).scene ≡ desk.scene
  rest-scene rest None desk = refl
  rest-scene rest (Some cause) desk = refl

  -- a piece of bytes
  bytes-leave : (piece : List ℕ) (ended : Option Cause) (desk : DeskState) → is_asked desk.scene.clip.asked guest ≡ false
      → Leaves desk (bytes_of_open setup guest piece ended desk).desk
  bytes-leave piece (Some cause) desk stranger = refl
  bytes-leave piece None desk stranger =
      let c : Cut = cut (session_of guest desk).greeted ((session_of guest desk).rest ++ piece) in
      let kept : (with_rest guest c.rest desk).scene ≡ desk.scene = rest-scene c.rest (session_of guest desk).ended desk in
      units-leave c.units (with_rest guest c.rest desk) (ap (λ (s : Scene). is_asked s.clip.asked guest) kept ∙ stranger) ∙ ap (λ (s : Scene). s.clip) kept

  -- an end
  end-leaves : (input : Input) (cause : Cause) (ended : Option Cause) (desk : DeskState) → is_asked desk.scene.clip.asked guest ≡ false
      → Leaves desk (end_of_open setup guest input cause ended desk).desk
  end-leaves input cause (Some c) desk stranger = refl
  end-leaves input cause None desk stranger =
      settle-clip (sizes_of setup) (end_told guest input cause desk.scene).scene
      ∙ forget-stranger (sizes_of setup).clip_limit guest desk.scene.clip stranger

-- the guest of an item
same-guest : (guest g : ℕ) (clip : Clip) → (g == guest) ≡ true → is_asked clip.asked guest ≡ false → is_asked clip.asked g ≡ false
same-guest guest g clip own stranger = ap (λ n. is_asked clip.asked n) (eqb-true g guest own) ∙ stranger

pub strangers-leave_it : StrangersLeaveIt
strangers-leave_it setup (item.Bytes g) piece guest state own stranger =
    bytes-leave setup g piece (session_of g state).ended (count_item state) (same-guest guest g state.scene.clip own stranger)
strangers-leave_it setup (item.Closed g) piece guest state own stranger =
    end-leaves setup g Closing (StreamEnded 0 0) (session_of g state).ended (count_item state) (same-guest guest g state.scene.clip own stranger)
strangers-leave_it setup (item.Lost g) piece guest state own stranger =
    end-leaves setup g Losing (LinkFailed 0 0) (session_of g state).ended (count_item state) (same-guest guest g state.scene.clip own stranger)
strangers-leave_it setup (item.Store g delay page offset) piece guest state own stranger =
    ap (λ (s : Scene). s.clip) (stored-scene g delay page offset piece (session_of g state).ended (count_item state))
strangers-leave_it setup i piece guest state own stranger = absurd (cc)

-- ---- data of the guest that was asked

-- the clipboard of one that was asked, by whether its data is short enough
abbrev kept_if : Bool → ℕ → List ℕ → Clip
kept_if b guest bytes = record { asked = None; content = if b then Some (record { source = guest; bytes = bytes }) else None }

-- data, by whether its guest was asked and whether it is short enough
abbrev given_if : Bool → Bool → ℕ → List ℕ → Clip → Clip
given_if asked short guest bytes clip = if asked then kept_if short guest bytes else clip

pub data-is_held : DataIsHeld
data-is_held limit guest bytes clip asked short =
    ap (λ b. given_if b (nat_le (length bytes) limit) guest bytes clip) asked
    ∙ ap (λ b. kept_if b guest bytes) (le-leb (length bytes) limit short)

pub long_data-is_lost : LongDataIsLost
long_data-is_lost limit guest bytes clip asked long =
    ap (λ b. given_if b (nat_le (length bytes) limit) guest bytes clip) asked
    ∙ ap (λ b. kept_if b guest bytes) (lt-leb (length bytes) limit long)

pub long_data-is_alike : LongDataIsAlike
long_data-is_alike limit guest bytes others clip long long' =
    ap (λ b. given_if (is_asked clip.asked guest) b guest bytes clip) (lt-leb (length bytes) limit long)
    ∙ sym (ap (λ b. given_if (is_asked clip.asked guest) b guest others clip) (lt-leb (length others) limit long'))
