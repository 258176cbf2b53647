-- When what the clipboard holds is pasted, and whose data the clipboard takes.
use Rattle.std.specs.Prelude.{◌≡◌, ℕ, ◌≤◌, ◌<◌, true, false, List, [], ◌∷◌, length, Some, None}
use Rattle.gui_wire.specs.AgentMessages.{ClipData}
use Rattle.desk_laws.specs.declared.row_id.RowId.{RowId}
use Rattle.desk_laws.specs.declared.setup.Setup.{Setup}
use Rattle.desk_laws.specs.declared.setup.Pair.{Pair}
use Rattle.desk_laws.specs.declared.item.Item.{Item}
use Rattle.desk_laws.specs.declared.item.Item.TheVariants.{Key}
use Rattle.desk_laws.specs.declared.input.GIn.TheVariants.{ClipGive}
use Rattle.desk_laws.specs.Pairs.{denies}
use Rattle.desk_laws.specs.Clipboard.{Clip, Content, empty_clip, is_asked, wiped}
use Rattle.desk_laws.specs.Scene.{Scene, Given, GuestInput, perform}
use Rattle.desk_laws.specs.State.{DeskState}
use Rattle.desk_laws.specs.Settle.{focus_now}
use Rattle.desk_laws.specs.Events.{route, is_chord}
use Rattle.desk_laws.specs.Steps.{step, clip_after}
use Rattle.desk_laws.specs.Endings.{is_item_of}

-- ---- pastes

-- a row has the focus, something is held, and the pair of its source and the row's guest isn't denied
pub record MayPaste (denied : List Pair) (scene : Scene) (id : RowId) (content : Content) : Type 0 where
  pub focus : focus_now scene ≡ Some id
  pub held : scene.clip.content ≡ Some content
  pub allowed : denies denied content.source id.guest ≡ false

-- the key of the paste chord goes down
abbrev pub paste_key : ℕ → Item
paste_key state = Key true 55 state

-- a content is given to a row
abbrev pub paste_to : RowId → Content → GuestInput
paste_to id content = record { guest = id.guest; input = Given (ClipGive id.window) content.bytes }

-- at this key these inputs are granted before focus and hover are told, and the step leaves this clipboard
pub record PasteKeyGives (setup : Setup) (state : ℕ) (desk : DeskState) (told : List GuestInput) (clip : Clip) : Type 0 where
  pub granted : (perform setup.denied (route setup (paste_key state) desk.scene) desk.scene).inputs ≡ told
  pub left : (step setup (paste_key state) [] desk).desk.scene.clip ≡ clip

-- at the chord what is held is given to the focus, and to nobody else, and is then held no longer
abbrev pub PastesToTheFocus : Type 0
PastesToTheFocus =
    (setup : Setup) (state : ℕ) (desk : DeskState) (id : RowId) (content : Content) → is_chord state ≡ true →
    MayPaste setup.denied desk.scene id content →
    PasteKeyGives setup state desk (paste_to id content ∷ []) (wiped desk.scene.clip)

-- where nothing may be pasted, nothing is granted, and the clipboard stays as it is
abbrev pub PastesNothingElse : Type 0
PastesNothingElse =
    (setup : Setup) (state : ℕ) (desk : DeskState) → is_chord state ≡ true →
    ((id : RowId) (content : Content) → MayPaste setup.denied desk.scene id content → ⊥) →
    PasteKeyGives setup state desk [] desk.scene.clip

-- ---- data

-- whatever comes of a guest that wasn't asked, the clipboard stays as it is
abbrev pub StrangersLeaveIt : Type 0
StrangersLeaveIt =
    (setup : Setup) (i : Item) (piece : List ℕ) (guest : ℕ) (state : DeskState) → is_item_of guest i ≡ true →
    is_asked state.scene.clip.asked guest ≡ false → (step setup i piece state).desk.scene.clip ≡ state.scene.clip

-- the clipboard after data of a guest
abbrev pub after_data : ℕ → ℕ → List ℕ → Clip → Clip
after_data limit guest bytes clip = clip_after limit guest (Some (ClipData bytes)) clip

-- data of the guest that was asked is held, with its source, where it isn't longer than the limit
abbrev pub DataIsHeld : Type 0
DataIsHeld =
    (limit guest : ℕ) (bytes : List ℕ) (clip : Clip) → is_asked clip.asked guest ≡ true → length bytes ≤ limit →
    after_data limit guest bytes clip ≡ record { asked = None; content = Some (record { source = guest; bytes = bytes }) }

-- longer data leaves no question and nothing that is held
abbrev pub LongDataIsLost : Type 0
LongDataIsLost =
    (limit guest : ℕ) (bytes : List ℕ) (clip : Clip) → is_asked clip.asked guest ≡ true → limit < length bytes →
    after_data limit guest bytes clip ≡ empty_clip

-- which bytes longer data has doesn't matter, whichever guest it is of
abbrev pub LongDataIsAlike : Type 0
LongDataIsAlike =
    (limit guest : ℕ) (bytes others : List ℕ) (clip : Clip) → limit < length bytes → limit < length others →
    after_data limit guest bytes clip ≡ after_data limit guest others clip
