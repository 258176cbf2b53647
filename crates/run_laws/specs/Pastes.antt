-- When the clipboard's bytes are handed out, and that nothing else depends on them.
use Rattle.std.specs.Prelude.{◌≡◌, ℕ, Bool, true, false, ◌&&◌, ◌==◌, if◌then◌else◌, List, [], ◌∷◌, filter, Option, Some, None, option_map}
use Rattle.desk_laws.specs.declared.row_id.RowId.{RowId}
use Rattle.desk_laws.specs.declared.setup.Setup.{Setup}
use Rattle.desk_laws.specs.declared.setup.Pair.{Pair}
use Rattle.desk_laws.specs.Pairs.{denies}
use Rattle.desk_laws.specs.declared.item.Item.{Item}
use Rattle.desk_laws.specs.declared.item.Item.TheVariants as item
use Rattle.desk_laws.specs.declared.input.GIn.{GIn}
use Rattle.desk_laws.specs.declared.input.GIn.TheVariants as g
use Rattle.desk_laws.specs.Clipboard.{Clip, Content}
use Rattle.desk_laws.specs.Scene.{Scene, Input, Took, Given, Closing, Losing, GuestInput}
use Rattle.desk_laws.specs.State.{DeskState, StepOutcome}
use Rattle.desk_laws.specs.Settle.{focus_now}
use Rattle.desk_laws.specs.Events.{is_chord}
use Rattle.desk_laws.specs.Steps.{step}

-- ---- when bytes are handed out

-- whether an input that is granted hands out the clipboard
abbrev pub is_give : GIn → Bool
is_give (g.ClipGive window) = true
is_give input = false

-- whether an input hands out the clipboard
abbrev pub is_paste : Input → Bool
is_paste (Took unit) = false
is_paste (Given input paste) = is_give input
is_paste Closing = false
is_paste Losing = false

-- the inputs that hand out the clipboard
abbrev pub pastes_in : List GuestInput → List GuestInput
pastes_in told = filter (λ t. is_paste t.input) told

-- whether an item is the paste chord
abbrev pub is_paste_chord : Item → Bool
is_paste_chord (item.Key down code state) = down && (is_chord state && code == 55)
is_paste_chord i = false

-- the held bytes for a focus, unless the pair of guests is denied
abbrev pub paste_for : List Pair → Option RowId → Option Content → List GuestInput
paste_for denied None content = []
paste_for denied (Some id) None = []
paste_for denied (Some id) (Some content) =
    if denies denied content.source id.guest then []
    else record { guest = id.guest; input = Given (g.ClipGive id.window) content.bytes } ∷ []

-- the held bytes for the focus, at a paste chord
abbrev pub pasted : List Pair → Item → Scene → List GuestInput
pasted denied i scene = if is_paste_chord i then paste_for denied (focus_now scene) scene.clip.content else []

-- the clipboard is handed out exactly at a paste chord while there are a focus, a content and no denied pair, and to the focus
abbrev pub PastesAreExact : Type 0
PastesAreExact =
    (setup : Setup) (i : Item) (piece : List ℕ) (state : DeskState) →
    pastes_in (step setup i piece state).inputs ≡ pasted setup.denied i state.scene

-- ---- nothing else depends on them

-- the clipboard without its bytes
abbrev pub emptied : Clip → Clip
emptied clip = record clip { content = option_map (λ (c : Content). record c { bytes = [] }) clip.content }

-- the state without the clipboard's bytes
abbrev pub without_bytes : DeskState → DeskState
without_bytes desk = record desk { scene = record desk.scene { clip = emptied desk.scene.clip } }

-- what came out, the same but for the clipboard's bytes in the state
abbrev pub without_bytes_out : StepOutcome → StepOutcome
without_bytes_out outcome = record outcome { desk = without_bytes outcome.desk }

-- two states that differ in the clipboard's bytes alone give the same posts, inputs and readings at every item
-- that doesn't hand them out, and differ afterwards at most in those bytes
abbrev pub BytesStayInTheClipboard : Type 0
BytesStayInTheClipboard =
    (setup : Setup) (i : Item) (piece : List ℕ) (one two : DeskState) → without_bytes one ≡ without_bytes two →
    pastes_in (step setup i piece one).inputs ≡ [] →
    without_bytes_out (step setup i piece one) ≡ without_bytes_out (step setup i piece two)
