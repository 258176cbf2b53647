-- Small hand-computed runs of the clipboard, which the definitions have to give.
use Rattle.std.specs.Prelude.{ℕ, ◌≡◌, true, false, List, [], ◌∷◌, ◌++◌, length, Some, None}
use Rattle.gui_wire.specs.Words.{words}
use Rattle.gui_wire.specs.AgentMessages as agent
use Rattle.gui_wire.specs.AgentMessages.{spelling}
use Rattle.desk_laws.specs.declared.item.Item.TheVariants as item
use Rattle.desk_laws.specs.declared.cause.Cause.TheVariants as cause
use Rattle.desk_laws.specs.Pairs.{clip_limit}
use Rattle.desk_laws.specs.Items.{FedItem}
use Rattle.desk_laws.specs.Clipboard.{Clip, empty_clip}
use Rattle.desk_laws.specs.Scene.{Post, Reply, Ended}
use Rattle.run_laws.specs.WorkedRows.{bytes, just, focused}
use Rattle.run_laws.specs.WorkedGuests.{green_bytes, outcome_of, both_greeted}
use Rattle.run_laws.specs.WorkedInput.{moved_to, pressed, key, clip_asked, entered_at, pressed_at, released_at, focus_passes, wide_desktop, both_apart, told_apart}

-- the copy chord
unfoldable pub copy : FedItem
copy = key true 54 5

-- the paste chord
unfoldable pub paste : FedItem
paste = key true 55 5

-- what red copied, `abc`
unfoldable pub red_text : List ℕ
red_text = 97 ∷ 98 ∷ 99 ∷ []

-- what green copied, `x`
unfoldable pub green_text : List ℕ
green_text = 120 ∷ []

-- red sends it
unfoldable pub red_data : FedItem
red_data = bytes (spelling 1 (agent.ClipData red_text))

-- green sends it
unfoldable pub green_data : FedItem
green_data = green_bytes (spelling 1 (agent.ClipData green_text))

-- a text is pasted into window 1 of a guest
unfoldable pub clip_given : (guest : ℕ) → List ℕ → Post
clip_given guest text = Reply guest (words (140 ∷ 1 ∷ length text ∷ []) ++ text)

-- red copies, a click gives green the focus, and green is given the text, once. Neither is told of a chord's key or of its
-- release
abbrev pub CopiedAndPasted : Type 0
CopiedAndPasted =
    told_apart (copy ∷ key false 54 5 ∷ red_data ∷ moved_to 11 3 ∷ pressed ∷ just (item.Press false 1 256)
    ∷ paste ∷ key false 55 5 ∷ paste ∷ [])
    ≡ both_greeted 20 10 ++ clip_asked 0 ∷ entered_at 1 1 1 0 ∷ pressed_at 1 1 1 ∷ focus_passes 0 1
    ++ released_at 1 1 1 256 ∷ clip_given 1 red_text ∷ []

-- green, which wasn't asked, sends data before red does, and after: nothing is pasted, and then what red sent
abbrev pub DataOfAnother : Type 0
DataOfAnother = told_apart (copy ∷ green_data ∷ paste ∷ red_data ∷ green_data ∷ paste ∷ [])
    ≡ both_greeted 20 10 ++ clip_asked 0 ∷ clip_given 0 red_text ∷ []

-- red answers and ends: green, which gains the focus, is still given the text
abbrev pub EndedAfterItsAnswer : Type 0
EndedAfterItsAnswer = told_apart (copy ∷ red_data ∷ just (item.Closed 0) ∷ paste ∷ [])
    ≡ both_greeted 20 10 ++ clip_asked 0 ∷ Ended 0 (cause.StreamEnded 0 0) ∷ focused 1 1 ++ clip_given 1 red_text ∷ []

-- the clipboard once both windows are there and some items came
unfoldable pub clip_behind : List FedItem → Clip
clip_behind items = (outcome_of wide_desktop (both_apart ++ items)).desk.scene.clip

-- red is asked, and ends before it answers: nobody is asked any more. The end of green leaves red asked
abbrev pub EndedBeforeItsAnswer : Type 0
EndedBeforeItsAnswer =
    (clip_behind (copy ∷ just (item.Closed 0) ∷ []) ≡ empty_clip)
    × (clip_behind (copy ∷ just (item.Closed 1) ∷ []) ≡ record { asked = Some 0; content = None })

-- red is asked, and then green: what red sends comes too late
abbrev pub AskedAgain : Type 0
AskedAgain = told_apart (copy ∷ just item.Next ∷ copy ∷ red_data ∷ paste ∷ green_data ∷ paste ∷ [])
    ≡ both_greeted 20 10 ++ clip_asked 0 ∷ focus_passes 0 1 ++ clip_asked 1 ∷ clip_given 1 green_text ∷ []

-- what both are told where no paste goes from red to green
unfoldable pub told_denied : List FedItem → List Post
told_denied items =
    (outcome_of (record wide_desktop { denied = record { from = 0; to = 1 } ∷ [] }) (both_apart ++ items)).posts

-- red's text isn't given to green, and is held still: red is given it, once
abbrev pub DeniedPair : Type 0
DeniedPair = told_denied (copy ∷ red_data ∷ just item.Next ∷ paste ∷ just item.Next ∷ paste ∷ paste ∷ [])
    ≡ both_greeted 20 10 ++ clip_asked 0 ∷ focus_passes 0 1 ++ focus_passes 1 0 ++ clip_given 0 red_text ∷ []

-- green's text is given to red: the pair is denied one way
abbrev pub OtherWayRound : Type 0
OtherWayRound = told_denied (just item.Next ∷ copy ∷ green_data ∷ just item.Next ∷ paste ∷ [])
    ≡ both_greeted 20 10 ++ focus_passes 0 1 ++ clip_asked 1 ∷ focus_passes 1 0 ++ clip_given 0 green_text ∷ []

-- how much the two revisions hold
abbrev pub LimitOfRevisions : Type 0
LimitOfRevisions = (clip_limit 1 ≡ 65000) × (clip_limit 2 ≡ 256000)
