-- Small hand-computed runs over several outputs, and setups that break the rules of outputs and of the clipboard; the
-- definitions have to give them.
use Rattle.std.specs.Prelude.{ℕ, ◌≡◌, ◌^◌, ◌-◌, Bool, true, false, List, [], ◌∷◌, ◌++◌, map, replicate, Some, None, pos}
use Rattle.gui_num.specs.declared.Rect.{Rect}
use Rattle.gui_wire.specs.Words.{words}
use Rattle.gui_wire.specs.AgentMessages as agent
use Rattle.gui_wire.specs.AgentMessages.{spelling}
use Rattle.desk_laws.specs.declared.setup.Setup.{Setup}
use Rattle.desk_laws.specs.declared.setup.Pair.{Pair}
use Rattle.desk_laws.specs.declared.item.Item.TheVariants as item
use Rattle.desk_laws.specs.Items.{FedItem}
use Rattle.desk_laws.specs.Rules.{first_broken}
use Rattle.desk_laws.specs.Scene.{Post, Reply, Picture}
use Rattle.run_laws.specs.WorkedRows.{bytes, just, version, focused}
use Rattle.run_laws.specs.WorkedGuests.{shared_desktop, desktop_of, mapped_at, outcome_of, greeting_to, none, red_label, grey}
use Rattle.run_laws.specs.WorkedInput.{moved_to, entered_at, configured_to}

-- an output from a column on, as high as the plane
unfoldable pub output_from : (x width height : ℕ) → Rect
output_from x width height = record { x = pos x; y = pos 0; w = width; h = height }

-- ---- two outputs with two columns between them that are shown in none

-- a plane of 12 by 6 pixels, of which columns 0 to 4 and 7 to 11 are shown
unfoldable pub parted_desktop : Setup
parted_desktop = record (desktop_of 12 6 90) { outputs = output_from 0 5 6 ∷ output_from 7 5 6 ∷ [] }

-- what is posted once red's window of 8 by 2 is mapped at (2, 2), and by some items behind it
unfoldable pub told_parted : List FedItem → List Post
told_parted items = (outcome_of parted_desktop (bytes (version ++ mapped_at 1 2 2 8 2 0) ∷ items)).posts

-- the columns 0 to 4: the left part of the window
unfoldable pub left_part : List ℕ
left_part =
    replicate 5 none
    ++ none ∷ replicate 4 red_label
    ++ none ∷ red_label ∷ replicate 3 grey
    ++ none ∷ red_label ∷ replicate 3 grey
    ++ none ∷ replicate 4 red_label
    ++ replicate 5 none

-- the columns 7 to 11: its right part
unfoldable pub right_part : List ℕ
right_part =
    replicate 5 none
    ++ replicate 4 red_label ++ none
    ∷ replicate 3 grey ++ red_label ∷ none
    ∷ replicate 3 grey ++ red_label ∷ none
    ∷ replicate 4 red_label ++ none
    ∷ replicate 5 none

-- a picture of each output
abbrev pub PicturesOfOutputs : Type 0
PicturesOfOutputs = told_parted (just item.Snap ∷ [])
    ≡ greeting_to 0 12 6 ++ focused 0 1 ++ Picture 5 6 left_part ∷ Picture 5 6 right_part ∷ []

-- the pointer goes to column 5 of the window's pixels, which is in no output, and then to column 4
abbrev pub PointerBetweenOutputs : Type 0
PointerBetweenOutputs = told_parted (moved_to 5 2 ∷ moved_to 4 2 ∷ [])
    ≡ greeting_to 0 12 6 ++ focused 0 1 ++ entered_at 0 2 0 1 ∷ []

-- ---- two outputs side by side

-- a plane of 40 by 10 pixels, of which each output shows a half, and the share of override windows in percent
unfoldable pub halved_desktop : (percent : ℕ) → Setup
halved_desktop percent = record (desktop_of 40 10 percent) { outputs = output_from 0 20 10 ∷ output_from 20 20 10 ∷ [] }

-- what red is told by some bytes where override windows may take 90 percent
unfoldable pub told_halved : List ℕ → List Post
told_halved piece = (outcome_of (halved_desktop 90) (bytes (version ++ piece) ∷ [])).posts

-- the answers to the version: the size of the plane, and its two KiB
unfoldable pub halved_greeting : List Post
halved_greeting = Reply 0 (7 ∷ 0 ∷ 1 ∷ 0 ∷ []) ∷ Reply 0 (words (40 ∷ 10 ∷ 24 ∷ 2 ∷ [])) ∷ []

-- red's override window has this place, 4 by 2
unfoldable pub placed_at : (x y : ℕ) → Post
placed_at x y = Reply 0 (words (134 ∷ 1 ∷ 20 ∷ x ∷ y ∷ 4 ∷ 2 ∷ 1 ∷ []))

-- one at (38, 8) is moved into the second output, which has its corner
abbrev pub OverrideInTheSecond : Type 0
OverrideInTheSecond = told_halved (mapped_at 1 38 8 4 2 1) ≡ halved_greeting ++ placed_at 35 7 ∷ []

-- one at (38, -3), whose corner is in no output, is moved into the first
abbrev pub OverrideInNone : Type 0
OverrideInNone = told_halved (mapped_at 1 38 (2 ^ 32 - 3) 4 2 1) ≡ halved_greeting ++ placed_at 15 1 ∷ []

-- a window of 4 by 4 at (22, 2) that goes full-screen gets the second output less the border
abbrev pub FullScreenInTheSecond : Type 0
FullScreenInTheSecond = told_halved (mapped_at 1 22 2 4 4 0 ++ spelling 1 (agent.Flags 1 0))
    ≡ halved_greeting ++ focused 0 1 ++ configured_to 0 21 1 18 8 ∷ []

-- whether red's window is an override window, where such may take half of an output, which is 100 pixels
abbrev pub granted_half : List ℕ → List Bool
granted_half piece = map (λ row. row.over) (outcome_of (halved_desktop 50) (bytes (version ++ piece) ∷ [])).desk.scene.rows

-- one of 8 by 8, with its border 100 pixels, is granted; one of 10 by 8, with its border 120, is not, though half of the
-- plane has 200
abbrev pub ShareOfAnOutput : Type 0
ShareOfAnOutput = (granted_half (mapped_at 1 22 2 8 8 1) ≡ true ∷ []) × (granted_half (mapped_at 1 22 2 10 8 1) ≡ false ∷ [])

-- ---- rules

-- a setup of 12 by 6 pixels for two guests with these outputs, this revision of the clipboard and these denied pairs
unfoldable pub ruled : List Rect → ℕ → List Pair → Setup
ruled outputs clip denied = record shared_desktop { width = 12; outputs = outputs; clip = clip; denied = denied }

-- two outputs apart
unfoldable pub apart : List Rect
apart = output_from 0 5 6 ∷ output_from 7 5 6 ∷ []

-- a pair of guests
unfoldable pub pair : (from to : ℕ) → Pair
pair from to = record { from = from; to = to }

-- outputs: none, one wider than the plane, two that share column 4
abbrev pub OutputsBreakRules : Type 0
OutputsBreakRules =
    (first_broken (ruled [] 1 []) ≡ Some 17)
    × ((first_broken (ruled (output_from 0 13 6 ∷ []) 1 []) ≡ Some 18)
    × (first_broken (ruled (output_from 0 5 6 ∷ output_from 4 5 6 ∷ []) 1 []) ≡ Some 19))

-- the clipboard: a third revision, a guest that may not paste its own, and pairs that don't rise
abbrev pub ClipboardBreaksRules : Type 0
ClipboardBreaksRules =
    (first_broken (ruled apart 3 []) ≡ Some 20)
    × ((first_broken (ruled apart 1 (pair 0 0 ∷ [])) ≡ Some 21)
    × (first_broken (ruled apart 1 (pair 1 0 ∷ pair 0 1 ∷ [])) ≡ Some 22))

-- two outputs apart, the second revision, and no paste either way
abbrev pub NoRuleBroken : Type 0
NoRuleBroken = first_broken (ruled apart 2 (pair 0 1 ∷ pair 1 0 ∷ [])) ≡ None
