-- Small hand-computed runs of several guests, and of override and full-screen windows, which the definitions have to
-- give.
use Rattle.std.specs.Prelude.{ℕ, ◌≡◌, ◌^◌, ◌-◌, Bool, true, false, List, [], ◌∷◌, ◌++◌, map, replicate, pos}
use Rattle.gui_wire.specs.Words.{words}
use Rattle.gui_wire.specs.AgentMessages as agent
use Rattle.gui_wire.specs.AgentMessages.{spelling}
use Rattle.desk_laws.specs.declared.setup.Setup.{Setup}
use Rattle.desk_laws.specs.declared.setup.GuestSetup.{GuestSetup}
use Rattle.desk_laws.specs.declared.item.Item.TheVariants as item
use Rattle.desk_laws.specs.declared.cause.Cause.TheVariants as cause
use Rattle.desk_laws.specs.Items.{FedItem}
use Rattle.desk_laws.specs.Scene.{Post, Reply, Ended, Picture}
use Rattle.desk_laws.specs.State.{StepOutcome, opening}
use Rattle.desk_laws.specs.Steps.{run}
use Rattle.run_laws.specs.WorkedRows.{red, whole, small_desktop, bytes, just, version, focus_out, focused}

-- the guest `green`, whose label is green
unfoldable pub green : GuestSetup
green = record { colour = record { 0 = 0x00ff00 }; name = 103 ∷ 114 ∷ 101 ∷ 101 ∷ 110 ∷ [] }

-- a desktop of 10 by 6 pixels with the guests red and green
unfoldable pub shared_desktop : Setup
shared_desktop = record small_desktop { width = 10; guests = red ∷ green ∷ []; outputs = whole 10 6 ∷ [] }

-- red's desktop with other sides and another share of override windows, in percent
unfoldable pub desktop_of : ℕ → ℕ → ℕ → Setup
desktop_of width height percent =
    record small_desktop { width = width; height = height; percent = percent; outputs = whole width height ∷ [] }

-- a piece of green's bytes
unfoldable pub green_bytes : List ℕ → FedItem
green_bytes piece = record { item = item.Bytes 1; piece = piece }

-- a window made and mapped at a place with a size; `over` is 1 where it asks to be an override window
unfoldable pub mapped_at : (window x y width height over : ℕ) → List ℕ
mapped_at window x y width height over = spelling window (agent.Create x y width height 0 over) ++ spelling window (agent.Map 0 over)

-- what comes of some items over a setup
unfoldable pub outcome_of : Setup → List FedItem → StepOutcome
outcome_of setup items = run setup items (opening setup)

-- red's window at (1, 1) and then green's at (4, 2), both 3 by 2
unfoldable pub two_mapped : List FedItem
two_mapped = bytes (version ++ mapped_at 1 1 1 3 2 0) ∷ green_bytes (version ++ mapped_at 1 4 2 3 2 0) ∷ []

-- the answers to the version of one guest: the daemon's own, and the desktop's size with 24 bits and one KiB
unfoldable pub greeting_to : ℕ → (width height : ℕ) → List Post
greeting_to guest width height = Reply guest (7 ∷ 0 ∷ 1 ∷ 0 ∷ []) ∷ Reply guest (words (width ∷ height ∷ 24 ∷ 1 ∷ [])) ∷ []

-- what red and green are told while window 1 of each is made: red's is the first to be mapped, and keeps the focus
unfoldable pub both_greeted : (width height : ℕ) → List Post
both_greeted width height = greeting_to 0 width height ++ focused 0 1 ++ greeting_to 1 width height

-- the colours of the pictures below: background, red's label, green's label, and a content that was never read
unfoldable pub none : ℕ
none = 0

unfoldable pub red_label : ℕ
red_label = 0xff0000

unfoldable pub green_label : ℕ
green_label = 0x00ff00

unfoldable pub grey : ℕ
grey = 0x808080

-- red's window, and green's above it
unfoldable pub both_windows : List ℕ
both_windows =
    replicate 5 red_label ++ replicate 5 none
    ++ red_label ∷ grey ∷ grey ∷ replicate 5 green_label ++ replicate 2 none
    ++ red_label ∷ grey ∷ grey ∷ green_label ∷ grey ∷ grey ∷ grey ∷ green_label ∷ replicate 2 none
    ++ red_label ∷ red_label ∷ red_label ∷ green_label ∷ grey ∷ grey ∷ grey ∷ green_label ∷ replicate 2 none
    ++ replicate 3 none ++ replicate 5 green_label ++ replicate 2 none
    ++ replicate 10 none

-- green's window alone
unfoldable pub green_window : List ℕ
green_window =
    replicate 10 none
    ++ replicate 3 none ++ replicate 5 green_label ++ replicate 2 none
    ++ replicate 3 none ++ green_label ∷ grey ∷ grey ∷ grey ∷ green_label ∷ replicate 2 none
    ++ replicate 3 none ++ green_label ∷ grey ∷ grey ∷ grey ∷ green_label ∷ replicate 2 none
    ++ replicate 3 none ++ replicate 5 green_label ++ replicate 2 none
    ++ replicate 10 none

-- two windows of two guests, the later one above the other
abbrev pub TwoWindows : Type 0
TwoWindows = (outcome_of shared_desktop (two_mapped ++ just item.Snap ∷ [])).posts
    ≡ both_greeted 10 6 ++ Picture 10 6 both_windows ∷ []

-- red makes its window 1 again: red alone ends, and green's window 1 stays
abbrev pub OneGuestEnds : Type 0
OneGuestEnds = (outcome_of shared_desktop (two_mapped ++ bytes (spelling 1 (agent.Create 1 1 3 2 0 0)) ∷ just item.Snap ∷ [])).posts
    ≡ both_greeted 10 6 ++ Ended 0 (cause.WindowExists 1 0) ∷ focused 1 1 ++ Picture 10 6 green_window ∷ []

-- which of red's windows are override windows, on 20 by 20 pixels of which they may take a quarter
abbrev pub granted_of : List ℕ → List Bool
granted_of piece = map (λ row. row.over) (outcome_of (desktop_of 20 20 25) (bytes (version ++ piece) ∷ [])).desk.scene.rows

-- a window of 8 by 8, with its border 100 pixels, is granted; one of 8 by 9, with its border 110, is not
abbrev pub OverrideAreaLimit : Type 0
OverrideAreaLimit = (granted_of (mapped_at 1 0 0 8 8 1) ≡ true ∷ []) × (granted_of (mapped_at 1 0 0 8 9 1) ≡ false ∷ [])

-- windows of 64 and 30 pixels with their borders are granted, and a third one of 9 is not
abbrev pub OverrideAreasTogether : Type 0
OverrideAreasTogether =
    granted_of (mapped_at 1 0 0 6 6 1 ++ mapped_at 2 0 0 3 4 1 ++ mapped_at 3 0 0 1 1 1) ≡ true ∷ true ∷ false ∷ []

-- an override window of 4 by 2 at (18, -3) is moved inside, and told so
abbrev pub OverrideMovedInside : Type 0
OverrideMovedInside = (outcome_of (desktop_of 20 20 90) (bytes (version ++ mapped_at 1 18 (2 ^ 32 - 3) 4 2 1) ∷ [])).posts
    ≡ Reply 0 (7 ∷ 0 ∷ 1 ∷ 0 ∷ []) ∷ Reply 0 (words (20 ∷ 20 ∷ 24 ∷ 2 ∷ [])) ∷ Reply 0 (words (134 ∷ 1 ∷ 20 ∷ 15 ∷ 1 ∷ 4 ∷ 2 ∷ 1 ∷ [])) ∷ []

-- a window of 4 by 4 at (2, 2) on 20 by 10 pixels that goes full-screen, and is then as before by its flags
unfoldable pub made_full : List FedItem
made_full = bytes (version ++ mapped_at 1 2 2 4 4 0 ++ spelling 1 (agent.Flags 1 0)) ∷ bytes (spelling 1 (agent.Flags 0 1)) ∷ []

-- it gets the desktop less the border; nothing is told where the flag is cleared
abbrev pub FullScreenTold : Type 0
FullScreenTold = (outcome_of (desktop_of 20 10 90) made_full).posts
    ≡ greeting_to 0 20 10 ++ focused 0 1 ++ Reply 0 (words (134 ∷ 1 ∷ 20 ∷ 1 ∷ 1 ∷ 18 ∷ 8 ∷ 0 ∷ [])) ∷ []

-- and its place stays that
abbrev pub FullScreenStays : Type 0
FullScreenStays = map (λ row. row.place) (outcome_of (desktop_of 20 10 90) made_full).desk.scene.rows
    ≡ record { x = pos 1; y = pos 1; w = 18; h = 8 } ∷ []

-- red minimizes its window: green's alone is shown
abbrev pub MinimizedIsHidden : Type 0
MinimizedIsHidden = (outcome_of shared_desktop (two_mapped ++ bytes (spelling 1 (agent.Flags 4 0)) ∷ just item.Snap ∷ [])).posts
    ≡ both_greeted 10 6 ++ focus_out 0 1 ∷ focused 1 1 ++ Picture 10 6 green_window ∷ []
