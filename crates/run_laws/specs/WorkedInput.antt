-- Small hand-computed runs of what the user does, which the definitions have to give.
use Rattle.std.specs.Prelude.{ℕ, ◌≡◌, ◌^◌, ◌-◌, Bool, true, false, List, [], ◌∷◌, ◌++◌, replicate, pos, negsuc}
use Rattle.gui_wire.specs.Words.{words}
use Rattle.gui_wire.specs.AgentMessages as agent
use Rattle.gui_wire.specs.AgentMessages.{spelling}
use Rattle.desk_laws.specs.declared.setup.Setup.{Setup}
use Rattle.desk_laws.specs.declared.item.Item.TheVariants as item
use Rattle.desk_laws.specs.Items.{FedItem}
use Rattle.desk_laws.specs.Scene.{Post, Reply, Picture}
use Rattle.run_laws.specs.WorkedRows.{whole, bytes, just, version, window_at, posts, greeting, focus_out, focused, ring}
use Rattle.run_laws.specs.WorkedGuests.{shared_desktop, green_bytes, mapped_at, outcome_of, two_mapped, both_greeted, none, red_label, green_label, grey}

-- ---- what the user does

-- the pointer moves to a pixel, with no key and no button down
unfoldable pub moved_to : (x y : ℕ) → FedItem
moved_to x y = just (item.Move (pos x) (pos y) 0)

-- button 1 goes down
unfoldable pub pressed : FedItem
pressed = just (item.Press true 1 0)

-- a key goes down or up while some modifiers are down
unfoldable pub key : (down : Bool) (code state : ℕ) → FedItem
key down code state = just (item.Key down code state)

-- ---- what window 1 of a guest is told

-- the pointer entered, at a pixel of the window; `focus` is 1 where the window has the focus
unfoldable pub entered_at : (guest x y focus : ℕ) → Post
entered_at guest x y focus = Reply guest (words (127 ∷ 1 ∷ 28 ∷ 7 ∷ x ∷ y ∷ 0 ∷ 0 ∷ 3 ∷ focus ∷ []))

-- the pointer left
unfoldable pub left_at : (guest x y focus : ℕ) → Post
left_at guest x y focus = Reply guest (words (127 ∷ 1 ∷ 28 ∷ 8 ∷ x ∷ y ∷ 0 ∷ 0 ∷ 3 ∷ focus ∷ []))

-- the pointer moved
unfoldable pub motion_at : (guest x y state : ℕ) → Post
motion_at guest x y state = Reply guest (words (126 ∷ 1 ∷ 16 ∷ x ∷ y ∷ state ∷ 0 ∷ []))

-- button 1 was pressed
unfoldable pub pressed_at : (guest x y : ℕ) → Post
pressed_at guest x y = Reply guest (words (125 ∷ 1 ∷ 20 ∷ 4 ∷ x ∷ y ∷ 0 ∷ 1 ∷ []))

-- button 1 was released
unfoldable pub released_at : (guest x y state : ℕ) → Post
released_at guest x y state = Reply guest (words (125 ∷ 1 ∷ 20 ∷ 5 ∷ x ∷ y ∷ state ∷ 1 ∷ []))

-- a key was pressed
unfoldable pub key_pressed : (guest state code : ℕ) → Post
key_pressed guest state code = Reply guest (words (124 ∷ 1 ∷ 20 ∷ 2 ∷ 0 ∷ 0 ∷ state ∷ code ∷ []))

-- a key was released
unfoldable pub key_released : (guest state code : ℕ) → Post
key_released guest state code = Reply guest (words (124 ∷ 1 ∷ 20 ∷ 3 ∷ 0 ∷ 0 ∷ state ∷ code ∷ []))

-- its guest's clipboard is asked for
unfoldable pub clip_asked : (guest : ℕ) → Post
clip_asked guest = Reply guest (words (139 ∷ 1 ∷ 0 ∷ []))

-- it has another place
unfoldable pub configured_to : (guest x y width height : ℕ) → Post
configured_to guest x y width height = Reply guest (words (134 ∷ 1 ∷ 20 ∷ x ∷ y ∷ width ∷ height ∷ 0 ∷ []))

-- the focus goes from window 1 of one guest to window 1 of another
unfoldable pub focus_passes : (old new : ℕ) → List Post
focus_passes old new = focus_out old 1 ∷ focused new 1

-- ---- the runs

-- the two windows on 10 by 6 pixels, red's above green's
unfoldable pub red_above : List ℕ
red_above =
    replicate 5 red_label ++ replicate 5 none
    ++ red_label ∷ grey ∷ grey ∷ grey ∷ red_label ∷ green_label ∷ green_label ∷ green_label ∷ replicate 2 none
    ++ red_label ∷ grey ∷ grey ∷ grey ∷ red_label ∷ grey ∷ grey ∷ green_label ∷ replicate 2 none
    ++ replicate 5 red_label ++ grey ∷ grey ∷ green_label ∷ replicate 2 none
    ++ replicate 3 none ++ replicate 5 green_label ++ replicate 2 none
    ++ replicate 10 none

-- what the two windows' guests are told by some items behind their making, on 10 by 6 pixels where the windows overlap
unfoldable pub told_by : List FedItem → List Post
told_by items = (outcome_of shared_desktop (two_mapped ++ items)).posts

-- a click into red's window, which is below green's, raises it
abbrev pub ClickRaises : Type 0
ClickRaises = told_by (moved_to 1 1 ∷ pressed ∷ just item.Snap ∷ [])
    ≡ both_greeted 10 6 ++ entered_at 0 0 0 1 ∷ pressed_at 0 0 0 ∷ Picture 10 6 red_above ∷ []

-- a desktop of 20 by 10 pixels with the guests red and green
unfoldable pub wide_desktop : Setup
wide_desktop = record shared_desktop { width = 20; height = 10; outputs = whole 20 10 ∷ [] }

-- red's window at (2, 2) and green's at (10, 2), both 4 by 4
unfoldable pub both_apart : List FedItem
both_apart = bytes (version ++ mapped_at 1 2 2 4 4 0) ∷ green_bytes (version ++ mapped_at 1 10 2 4 4 0) ∷ []

-- what both are told by some items behind them
unfoldable pub told_apart : List FedItem → List Post
told_apart items = (outcome_of wide_desktop (both_apart ++ items)).posts

-- a button held from red's window into green's: red is told all of it, and green that the pointer entered once it is released
abbrev pub GrabAcrossWindows : Type 0
GrabAcrossWindows =
    told_apart (moved_to 3 3 ∷ pressed ∷ just (item.Move (pos 11) (pos 3) 256) ∷ just (item.Press false 1 256) ∷ [])
    ≡ both_greeted 20 10 ++ entered_at 0 1 1 1 ∷ pressed_at 0 1 1 ∷ motion_at 0 9 1 256 ∷ released_at 0 9 1 256
    ∷ left_at 0 9 1 1 ∷ entered_at 1 1 1 0 ∷ []

-- a key goes down, and the focus to green by a click: the key's release is told nobody
abbrev pub ReleaseAfterFocusChange : Type 0
ReleaseAfterFocusChange =
    told_apart (key true 38 0 ∷ moved_to 11 3 ∷ pressed ∷ just (item.Press false 1 256) ∷ key false 38 0 ∷ [])
    ≡ both_greeted 20 10 ++ key_pressed 0 0 38 ∷ entered_at 1 1 1 0 ∷ pressed_at 1 1 1 ∷ focus_passes 0 1
    ++ released_at 1 1 1 256 ∷ []

-- the next window twice: green has the focus, and then red again, whose window is now above
abbrev pub NextWindow : Type 0
NextWindow = told_by (just item.Next ∷ just item.Next ∷ just item.Snap ∷ [])
    ≡ both_greeted 10 6 ++ focus_passes 0 1 ++ focus_passes 1 0 ++ Picture 10 6 red_above ∷ []

-- red minimizes its window, which is then restored: on top, with the focus. Where nothing is hidden nothing is restored
abbrev pub Restored : Type 0
Restored =
    told_by (just item.Restore ∷ bytes (spelling 1 (agent.Flags 4 0)) ∷ just item.Restore ∷ just item.Snap ∷ [])
    ≡ both_greeted 10 6 ++ focus_passes 0 1 ++ focus_passes 1 0 ++ Picture 10 6 red_above ∷ []

-- the focused window is asked to close, and stays; without a focus nobody is asked
abbrev pub AskedToClose : Type 0
AskedToClose = posts (just item.Close ∷ bytes (window_at 2 2) ∷ just item.Close ∷ just item.Snap ∷ [])
    ≡ greeting ++ focused 0 1 ++ Reply 0 (words (137 ∷ 1 ∷ 0 ∷ [])) ∷ Picture 8 6 ring ∷ []

-- the focused window gets another size and another place, each brought into range
abbrev pub Resized : Type 0
Resized = posts (bytes (window_at 2 2) ∷ just (item.SizeTo (pos 0) (pos 5)) ∷ just (item.MoveTo (negsuc 39999) (pos 3)) ∷ [])
    ≡ greeting ++ focused 0 1 ++ configured_to 0 2 2 1 5 ∷ configured_to 0 (2 ^ 32 - 32768) 3 1 5 ∷ []

-- there is no pointer before it is on the desktop, and it stays where it was when it would leave it
abbrev pub OutsideTheDesktop : Type 0
OutsideTheDesktop =
    posts (bytes (window_at 2 2) ∷ moved_to 8 2 ∷ pressed ∷ moved_to 3 2 ∷ moved_to 3 6 ∷ just (item.Move (negsuc 0) (pos 2) 0) ∷ pressed ∷ [])
    ≡ greeting ++ focused 0 1 ++ entered_at 0 1 0 1 ∷ pressed_at 0 1 0 ∷ []

-- with Shift and Control down the keys 54 and 55 are chords: no guest is told of them, nor of their release, which wasn't
-- noted, and the first asks for the clipboard; with one of the two down they are keys
abbrev pub ChordsAreKept : Type 0
ChordsAreKept =
    posts (bytes (window_at 2 2) ∷ key true 54 5 ∷ key false 54 5 ∷ key true 55 5 ∷ key false 55 5
    ∷ key true 54 4 ∷ key false 54 0 ∷ key true 55 1 ∷ key false 55 5 ∷ [])
    ≡ greeting ++ focused 0 1 ++ clip_asked 0 ∷ key_pressed 0 4 54 ∷ key_released 0 0 54 ∷ key_pressed 0 1 55 ∷ key_released 0 5 55 ∷ []
