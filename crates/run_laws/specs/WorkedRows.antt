-- Small hand-computed runs, which the definitions have to give.
use Rattle.std.specs.Prelude.{ℕ, ◌≡◌, ◌^◌, ◌-◌, List, [], ◌∷◌, ◌++◌, replicate, pos}
use Rattle.gui_num.specs.declared.Rect.{Rect}
use Rattle.gui_wire.specs.Words.{words}
use Rattle.gui_wire.specs.AgentMessages as agent
use Rattle.gui_wire.specs.AgentMessages.{spelling}
use Rattle.desk_laws.specs.declared.setup.Setup.{Setup}
use Rattle.desk_laws.specs.declared.setup.GuestSetup.{GuestSetup}
use Rattle.desk_laws.specs.declared.item.Item.{Item}
use Rattle.desk_laws.specs.declared.item.Item.TheVariants as item
use Rattle.desk_laws.specs.declared.cause.Cause.TheVariants as cause
use Rattle.desk_laws.specs.Items.{FedItem}
use Rattle.desk_laws.specs.Scene.{Post, Reply, Ended, Picture, Summary}
use Rattle.desk_laws.specs.State.{opening}
use Rattle.desk_laws.specs.Steps.{run}

-- the guest `red`, whose label is red
unfoldable pub red : GuestSetup
red = record { colour = record { 0 = 0xff0000 }; name = 114 ∷ 101 ∷ 100 ∷ [] }

-- all pixels of a plane with these sides
unfoldable pub whole : (width height : ℕ) → Rect
whole width height = record { x = pos 0; y = pos 0; w = width; h = height }

-- a black desktop of 8 by 6 pixels with borders of one pixel, all of it one output
unfoldable pub small_desktop : Setup
small_desktop = record {
  width = 8;
  height = 6;
  border = 1;
  pages = 8192;
  tiles = 4096;
  percent = 90;
  background = record { 0 = 0 };
  guests = red ∷ [];
  outputs = whole 8 6 ∷ [];
  clip = 1;
  denied = [];
}

-- a piece of red's bytes
unfoldable pub bytes : List ℕ → FedItem
bytes piece = record { item = item.Bytes 0; piece = piece }

-- an item without bytes
unfoldable pub just : Item → FedItem
just i = record { item = i; piece = [] }

-- the version 1.7 of an agent
unfoldable pub version : List ℕ
version = 7 ∷ 0 ∷ 1 ∷ 0 ∷ []

-- the version, and window 1 made and mapped at a place, two pixels wide and high
unfoldable pub window_at : ℕ → ℕ → List ℕ
window_at x y = version ++ spelling 1 (agent.Create x y 2 2 0 0) ++ spelling 1 (agent.Map 0 0)

-- what a run over the small desktop posts
unfoldable pub posts : List FedItem → List Post
posts items = (run small_desktop items (opening small_desktop)).posts

-- the answers to the version: the daemon's own, and the desktop's size with 24 bits and one KiB
unfoldable pub greeting : List Post
greeting = Reply 0 (7 ∷ 0 ∷ 1 ∷ 0 ∷ []) ∷ Reply 0 (words (8 ∷ 6 ∷ 24 ∷ 1 ∷ [])) ∷ []

-- a window of a guest gained the focus
unfoldable pub focus_in : (guest window : ℕ) → Post
focus_in guest window = Reply guest (words (128 ∷ window ∷ 12 ∷ 9 ∷ 0 ∷ 3 ∷ []))

-- a window of a guest lost the focus
unfoldable pub focus_out : (guest window : ℕ) → Post
focus_out guest window = Reply guest (words (128 ∷ window ∷ 12 ∷ 10 ∷ 0 ∷ 3 ∷ []))

-- a guest is told of a keyboard on which no key is down
unfoldable pub keyboard : (guest : ℕ) → Post
keyboard guest = Reply guest (words (142 ∷ 0 ∷ 32 ∷ []) ++ replicate 32 0)

-- what a guest is told where a window of it gains the focus
unfoldable pub focused : (guest window : ℕ) → List Post
focused guest window = focus_in guest window ∷ keyboard guest ∷ []

-- the colours of the rows below: background, red's label, and a content that was never read
unfoldable pub background : ℕ
background = 0

unfoldable pub label : ℕ
label = 0xff0000

unfoldable pub blank : ℕ
blank = 0x808080

-- the picture of one window at (2, 2): its ring of twelve pixels in the label colour around four that were never read
unfoldable pub ring : List ℕ
ring =
    background ∷ background ∷ background ∷ background ∷ background ∷ background ∷ background ∷ background
    ∷ background ∷ label ∷ label ∷ label ∷ label ∷ background ∷ background ∷ background
    ∷ background ∷ label ∷ blank ∷ blank ∷ label ∷ background ∷ background ∷ background
    ∷ background ∷ label ∷ blank ∷ blank ∷ label ∷ background ∷ background ∷ background
    ∷ background ∷ label ∷ label ∷ label ∷ label ∷ background ∷ background ∷ background
    ∷ background ∷ background ∷ background ∷ background ∷ background ∷ background ∷ background ∷ background ∷ []

-- the empty desktop: a black picture, and two items
abbrev pub EmptyDesktop : Type 0
EmptyDesktop = posts (just item.Snap ∷ just item.End ∷ [])
    ≡ Picture 8 6 (replicate 48 0) ∷ Summary (record { items = 2; messages = 0; glances = 0 }) ∷ []

-- one window
abbrev pub OneWindow : Type 0
OneWindow = posts (bytes (window_at 2 2) ∷ just item.Snap ∷ just item.End ∷ [])
    ≡ greeting ++ focused 0 1 ++ Picture 8 6 ring ∷ Summary (record { items = 3; messages = 2; glances = 0 }) ∷ []

-- a window off the corner, at (-1, -1): one pixel of content at (0, 0), three of the ring around it
abbrev pub WindowOffTheCorner : Type 0
WindowOffTheCorner = posts (bytes (window_at (2 ^ 32 - 1) (2 ^ 32 - 1)) ∷ just item.Snap ∷ [])
    ≡ greeting ++ focused 0 1 ++ Picture 8 6 ((blank ∷ label ∷ replicate 6 0) ++ (label ∷ label ∷ replicate 6 0) ++ replicate 32 0) ∷ []

-- a window created twice: the second CREATE ends the session
abbrev pub WindowCreatedTwice : Type 0
WindowCreatedTwice = posts (bytes (window_at 2 2 ++ spelling 1 (agent.Create 2 2 2 2 0 0)) ∷ just item.Snap ∷ [])
    ≡ greeting ++ focused 0 1 ++ Ended 0 (cause.WindowExists 1 0) ∷ Picture 8 6 (replicate 48 0) ∷ []
