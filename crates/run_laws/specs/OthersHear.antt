-- What guests hear of each other: a session's end is told to its guest alone, and an item of one guest tells the others
-- of focus and hover, and of nothing else.
use Rattle.std.specs.Prelude.{◌≡◌, ℕ, true, false, List, []}
use Rattle.std.specs.List.{All}
use Rattle.desk_laws.specs.declared.setup.Setup.{Setup}
use Rattle.desk_laws.specs.declared.item.Item.{Item}
use Rattle.desk_laws.specs.declared.input.GIn.{GIn}
use Rattle.desk_laws.specs.declared.input.GIn.TheVariants.{Crossing, Focus, Keymap}
use Rattle.desk_laws.specs.Endings.{is_item_of}
use Rattle.desk_laws.specs.Scene.{Post, Reply, Ended, Picture, Summary, Input, Took, Given, Closing, Losing, GuestInput}
use Rattle.desk_laws.specs.State.{DeskState}
use Rattle.desk_laws.specs.Steps.{step}

-- where a post tells a session's end, the item is one of that guest
abbrev pub EndsItsGuest : Item → Post → Type 0
EndsItsGuest i (Reply guest bytes) = Unit {0}
EndsItsGuest i (Ended guest cause) = is_item_of guest i ≡ true
EndsItsGuest i (Picture width height colours) = Unit {0}
EndsItsGuest i (Summary counts) = Unit {0}

-- each item, whatever its bytes are, ends its own guest's session at most
abbrev pub EndsStayAtHome : Type 0
EndsStayAtHome =
    (setup : Setup) (i : Item) (piece : List ℕ) (state : DeskState) → All (EndsItsGuest i) (step setup i piece state).posts

-- whether an input tells of focus and hover: that a window has gained or lost one of them, and the keyboard's state
abbrev pub TellsFocus : GIn → Type 0
TellsFocus (Crossing window enter x y focus) = Unit {0}
TellsFocus (Focus window gained) = Unit {0}
TellsFocus Keymap = Unit {0}
TellsFocus input = ⊥

-- an input that is granted, tells of focus and hover, and comes with no bytes
abbrev pub IsNews : Input → Type 0
IsNews (Took unit) = ⊥
IsNews (Given input paste) = TellsFocus input × (paste ≡ [])
IsNews Closing = ⊥
IsNews Losing = ⊥

-- of other guests than the item's own an input is such news
abbrev pub IsNewsToOthers : Item → GuestInput → Type 0
IsNewsToOthers i t = is_item_of t.guest i ≡ false → IsNews t.input

-- an item of one guest, whether it ends that session or not, reaches every other guest by such news alone
abbrev pub OthersHearNews : Type 0
OthersHearNews =
    (setup : Setup) (i : Item) (piece : List ℕ) (guest : ℕ) (state : DeskState) → is_item_of guest i ≡ true →
    All (IsNewsToOthers i) (step setup i piece state).inputs
