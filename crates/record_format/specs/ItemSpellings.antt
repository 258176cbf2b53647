-- How an item is spelled in a record: its kind and its fixed fields; the bytes that come with it stand
-- behind them. Numbers have their lowest byte first. The format is this project's own.
use Rattle.std.specs.Prelude.{ℕ, ◌<◌, ◌^◌, List, [], ◌∷◌, ◌++◌, length, Bool, true, false, ℤ, pos, FitsSigned}
use Rattle.std.specs.List.{flat_map}
use Rattle.std.specs.Int.{w32}
use Rattle.byteorder.specs.Endian.{little_bytes}
use Rattle.gui_wire.specs.Words.{word, unsigned}
use Rattle.desk_laws.specs.declared.item.Item.{Item}
use Rattle.desk_laws.specs.declared.item.Item.TheVariants.{Bytes, Closed, Store, Key, Move, Press, Close, Next, Restore, MoveTo, SizeTo, Snap, End, Lost, Idle}
use Rattle.desk_laws.specs.Items.{FedItem, FitsItem}

-- a number of 16 bits
abbrev pub half : ℕ → List ℕ
half n = little_bytes 2 n

-- a signed number of 32 bits, as two's complement
abbrev pub signed_word : ℤ → List ℕ
signed_word z = word (unsigned z)

-- whether a key or a button went down
abbrev pub flag : Bool → ℕ
flag true = 1
flag false = 0

-- a command: its number and two values
abbrev pub command : ℕ → ℤ → ℤ → List ℕ
command code a b = 8 ∷ code ∷ signed_word a ++ signed_word b

-- an item that so many bytes come with; Idle is never spelled
abbrev pub item_spelling : Item → ℕ → List ℕ
item_spelling (Bytes guest) len = 2 ∷ guest ∷ word len
item_spelling (Closed guest) len = 3 ∷ guest ∷ []
item_spelling (Store guest delay page offset) len = 4 ∷ guest ∷ half delay ++ word page ++ word offset ++ word len
item_spelling (Key down code state) len = 5 ∷ flag down ∷ code ∷ half state
item_spelling (Move x y state) len = 6 ∷ signed_word x ++ signed_word y ++ half state
item_spelling (Press down button state) len = 7 ∷ flag down ∷ button ∷ half state
item_spelling Close len = command 1 (pos 0) (pos 0)
item_spelling Next len = command 2 (pos 0) (pos 0)
item_spelling Restore len = command 3 (pos 0) (pos 0)
item_spelling (MoveTo x y) len = command 4 x y
item_spelling (SizeTo w h) len = command 5 w h
item_spelling Snap len = 9 ∷ []
item_spelling End len = 10 ∷ []
item_spelling (Lost guest) len = 11 ∷ guest ∷ []
item_spelling Idle len = []

-- an item with its piece behind it
abbrev pub fed_spelling : FedItem → List ℕ
fed_spelling given = item_spelling given.item (length given.piece) ++ given.piece

-- items, one after the other
abbrev pub items_spelling : List FedItem → List ℕ
items_spelling items = flat_map fed_spelling items

-- the item's numbers have as many bits as their fields, and it isn't Idle
abbrev pub HasWidths : Item → Type 0
HasWidths (Store guest delay page offset) = delay < 2 ^ 16
HasWidths (Key down code state) = code < 2 ^ 8
HasWidths (Move x y state) = FitsSigned w32 x × FitsSigned w32 y
HasWidths (MoveTo x y) = FitsSigned w32 x × FitsSigned w32 y
HasWidths (SizeTo w h) = FitsSigned w32 w × FitsSigned w32 h
HasWidths Idle = ⊥
HasWidths item = Unit {0}

-- an item that a record of so many guests and pages can have, with so many bytes
pub record FitsRecord (guests pages : ℕ) (item : Item) (len : ℕ) : Type 0 where
  pub widths : HasWidths item
  pub range : FitsItem guests pages item len
