-- An item of the input with the bytes that come with it. The items and their ranges are this
-- project's own.
use Rattle.std.specs.Prelude.{◌≡◌, ℕ, ◌+◌, ◌%◌, ◌≤◌, ◌<◌, List}
use Rattle.desk_laws.specs.declared.item.Item.{Item}
use Rattle.desk_laws.specs.declared.item.Item.TheVariants.{Bytes, Closed, Store, Key, Move, Press, Close, Next, Restore, MoveTo, SizeTo, Snap, End, Lost, Idle}
use Rattle.desk_laws.specs.declared.limits.TheConstants.{MAX_PIECE, PAGE_BYTES}

-- an item and its piece: a guest's bytes, or those of a change of its frames, else nothing
pub record FedItem : Type 0 where
  pub item : Item
  pub piece : List ℕ

-- the length of a piece of a guest's bytes
pub record IsPiece (len : ℕ) : Type 0 where
  pub some : 1 ≤ len
  pub most : len ≤ MAX_PIECE

-- a change of whole words within one page
pub record IsChange (page offset len pages : ℕ) : Type 0 where
  pub page_in : page < pages
  pub offset_aligned : offset % 4 ≡ 0
  pub len_aligned : len % 4 ≡ 0
  pub some : 4 ≤ len
  pub within : offset + len ≤ PAGE_BYTES

-- the item's guest, page, state and button are in their ranges, and its piece has a length that it may have
abbrev pub FitsItem : ℕ → ℕ → Item → ℕ → Type 0
FitsItem guests pages (Bytes guest) len = (guest < guests) × IsPiece len
FitsItem guests pages (Closed guest) len = (guest < guests) × (len ≡ 0)
FitsItem guests pages (Store guest delay page offset) len = (guest < guests) × IsChange page offset len pages
FitsItem guests pages (Key down code state) len = (state ≤ 8191) × (len ≡ 0)
FitsItem guests pages (Move x y state) len = (state ≤ 8191) × (len ≡ 0)
FitsItem guests pages (Press down button state) len = ((1 ≤ button) × (button ≤ 15)) × ((state ≤ 8191) × (len ≡ 0))
FitsItem guests pages Close len = len ≡ 0
FitsItem guests pages Next len = len ≡ 0
FitsItem guests pages Restore len = len ≡ 0
FitsItem guests pages (MoveTo x y) len = len ≡ 0
FitsItem guests pages (SizeTo w h) len = len ≡ 0
FitsItem guests pages Snap len = len ≡ 0
FitsItem guests pages End len = len ≡ 0
FitsItem guests pages (Lost guest) len = (guest < guests) × (len ≡ 0)
FitsItem guests pages Idle len = len ≡ 0
