-- What a kind byte and the fixed fields behind it say, field by field.
use Rattle.std.specs.Prelude.{◌≤◌, ℕ, ◌+◌, ◌-◌, ◌%◌, List, length, drop, slice_index, Bool, ◌&&◌, ◌==◌, nat_lt, nat_le, if◌then◌else◌, Option, Some, None}
use Rattle.byteorder.specs.Endian.{little_number}
use Rattle.io_ports.specs.Content.{IsPrefix}
use Rattle.desk_laws.specs.declared.item.Item.{Item}
use Rattle.desk_laws.specs.declared.item.Item.TheVariants.{Bytes, Closed, Store, Key, Move, Press, Close, Next, Restore, MoveTo, SizeTo, Snap, End, Lost}
use Rattle.desk_laws.specs.declared.limits.TheConstants.{MAX_PIECE, PAGE_BYTES}
use Rattle.desk_laws.specs.Rules.{within}
use Rattle.record_format.specs.Config.{number_at, signed_at}
use Rattle.record_format.specs.ItemSpellings.{item_spelling, FitsRecord}

-- how many bytes the fixed fields of a kind have, but for Config's
abbrev pub fields_len : ℕ → Option ℕ
fields_len kind =
    if kind == 2 then Some 5
    else if kind == 3 then Some 1
    else if kind == 4 then Some 15
    else if kind == 5 then Some 4
    else if kind == 6 then Some 10
    else if kind == 7 then Some 4
    else if kind == 8 then Some 9
    else if kind == 9 then Some 0
    else if kind == 10 then Some 0
    else if kind == 11 then Some 1
    else None

-- so many bytes have a kind and so many fixed fields
abbrev pub FieldsWithin : Option ℕ → ℕ → Type 0
FieldsWithin None size = ⊥
FieldsWithin (Some n) size = 1 + n ≤ size

-- a kind byte that has fixed fields, and all of these
pub record HasFields (bytes : List ℕ) : Type 0 where
  pub some : 1 ≤ length bytes
  pub all : FieldsWithin (fields_len (slice_index bytes 0)) (length bytes)

-- the number of two bytes, the lowest first, from this place on
abbrev pub half_at : ℕ → List ℕ → ℕ
half_at place bytes = little_number 2 (drop place bytes)

-- an item and how many bytes come with it, where its fields are right
abbrev pub if_right : Bool → Item → ℕ → Option (Item × ℕ)
if_right right item len = if right then Some (item, len) else None

-- a change of whole words within one page
abbrev pub is_change : ℕ → ℕ → ℕ → ℕ → Bool
is_change pages page offset len = nat_lt page pages && (offset % 4 == 0 && (len % 4 == 0 && (within 4 PAGE_BYTES len && nat_le offset (PAGE_BYTES - len))))

abbrev pub piece_read : ℕ → List ℕ → Option (Item × ℕ)
piece_read guests bytes = if_right (nat_lt (slice_index bytes 1) guests && within 1 MAX_PIECE (number_at 2 bytes)) (Bytes (slice_index bytes 1)) (number_at 2 bytes)

-- an item of a guest alone
abbrev pub guest_read : (ℕ → Item) → ℕ → List ℕ → Option (Item × ℕ)
guest_read made guests bytes = if_right (nat_lt (slice_index bytes 1) guests) (made (slice_index bytes 1)) 0

abbrev pub store_read : ℕ → ℕ → List ℕ → Option (Item × ℕ)
store_read guests pages bytes =
    if_right (nat_lt (slice_index bytes 1) guests && is_change pages (number_at 4 bytes) (number_at 8 bytes) (number_at 12 bytes))
    (Store (slice_index bytes 1) (half_at 2 bytes) (number_at 4 bytes) (number_at 8 bytes)) (number_at 12 bytes)

abbrev pub key_read : List ℕ → Option (Item × ℕ)
key_read bytes = if_right (nat_le (slice_index bytes 1) 1 && nat_le (half_at 3 bytes) 8191) (Key (slice_index bytes 1 == 1) (slice_index bytes 2) (half_at 3 bytes)) 0

abbrev pub move_read : List ℕ → Option (Item × ℕ)
move_read bytes = if_right (nat_le (half_at 9 bytes) 8191) (Move (signed_at 1 bytes) (signed_at 5 bytes) (half_at 9 bytes)) 0

abbrev pub press_read : List ℕ → Option (Item × ℕ)
press_read bytes =
    if_right (nat_le (slice_index bytes 1) 1 && (within 1 15 (slice_index bytes 2) && nat_le (half_at 3 bytes) 8191))
    (Press (slice_index bytes 1 == 1) (slice_index bytes 2) (half_at 3 bytes)) 0

-- a command that has no values: both are 0
abbrev pub plain_read : Item → List ℕ → Option (Item × ℕ)
plain_read item bytes = if_right (number_at 2 bytes == 0 && number_at 6 bytes == 0) item 0

abbrev pub command_read : List ℕ → Option (Item × ℕ)
command_read bytes =
    let code = slice_index bytes 1 in
    if code == 1 then plain_read Close bytes
    else if code == 2 then plain_read Next bytes
    else if code == 3 then plain_read Restore bytes
    else if code == 4 then Some (MoveTo (signed_at 2 bytes) (signed_at 6 bytes), 0)
    else if code == 5 then Some (SizeTo (signed_at 2 bytes) (signed_at 6 bytes), 0)
    else None

-- what the bytes of an item say
abbrev pub item_read : ℕ → ℕ → List ℕ → Option (Item × ℕ)
item_read guests pages bytes =
    let kind = slice_index bytes 0 in
    if kind == 2 then piece_read guests bytes
    else if kind == 3 then guest_read Closed guests bytes
    else if kind == 4 then store_read guests pages bytes
    else if kind == 5 then key_read bytes
    else if kind == 6 then move_read bytes
    else if kind == 7 then press_read bytes
    else if kind == 8 then command_read bytes
    else if kind == 9 then Some (Snap, 0)
    else if kind == 10 then Some (End, 0)
    else if kind == 11 then guest_read Lost guests bytes
    else None

-- the item fits the record, and the bytes begin with its spelling
pub record IsSpelledBy (guests pages : ℕ) (bytes : List ℕ) (found : Item × ℕ) : Type 0 where
  pub fits : FitsRecord guests pages found.0 found.1
  pub spelled : IsPrefix (item_spelling found.0 found.1) bytes
