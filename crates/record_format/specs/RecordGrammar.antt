-- What a record says: a setup, and the items behind it up to End or a fault. The format is this
-- project's own.
use Rattle.std.specs.Prelude.{ℕ, zero, suc, ◌+◌, List, [], ◌∷◌, ◌++◌, length, take, drop, nat_lt, if◌then◌else◌, Bool, true, false, Option, None, Some, Result, Ok, Err}
use Rattle.io_ports.specs.declared.feed.RecordFault.{RecordFault}
use Rattle.io_ports.specs.declared.feed.RecordKind.{RecordKind}
use Rattle.io_ports.specs.declared.feed.RecordKind.TheVariants as kinds
use Rattle.desk_laws.specs.declared.setup.Setup.{Setup}
use Rattle.desk_laws.specs.declared.item.Item.{Item}
use Rattle.desk_laws.specs.declared.item.Item.TheVariants as items
use Rattle.desk_laws.specs.Frames.{counted}
use Rattle.desk_laws.specs.Items.{FedItem}
use Rattle.record_format.specs.Config.{Wrong, fault, config_of, config_len}
use Rattle.record_format.specs.ItemFields.{fields_len, item_read}

-- End, or the fault that stands in an item's place
pub data Ending : Type 0 where
  Ends : Ending
  Faulty : RecordFault → Ending

-- the items up to End, and End or the fault
pub record Items : Type 0 where
  pub each : List FedItem
  pub ending : Ending

-- an item that comes without bytes
abbrev pub alone : Item → FedItem
alone item = record { item = item; piece = [] }

-- what a kind byte and its fields say, so many bytes together, with the piece that the bytes behind them begin with.
-- Where a field is wrong it doesn't matter what stands behind.
abbrev pub with_piece : ℕ → List ℕ → Option (Item × ℕ) → Result (FedItem × ℕ) RecordKind
with_piece before behind None = Err kinds.Range
with_piece before behind (Some found) =
    if nat_lt (length behind) found.1 then Err kinds.Short
    else Ok (record { item = found.0; piece = take found.1 behind }, before + found.1)

-- an item whose kind byte has so many bytes of fields behind it
abbrev pub with_fields : ℕ → ℕ → List ℕ → Option ℕ → Result (FedItem × ℕ) RecordKind
with_fields guests pages bytes None = Err kinds.Kind
with_fields guests pages bytes (Some n) =
    if nat_lt (length bytes) (1 + n) then Err kinds.Short
    else with_piece (1 + n) (drop (1 + n) bytes) (item_read guests pages (take (1 + n) bytes))

-- the item at the front, and how many bytes it takes
abbrev pub item_at : ℕ → ℕ → List ℕ → Result (FedItem × ℕ) RecordKind
item_at guests pages [] = Err kinds.Short
item_at guests pages (kind ∷ rest) = with_fields guests pages (kind ∷ rest) (fields_len kind)

-- these items, and then the others
abbrev pub with_front : List FedItem → Items → Items
with_front front rest = record { each = front ++ rest.each; ending = rest.ending }

-- whether the item is End
abbrev pub is_end : Item → Bool
is_end items.End = true
is_end item = false

-- no item but what the items end in
abbrev pub nothing_but : Ending → Items
nothing_but ending = record { each = []; ending = ending }

-- an item, and the others where it isn't End
abbrev pub item_and : FedItem → Items → Items
item_and given rest = if is_end given.item then nothing_but Ends else with_front (given ∷ []) rest

-- one item, where the others are read by this function of how many bytes the item takes
abbrev pub items_step : ℕ → Result (FedItem × ℕ) RecordKind → (ℕ → Items) → Items
items_step at (Err kind) rest = nothing_but (Faulty (fault at kind))
items_step at (Ok found) rest = item_and found.0 (rest found.1)

-- at most so many items, the first of them at this offset
abbrev pub items_within : ℕ → ℕ → ℕ → ℕ → List ℕ → Items
items_within zero guests pages at bytes = nothing_but (Faulty (fault at kinds.Short))
items_within (suc n) guests pages at bytes =
    items_step at (item_at guests pages bytes) (λ size. items_within n guests pages (counted (at + size)) (drop size bytes))

-- all items from this offset on: each takes a byte at least
unfoldable pub items_from : ℕ → ℕ → ℕ → List ℕ → Items
items_from guests pages at bytes = items_within (suc (length bytes)) guests pages at bytes

-- a record: what is wrong with its beginning, or its setup and its items
pub data Record : Type 0 where
  BadStart : Wrong → Record
  Run : Setup → Items → Record

-- the items behind a setup
abbrev pub started : Result (Setup × List ℕ) Wrong → Record
started (Err wrong) = BadStart wrong
started (Ok found) = Run found.0 (items_from (length found.0.guests) found.0.pages (config_len found.0) found.1)

-- what the bytes say
abbrev pub record_of : List ℕ → Record
record_of bytes = started (config_of bytes)

-- the items with End, where they end with it
abbrev pub whole : Items → List FedItem
whole found = found.each ++ last_of found.ending
  where
    last_of : Ending → List FedItem
    last_of Ends = alone items.End ∷ []
    last_of (Faulty f) = []
