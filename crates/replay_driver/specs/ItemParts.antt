-- What reading one item answers, and what it took of the bytes.
use Rattle.std.specs.Prelude.{◌≡◌, ℕ, ◌+◌, ◌≤◌, List, ◌++◌, length, take, slice_index, Option, Some, Result, Ok, Err}
use Rattle.io_ports.specs.declared.feed.Next.{Next}
use Rattle.io_ports.specs.declared.feed.RecordKind.{RecordKind}
use Rattle.io_ports.specs.declared.feed.RecordKind.TheVariants as kinds
use Rattle.io_ports.specs.declared.feed.FeedFault.{FeedFault}
use Rattle.io_ports.specs.declared.feed.FeedFault.TheVariants as feeds
use Rattle.io_ports.specs.Feeds.{Answer}
use Rattle.desk_laws.specs.Items.{FedItem}
use Rattle.record_format.specs.declared.part.PartRead.{PartRead}
use Rattle.record_format.specs.declared.part.PartRead.TheVariants as parts
use Rattle.record_format.specs.Config.{fault}
use Rattle.record_format.specs.ItemSpellings.{fed_spelling}
use Rattle.record_format.specs.ItemFields.{fields_len}
use Rattle.record_format.specs.RecordGrammar.{item_at}
use Rattle.record_format.specs.Readings.{Took}

-- what a part that wasn't read makes of the item at this offset
abbrev pub no_item : ℕ → PartRead → FeedFault
no_item at parts.Failed = feeds.Failed
no_item at parts.Short = feeds.Bad (fault at kinds.Short)

-- No item at this offset: the record has the fault there, as is known of its bytes; at a failed read what was
-- taken is no whole item.
abbrev pub FindsNone : (List ℕ → RecordKind → Type 0) → ℕ → FeedFault → List ℕ → Option (List ℕ) → Type 0
FindsNone known at (feeds.Bad f) bytes left = known bytes f.kind × (f.offset ≡ at) × ((rest : List ℕ) × (left ≡ Some rest))
FindsNone known at feeds.Failed bytes left = Took bytes left (λ taken. known taken kinds.Short)

-- a kind byte that has so many bytes of fields, with these, and what follows them
pub record IsFront (n : ℕ) (front : List ℕ) : Type 0 where
  pub long : length front ≡ 16
  pub most : n ≤ 15
  pub kind : fields_len (slice_index front 0) ≡ Some n

-- The kind byte and the fields of the item at this offset, and how many bytes of fields they are: these were
-- taken, or there is no item.
abbrev pub FindsFront : ℕ → Result (List ℕ × ℕ) FeedFault → List ℕ → Option (List ℕ) → Type 0
FindsFront at (Ok found) bytes left = Took bytes left (λ taken. taken ≡ take (1 + found.1) found.0)
FindsFront at (Err fault) bytes left = FindsNone (λ bs kind. (guests pages : ℕ) → item_at guests pages bs ≡ Err kind) at fault bytes left

-- the item alone, where it was found with the number of bytes that it takes
abbrev pub next_of : Result (Next × ℕ) FeedFault → Result Next FeedFault
next_of (Ok found) = Ok found.0
next_of (Err fault) = Err fault

-- these bytes are the item's spelling, and are found to be the item, whatever follows them
pub record Spell (guests pages : ℕ) (given : FedItem) (taken : List ℕ) : Type 0 where
  pub spelled : taken ≡ fed_spelling given
  pub found : (tail : List ℕ) → item_at guests pages (taken ++ tail) ≡ Ok (given, length taken)

-- One item at this offset: what was taken spells it, or there is none.
abbrev pub Finds : ℕ → ℕ → ℕ → Answer → List ℕ → Option (List ℕ) → Type 0
Finds guests pages at (Ok given) bytes left = Took bytes left (Spell guests pages given)
Finds guests pages at (Err fault) bytes left = FindsNone (λ bs kind. item_at guests pages bs ≡ Err kind) at fault bytes left

-- how many bytes the item takes in a record, where its piece stands at the front of the room
abbrev pub size_in : Next → List ℕ → ℕ
size_in next room = length (fed_spelling (record { item = next.item; piece = take next.len room }))
