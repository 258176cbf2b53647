-- What the user's bytes begin with: items of a record that speak of no guest. The form is this project's own.
use Rattle.std.specs.Prelude.{◌≡◌, ◌<◌, ◌≤◌, ◌⊎◌, ℕ, ◌+◌, List, [], length, slice_index, Option, None, Some}
use Rattle.io_ports.specs.declared.feed.Next.{Next}
use Rattle.io_ports.specs.declared.feed.RecordKind.TheVariants.{Magic, Kind, Range, Short}
use Rattle.record_format.specs.ItemFields.{HasFields, fields_len, item_read}
use Rattle.live_feed.specs.declared.user_item.UserRead.{UserRead}
use Rattle.live_feed.specs.declared.user_item.UserRead.TheVariants.{Whole, Need, Bad}

-- the user gives keys, moves, presses, commands, snaps and the end
abbrev pub IsOfUser : List ℕ → Type 0
IsOfUser bytes = (5 ≤ slice_index bytes 0) × (slice_index bytes 0 ≤ 10)

-- the bytes of an item: its kind byte and so many fixed fields
abbrev pub size_with : Option ℕ → ℕ
size_with None = 0
size_with (Some fields) = 1 + fields

-- what the front of the bytes says, for so many guests and pages
abbrev pub SaysItem : ℕ → ℕ → List ℕ → UserRead → Type 0
SaysItem guests pages bytes (Whole next size) =
    HasFields bytes
    × (IsOfUser bytes × ((size ≡ size_with (fields_len (slice_index bytes 0))) × (item_read guests pages bytes ≡ Some (next.item, next.len))))
SaysItem guests pages bytes Need = (bytes ≡ []) ⊎ (IsOfUser bytes × (HasFields bytes → ⊥))
SaysItem guests pages bytes (Bad Kind) = (0 < length bytes) × (IsOfUser bytes → ⊥)
SaysItem guests pages bytes (Bad Range) = HasFields bytes × (IsOfUser bytes × (item_read guests pages bytes ≡ None))
SaysItem guests pages bytes (Bad Magic) = ⊥
SaysItem guests pages bytes (Bad Short) = ⊥

-- the fact holds of the item, where there is one
abbrev pub IfWhole : UserRead → (Next → ℕ → Type 0) → Type 0
IfWhole (Whole next size) fact = fact next size
IfWhole Need fact = Unit {0}
IfWhole (Bad fault) fact = Unit {0}

-- the fact holds where bytes are missing
abbrev pub IfNeed : UserRead → Type 0 → Type 0
IfNeed (Whole next size) fact = Unit {0}
IfNeed Need fact = fact
IfNeed (Bad fault) fact = Unit {0}
