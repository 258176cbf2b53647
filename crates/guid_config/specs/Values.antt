-- The values that stand in a configuration. The format is this project's own, over TOML.
use Rattle.std.specs.Prelude.{ℕ, ◌+◌, ◌-◌, ◌*◌, List, length, slice_index, Bool, false, true, ◌&&◌, ◌==◌, nat_le, if◌then◌else◌, Option, None, Some, option_and_then, pos}
use Rattle.std.specs.List.{list_any}
use Rattle.std.specs.Option.{option_map_or}
use Rattle.std.specs.Str.{bytes_eq}
use Rattle.toml.specs.Data.{Data, integer, table, Members, no_members, member, get, as_str}
use Rattle.gui_num.specs.declared.Colour.{Colour}
use Rattle.desk_laws.specs.Rules.{within}

infixl 10 ◌>>=◌
-- what was read, and then what is read by it
abbrev pub ◌>>=◌ : {A B : Type 0} → Option A → (A → Option B) → Option B
found >>= next = option_and_then next found

-- x, where a test holds
abbrev pub if_so : {A : Type 0} → Bool → A → Option A
if_so holds x = if holds then Some x else None

-- whether each key of a table is one of these
abbrev pub keys_among : List (List ℕ) → Members → Bool
keys_among known no_members = true
keys_among known (member key value rest) = list_any (λ k. bytes_eq k key) known && keys_among known rest

-- whether a value is a table with no other keys than these
abbrev pub has_only : List (List ℕ) → Data → Bool
has_only known (table members) = keys_among known members
has_only known _ = false

-- what is read of the value at a key of a table; `absent` where it has no such key
abbrev pub value_at : {A : Type 0} → (Data → Option A) → Option A → List ℕ → Data → Option A
value_at read absent key tree = option_map_or read (get key tree) absent

-- a number from 0 to so many
abbrev pub number_to : ℕ → Data → Option ℕ
number_to most (integer (pos n)) = if_so (nat_le n most) n
number_to most _ = None

-- a number of 32 bits
abbrev pub number_of : Data → Option ℕ
number_of = number_to 4294967295

-- the value of a hexadecimal digit, in either case
abbrev pub digit_of : ℕ → Option ℕ
digit_of b =
    if within 48 57 b then Some (b - 48)
    else if within 97 102 b then Some (b - 87)
    else if within 65 70 b then Some (b - 55)
    else None

-- the number of the two digits from this place on
abbrev pub digits_at : ℕ → List ℕ → Option ℕ
digits_at place text = digit_of (slice_index text place) >>= λ high. digit_of (slice_index text (place + 1)) >>= λ low. Some (16 * high + low)

-- the colour of two digits each of red, green and blue
abbrev pub colour_in : List ℕ → Option Colour
colour_in text =
    if_so (length text == 6) text >>= λ digits.
    digits_at 0 digits >>= λ red.
    digits_at 2 digits >>= λ green.
    digits_at 4 digits >>= λ blue.
    Some (record { 0 = 65536 * red + (256 * green + blue) })

-- a text of six hexadecimal digits
abbrev pub colour_of : Data → Option Colour
colour_of value = as_str value >>= colour_in

-- a text of at most 255 bytes
abbrev pub name_of : Data → Option (List ℕ)
name_of value = as_str value >>= λ text. if_so (nat_le (length text) 255) text
