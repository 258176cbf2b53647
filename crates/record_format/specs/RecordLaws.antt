-- A record is read as it was spelled, and was spelled as it is read.
use Rattle.std.specs.Prelude.{◌≡◌, ℕ, ◌+◌, ◌<◌, false, List, [], ◌∷◌, ◌++◌, length, None, Err}
use Rattle.std.specs.List.{All}
use Rattle.io_ports.specs.declared.feed.RecordKind.TheVariants as kinds
use Rattle.desk_laws.specs.declared.setup.Setup.{Setup}
use Rattle.desk_laws.specs.declared.item.Item.TheVariants as items
use Rattle.desk_laws.specs.Rules.{first_broken}
use Rattle.desk_laws.specs.Frames.{counted}
use Rattle.desk_laws.specs.Items.{FedItem, FitsItem}
use Rattle.record_format.specs.Config.{fault, config_len, config_spelling}
use Rattle.record_format.specs.ItemSpellings.{items_spelling, FitsRecord}
use Rattle.record_format.specs.RecordGrammar.{Ending, Ends, Faulty, Items, alone, is_end, item_at, items_from, with_front, whole, Run, record_of}

-- an item that can stand before End in a record of so many guests and pages
pub record CanStand (guests pages : ℕ) (given : FedItem) : Type 0 where
  pub fits : FitsRecord guests pages given.item (length given.piece)
  pub goes_on : is_end given.item ≡ false

-- the items of a record before its End
abbrev pub AreItems : ℕ → ℕ → List FedItem → Type 0
AreItems guests pages given = All (CanStand guests pages) given

-- the offset behind a setup and items
abbrev pub offset_behind : Setup → List FedItem → ℕ
offset_behind setup given = counted (config_len setup + length (items_spelling given))

-- a setup and items are read as they were spelled, and then what stands behind them
abbrev pub ItemsAreRead : Type 0
ItemsAreRead =
    (setup : Setup) (given : List FedItem) (tail : List ℕ) → first_broken setup ≡ None → AreItems (length setup.guests) setup.pages given →
    record_of (config_spelling setup ++ (items_spelling given ++ tail))
    ≡ Run setup (with_front given (items_from (length setup.guests) setup.pages (offset_behind setup given) tail))

-- with End behind them they are the whole record, whatever follows
abbrev pub WholeRecordsAreRead : Type 0
WholeRecordsAreRead =
    (setup : Setup) (given : List FedItem) (tail : List ℕ) → first_broken setup ≡ None → AreItems (length setup.guests) setup.pages given →
    record_of (config_spelling setup ++ (items_spelling (given ++ alone items.End ∷ []) ++ tail)) ≡ Run setup (record { each = given; ending = Ends })

-- with nothing behind them the record is too short at its end
abbrev pub CutRecordsAreShort : Type 0
CutRecordsAreShort =
    (setup : Setup) (given : List FedItem) → first_broken setup ≡ None → AreItems (length setup.guests) setup.pages given →
    record_of (config_spelling setup ++ items_spelling given)
    ≡ Run setup (record { each = given; ending = Faulty (fault (offset_behind setup given) kinds.Short) })

-- what stands behind the items: anything at all behind End, and no item at a fault, which has that offset
abbrev pub StandsBehind : ℕ → ℕ → ℕ → Ending → List ℕ → Type 0
StandsBehind guests pages at Ends rest = Unit {0}
StandsBehind guests pages at (Faulty f) rest = (f.offset ≡ at) × (item_at guests pages rest ≡ Err f.kind)

-- these bytes are the spelling of the setup and the items, and end as they do
pub record WasSpelled (bytes : List ℕ) (setup : Setup) (found : Items) : Type 0 where
  pub keeps_rules : first_broken setup ≡ None
  pub are_items : AreItems (length setup.guests) setup.pages found.each
  pub rest : List ℕ
  pub spelled : bytes ≡ config_spelling setup ++ (items_spelling (whole found) ++ rest)
  pub behind : StandsBehind (length setup.guests) setup.pages (offset_behind setup found.each) found.ending rest

-- what is read of bytes was spelled by them
abbrev pub ReadRecordsWereSpelled : Type 0
ReadRecordsWereSpelled =
    (bytes : List ℕ) (setup : Setup) (found : Items) → All (λ b. b < 256) bytes → record_of bytes ≡ Run setup found → WasSpelled bytes setup found

-- each item that a record gives fits its setup
abbrev pub ReadItemsFit : Type 0
ReadItemsFit =
    (bytes : List ℕ) (setup : Setup) (found : Items) → record_of bytes ≡ Run setup found →
    All (λ given. FitsItem (length setup.guests) setup.pages given.item (length given.piece)) found.each
