-- What each status says of the record, and of what was written.
use Rattle.std.specs.Prelude.{◌≡◌, ℕ, ◌<◌, ◌≤◌, ◌+◌, ◌^◌, List, [], length, take, drop, Option, Some}
use Rattle.io_ports.specs.Content.{Grows, GrowsPart}
use Rattle.io_ports.specs.declared.feed.RecordFault.{RecordFault}
use Rattle.desk_laws.specs.declared.setup.Setup.{Setup}
use Rattle.desk_laws.specs.Items.{FedItem}
use Rattle.record_format.specs.declared.config.ConfigRead.{ConfigRead}
use Rattle.record_format.specs.declared.config.ConfigRead.TheVariants as reads
use Rattle.replay_driver.specs.declared.outcome.Outcome.{Outcome}
use Rattle.replay_driver.specs.declared.outcome.Outcome.TheVariants as outcomes
use Rattle.guid_main.specs.declared.status.Status.{Status}
use Rattle.guid_main.specs.declared.status.Status.TheVariants as statuses
use Rattle.record_format.specs.Config.{Fault, Rule, config_len}
use Rattle.replay_driver.specs.Gives.{Gives, GivesPart}
use Rattle.record_format.specs.ItemSpellings.{items_spelling}
use Rattle.record_format.specs.Readings.{Took}
use Rattle.record_format.specs.RecordGrammar.{Ends, Faulty, Record, BadStart, Run, items_from, record_of, whole}

-- how many items a run takes at most
abbrev pub most_items : ℕ
most_items = 2 ^ 40

-- the record has a setup, fewer items than a run may take, and End
abbrev pub IsWhole : Record → Type 0
IsWhole (BadStart wrong) = ⊥
IsWhole (Run setup found) = (found.ending ≡ Ends) × (length found.each < most_items)

-- the record has this fault, at its beginning or in the place of an item that a run comes to
abbrev pub HasFault : Record → RecordFault → Type 0
HasFault (BadStart wrong) f = wrong ≡ Fault f
HasFault (Run setup found) f = (found.ending ≡ Faulty f) × (length found.each < most_items)

-- how many bytes items take in a record
abbrev pub items_len : Setup → List FedItem → ℕ
items_len setup items = length (items_spelling items)

-- how many bytes a setup and items take in a record
abbrev pub record_len : Setup → List FedItem → ℕ
record_len setup items = config_len setup + length (items_spelling items)

-- what stands behind the record's End was left, and none of it taken, where so many bytes are taken for items
abbrev pub LeavesRest : (Setup → List FedItem → ℕ) → Record → List ℕ → Option (List ℕ) → Type 0
LeavesRest len (BadStart wrong) bytes left = ⊥
LeavesRest len (Run setup found) bytes left = left ≡ Some (drop (len setup (whole found)) bytes)

-- the record's first items are as many as a run takes, none is End, they alone were taken, and what they give was
-- written
abbrev pub IsTooLong : (Setup → List FedItem → ℕ) → Record → List ℕ → Option (List ℕ) → Option (List ℕ) → Option (List ℕ) → Type 0
IsTooLong len (BadStart wrong) bytes left before after = ⊥
IsTooLong len (Run setup found) bytes left before after =
    (most_items ≤ length found.each) × (left ≡ Some (drop (len setup (take most_items found.each)) bytes)) × Gives setup (take most_items found.each) before after

-- all that a record gives was written, and it shows and tells each guest what the guest would get alone
abbrev pub GivesAll : Record → Option (List ℕ) → Option (List ℕ) → Type 0
GivesAll (BadStart wrong) before after = Grows before [] after
GivesAll (Run setup found) before after = Gives setup (whole found) before after

-- a part of it was written, from its beginning
abbrev pub GivesSome : Record → Option (List ℕ) → Option (List ℕ) → Type 0
GivesSome (BadStart wrong) before after = GrowsPart before [] after
GivesSome (Run setup found) before after = GivesPart setup (whole found) before after

-- What a status says of the bytes that the input had, of those that it has left, and of what was
-- written, where a list of bytes is this record and so many bytes are taken for items. Where a read or a write
-- fails it speaks of the record that the bytes taken so far are.
abbrev pub SaysBy : (List ℕ → Record) → (Setup → List FedItem → ℕ) → List ℕ → Option (List ℕ) → Status → Option (List ℕ) → Option (List ℕ) → Type 0
SaysBy read len bytes left statuses.Done before after = IsWhole (read bytes) × LeavesRest len (read bytes) bytes left × GivesAll (read bytes) before after
SaysBy read len bytes left statuses.Usage before after = (left ≡ Some bytes) × (after ≡ before)
SaysBy read len bytes left (statuses.BadConfig k) before after = (read bytes ≡ BadStart (Rule k)) × (after ≡ before)
SaysBy read len bytes left (statuses.BadRecord f) before after = HasFault (read bytes) f × GivesAll (read bytes) before after
SaysBy read len bytes left statuses.ReadFault before after = Took bytes left (λ taken. GivesAll (read taken) before after)
SaysBy read len bytes left statuses.WriteFault before after = Took bytes left (λ taken. GivesSome (read taken) before after)
SaysBy read len bytes left statuses.NoMemory before after = after ≡ before
SaysBy read len bytes left statuses.TooLong before after = IsTooLong len (read bytes) bytes left before after

-- what a status says of the record that the input's bytes are
abbrev pub Says : List ℕ → Option (List ℕ) → Status → Option (List ℕ) → Option (List ℕ) → Type 0
Says bytes left status before after = SaysBy record_of record_len bytes left status before after

-- the record of these bytes where they stand behind a setup
abbrev pub record_behind : Setup → List ℕ → Record
record_behind setup bytes = Run setup (items_from (length setup.guests) setup.pages (config_len setup) bytes)

-- what a status says of the bytes behind a setup
abbrev pub SaysBehind : Setup → List ℕ → Option (List ℕ) → Status → Option (List ℕ) → Option (List ℕ) → Type 0
SaysBehind setup bytes left status before after = SaysBy (record_behind setup) items_len bytes left status before after

-- the status after an outcome of the run
abbrev pub status_of : Outcome → Status
status_of outcomes.Done = statuses.Done
status_of (outcomes.BadRecord f) = statuses.BadRecord f
status_of outcomes.ReadFault = statuses.ReadFault
status_of outcomes.WriteFault = statuses.WriteFault
status_of outcomes.NoMemory = statuses.NoMemory
status_of outcomes.TooLong = statuses.TooLong

-- the status where no setup was read
abbrev pub after_config : ConfigRead → Status
after_config reads.Failed = statuses.ReadFault
after_config (reads.Bad f) = statuses.BadRecord f
after_config (reads.Rule k) = statuses.BadConfig k
after_config reads.NoMemory = statuses.NoMemory
