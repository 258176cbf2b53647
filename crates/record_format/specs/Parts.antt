-- What filling a room with the next bytes answers.
use Rattle.std.specs.Prelude.{◌≡◌, ◌<◌, ℕ, List, [], length, Option, Some, None, Result, Ok, Err, ⊤}
use Rattle.io_ports.specs.declared.feed.RecordKind.TheVariants as kinds
use Rattle.record_format.specs.declared.part.PartRead.{PartRead}
use Rattle.record_format.specs.declared.part.PartRead.TheVariants as parts
use Rattle.record_format.specs.declared.config.ConfigRead.{ConfigRead}
use Rattle.record_format.specs.declared.config.ConfigRead.TheVariants as reads
use Rattle.record_format.specs.Config.{Wrong, Fault, Rule, fault}
use Rattle.record_format.specs.Readings.{Took}

-- A whole room is what was taken; else fewer bytes were taken, or there were fewer and none are left.
abbrev pub Fills : Result ⊤ PartRead → List ℕ → List ℕ → Option (List ℕ) → Type 0
Fills (Ok done) room bytes left = Took bytes left (λ taken. taken ≡ room)
Fills (Err parts.Failed) room bytes left = Took bytes left (λ taken. length taken < length room)
Fills (Err parts.Short) room bytes left = (length bytes < length room) × (left ≡ Some [])

-- what a part that wasn't read makes of a configuration
abbrev pub no_config : PartRead → ConfigRead
no_config parts.Failed = reads.Failed
no_config parts.Short = reads.Bad (fault 4 kinds.Short)

-- what a test of the first bytes answered is what is wrong with them
abbrev pub IsWrong : Option ConfigRead → Option Wrong → Type 0
IsWrong None wrong = wrong ≡ None
IsWrong (Some (reads.Bad f)) wrong = wrong ≡ Some (Fault f)
IsWrong (Some (reads.Rule k)) wrong = wrong ≡ Some (Rule k)
IsWrong (Some reads.Failed) wrong = ⊥
IsWrong (Some reads.NoMemory) wrong = ⊥

-- what a test of bytes answered is what the grammar says of them
abbrev pub Agrees : {X : Type 0} → Result X ConfigRead → Result X Wrong → Type 0
Agrees (Ok x) said = said ≡ Ok x
Agrees (Err (reads.Bad f)) said = said ≡ Err (Fault f)
Agrees (Err (reads.Rule k)) said = said ≡ Err (Rule k)
Agrees (Err reads.Failed) said = ⊥
Agrees (Err reads.NoMemory) said = ⊥

-- a room that was filled, as what was read
abbrev pub with_room : Result ⊤ ConfigRead → List ℕ → Result (List ℕ) ConfigRead
with_room (Ok done) room = Ok room
with_room (Err e) room = Err e
