-- What each status says of what was written, where a record was to be made.
use Rattle.std.specs.Prelude.{◌≡◌, ℕ, List, Option}
use Rattle.io_ports.specs.Content.{Grows, GrowsPart}
use Rattle.record_format.specs.MadeRecord.{made}
use Rattle.guid_main.specs.declared.status.Status.{Status}
use Rattle.guid_main.specs.declared.status.Status.TheVariants as statuses

-- the record of so many rounds was written, or a prefix of it, or nothing; no other status comes
abbrev pub Makes : ℕ → Status → Option (List ℕ) → Option (List ℕ) → Type 0
Makes rounds statuses.Done before after = Grows before (made rounds) after
Makes rounds statuses.WriteFault before after = GrowsPart before (made rounds) after
Makes rounds statuses.NoMemory before after = after ≡ before
Makes rounds status before after = ⊥
