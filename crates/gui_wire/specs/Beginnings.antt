-- What bytes from the daemon begin with.
use Rattle.std.specs.Prelude.{ℕ, ◌≡◌, ◌+◌, ◌-◌, List, length, take, drop, Option, Some, None, if◌then◌else◌, nat_lt}
use Rattle.gui_wire.specs.declared.Header.{Header}
use Rattle.gui_wire.specs.DaemonMessages.{DaemonMessage, daemon_length, fits_length, daemon_reading, daemon_spelling, HasDaemonSpelling}
use Rattle.gui_wire.specs.Headers.{header_at}

-- a whole message with its window and its number of bytes, the number of bytes of another message, how
-- many bytes lack, or a length that doesn't fit its type
pub data Beginning : Type 0 where
  Whole : (window : ℕ) (message : DaemonMessage) (used : ℕ) → Beginning
  Skip : (used : ℕ) → Beginning
  Need : (more : ℕ) → Beginning
  Bad : (len : ℕ) → Beginning

-- the whole message of a body that was read, or one to be skipped
abbrev pub whole_of : Option DaemonMessage → ℕ → ℕ → Beginning
whole_of (Some message) window used = Whole window message used
whole_of None window used = Skip used

-- what a header and the bytes behind it are
abbrev pub beginning_of : Header → List ℕ → Beginning
beginning_of header behind =
    if fits_length (daemon_length header.kind) header.len then
    if nat_lt (length behind) header.len then Need (header.len - length behind)
    else whole_of (daemon_reading header.kind (take header.len behind)) header.window (12 + header.len)
    else Bad header.len

-- what bytes begin with
abbrev pub beginning : List ℕ → Beginning
beginning bytes = if nat_lt (length bytes) 12 then Need (12 - length bytes) else beginning_of (header_at bytes) (drop 12 bytes)

-- a whole message has a spelling, and it is the bytes in front
abbrev pub IsInFront : Beginning → List ℕ → Type 0
IsInFront (Whole window message used) bytes = HasDaemonSpelling message × (take used bytes ≡ daemon_spelling window message)
IsInFront (Skip used) bytes = Unit {0}
IsInFront (Need more) bytes = Unit {0}
IsInFront (Bad len) bytes = Unit {0}
