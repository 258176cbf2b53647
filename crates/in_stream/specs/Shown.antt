-- What a receive buffer shows of the bytes that it stands for.
use Rattle.std.specs.Prelude.{ℕ, ◌+◌, ◌-◌, Bool, true, false, ◌&&◌, ◌==◌, nat_lt, nat_le, List, length, Option, Some, None, if◌then◌else◌}
use Rattle.desk_laws.specs.declared.limits.TheConstants.{MAX_SKIPPED_CLIPBOARD}
use Rattle.gui_wire.specs.declared.Header.{Header}
use Rattle.gui_wire.specs.declared.WireFault.{WireFault}
use Rattle.gui_wire.specs.declared.WireFault.TheVariants.{Kind, Length}
use Rattle.gui_wire.specs.Headers.{header_at}
use Rattle.desk_laws.specs.declared.cause.Cause.{Cause}
use Rattle.desk_laws.specs.declared.cause.Cause.TheVariants.{BadType, BadLength}
use Rattle.desk_laws.specs.Stream as stream
use Rattle.desk_laws.specs.Stream.{StreamUnit, Front, Wait, Fault, Takes, front_by, head_fault}

-- what the bytes after the version word begin with
pub data Shown : Type 0 where
  Whole : (header : Header) (body : List ℕ) → Shown
  Bad : (header : Header) (fault : WireFault) → Shown
  ClipLong : (header : Header) → Shown
  Skipped : (header : Header) → Shown
  Skipping : (left : ℕ) → Shown
  Need : (more : ℕ) → Shown

-- whether a header announces clipboard data whose body is longer than the limit, and is passed over
abbrev pub is_passed_over : ℕ → Header → Bool
is_passed_over limit header = header.kind == 140 && (nat_lt limit header.len && nat_le header.len MAX_SKIPPED_CLIPBOARD)

-- how many bytes the header, or the message that it begins, lacks
abbrev pub lacking : List ℕ → ℕ
lacking rest = if nat_lt (length rest) 12 then 12 - length rest else 12 + (header_at rest).len - length rest

-- bytes that begin with no whole message
abbrev pub waiting : ℕ → List ℕ → Shown
waiting limit rest =
    if nat_le 12 (length rest) && is_passed_over limit (header_at rest) then Skipping (lacking rest) else Need (lacking rest)

-- bytes that begin with a header that has a fault: of its type, of its length, or that it announces
-- more clipboard data than may be passed over, the one fault besides these
abbrev pub faulty : Header → Cause → Shown
faulty header (BadType kind b) = Bad header (Kind kind)
faulty header (BadLength len b) = Bad header (Length len)
faulty header cause = ClipLong header

-- bytes that begin with a whole message; after the version word there is no other unit
abbrev pub complete : ℕ → StreamUnit → Shown
complete limit (stream.Whole header body) = if is_passed_over limit header then Skipped header else Whole header body
complete limit unit = Need 0

-- bytes that begin as the cut of a guest's bytes says
abbrev pub shown_of : ℕ → List ℕ → Front → Shown
shown_of limit rest Wait = waiting limit rest
shown_of limit rest (Fault cause) = faulty (header_at rest) cause
shown_of limit rest (Takes unit behind) = complete limit unit

-- what bytes after the version word begin with, where clipboard bodies up to this limit are kept
abbrev pub shown : ℕ → List ℕ → Shown
shown limit rest = shown_of limit rest (front_by head_fault true rest)

abbrev pub word_of : Front → Option ℕ
word_of (Takes (stream.Word word) behind) = Some word
word_of front = None

-- the version word that bytes begin with, if they have its four bytes
abbrev pub word_shown : List ℕ → Option ℕ
word_shown rest = word_of (front_by head_fault false rest)
