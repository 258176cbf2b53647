-- A guest's bytes, cut into units and a rest.
use Rattle.std.specs.Prelude.{ℕ, zero, suc, Bool, true, false, List, [], ◌∷◌, length, drop, take, Option, Some, None, if◌then◌else◌, nat_lt, ◌||◌}
use Rattle.gui_wire.specs.declared.Header.{Header}
use Rattle.gui_wire.specs.declared.LengthRule.{LengthRule}
use Rattle.gui_wire.specs.declared.LengthRule.TheVariants.{Unknown, Exactly, Clip, Dump}
use Rattle.gui_wire.specs.AgentMessages.{rule_of, fits_rule}
use Rattle.gui_wire.specs.Headers.{header_at}
use Rattle.gui_wire.specs.Words.{word_at}
use Rattle.desk_laws.specs.declared.limits.TheConstants.{MAX_SKIPPED_CLIPBOARD}
use Rattle.desk_laws.specs.declared.cause.Cause.{Cause}
use Rattle.desk_laws.specs.declared.cause.Cause.TheVariants.{BadType, BadLength, ClipTooLong}

-- what one step takes off a guest's bytes
pub data StreamUnit : Type 0 where
  Word : (word : ℕ) → StreamUnit
  Stop : (cause : Cause) → StreamUnit
  Whole : (header : Header) (body : List ℕ) → StreamUnit

-- how a list of bytes begins: with no whole unit, with a fault, or with a unit and what follows it
pub data Front : Type 0 where
  Wait : Front
  Fault : Cause → Front
  Takes : StreamUnit → List ℕ → Front

-- the fault of a header alone, by the rule of its type: the type is unknown, the length breaks the rule,
-- or it announces clipboard data that is too long even to be skipped
abbrev pub fault_by : LengthRule → Header → Option Cause
fault_by Unknown header = Some (BadType header.kind 0)
fault_by (Exactly n) header = if fits_rule (Exactly n) header.len then None else Some (BadLength header.len 0)
fault_by Clip header = if nat_lt MAX_SKIPPED_CLIPBOARD header.len then Some (ClipTooLong header.len 0) else None
fault_by Dump header = if fits_rule Dump header.len then None else Some (BadLength header.len 0)

-- the fault of a header alone
abbrev pub head_fault : Header → Option Cause
head_fault header = fault_by (rule_of header.kind) header

-- the unit of a header and the bytes behind it
abbrev pub front_of : Option Cause → Header → List ℕ → Front
front_of (Some cause) header behind = Fault cause
front_of None header behind =
    if nat_lt (length behind) header.len then Wait else Takes (Whole header (take header.len behind)) (drop header.len behind)

-- the first unit, where headers have these faults: the version word, and then messages
abbrev pub front_by : (Header → Option Cause) → Bool → List ℕ → Front
front_by fault_of false bytes = if nat_lt (length bytes) 4 then Wait else Takes (Word (word_at 0 bytes)) (drop 4 bytes)
front_by fault_of true bytes =
    if nat_lt (length bytes) 12 then Wait else front_of (fault_of (header_at bytes)) (header_at bytes) (drop 12 bytes)

-- the first unit
abbrev pub front : Bool → List ℕ → Front
front greeted bytes = front_by head_fault greeted bytes

pub record Cut : Type 0 where
  pub units : List StreamUnit
  pub rest : List ℕ

abbrev pub unit_and : StreamUnit → Cut → Cut
unit_and unit cut = record { units = unit ∷ cut.units; rest = cut.rest }

-- at most n units, one after the other, where headers have these faults
abbrev pub cut_within : (Header → Option Cause) → ℕ → Bool → List ℕ → Cut
cut_within fault_of zero greeted bytes = record { units = []; rest = bytes }
cut_within fault_of (suc n) greeted bytes = elim (front_by fault_of greeted bytes) [
  | Wait ↦ record { units = []; rest = bytes }
  | Fault cause ↦ record { units = Stop cause ∷ []; rest = [] }
  | Takes unit behind ↦ unit_and unit (cut_within fault_of n true behind)
]

-- all units, where headers have these faults: each takes at least one byte
abbrev pub cut_by : (Header → Option Cause) → Bool → List ℕ → Cut
cut_by fault_of greeted bytes = cut_within fault_of (length bytes) greeted bytes

-- all units
abbrev pub cut : Bool → List ℕ → Cut
cut greeted bytes = cut_by head_fault greeted bytes

-- whether a guest is greeted once these units were taken
abbrev pub is_greeting : StreamUnit → Bool
is_greeting (Word word) = true
is_greeting (Stop cause) = false
is_greeting (Whole header body) = false

abbrev pub greeted_after : List StreamUnit → Bool → Bool
greeted_after [] greeted = greeted
greeted_after (unit ∷ units) greeted = greeted_after units (is_greeting unit || greeted)

-- whether no fault stands among the units
abbrev pub is_clean : List StreamUnit → Bool
is_clean [] = true
is_clean (Word word ∷ units) = is_clean units
is_clean (Stop cause ∷ units) = false
is_clean (Whole header body ∷ units) = is_clean units
