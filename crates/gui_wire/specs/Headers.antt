-- The header of a message, and what is wrong with one.
use Rattle.std.specs.Prelude.{ℕ, List, [], ◌∷◌, Result, Ok, Err, if◌then◌else◌}
use Rattle.gui_wire.specs.declared.Header.{Header}
use Rattle.gui_wire.specs.declared.LengthRule.{LengthRule}
use Rattle.gui_wire.specs.declared.LengthRule.TheVariants.{Unknown, Exactly, Clip, Dump}
use Rattle.gui_wire.specs.declared.WireFault.{WireFault}
use Rattle.gui_wire.specs.declared.WireFault.TheVariants.{Kind, Length}
use Rattle.gui_wire.specs.Words.{words, word_at}
use Rattle.gui_wire.specs.AgentMessages.{rule_of, fits_rule}

-- the header that 12 bytes spell
abbrev pub header_at : List ℕ → Header
header_at bytes = record { kind = word_at 0 bytes; window = word_at 1 bytes; len = word_at 2 bytes }

-- the 12 bytes of a header
abbrev pub header_bytes : Header → List ℕ
header_bytes header = words (header.kind ∷ header.window ∷ header.len ∷ [])

-- the answer of a header whose type has this rule: an unknown type, a length that doesn't fit, or neither
abbrev pub result_by : LengthRule → Header → Result (Unit {0}) WireFault
result_by Unknown header = Err (Kind header.kind)
result_by (Exactly n) header = if fits_rule (Exactly n) header.len then Ok tt else Err (Length header.len)
result_by Clip header = Ok tt
result_by Dump header = if fits_rule Dump header.len then Ok tt else Err (Length header.len)

-- whether a header may stand before a body, by the table of the agent's messages
abbrev pub head_result : Header → Result (Unit {0}) WireFault
head_result header = result_by (rule_of header.kind) header
