-- A header without a fault.
use Rattle.std.proofs.Common.{◌≡◌, Bool, true, false, cond, Some, None}
use Rattle.std.specs.Prelude.{Result, Ok, Err}
use Rattle.gui_wire.specs.declared.Header.{Header}
use Rattle.gui_wire.specs.declared.LengthRule.{LengthRule}
use Rattle.gui_wire.specs.declared.LengthRule.TheVariants.{Unknown, Exactly, Clip, Dump}
use Rattle.gui_wire.specs.declared.WireFault.{WireFault}
use Rattle.gui_wire.specs.declared.WireFault.TheVariants.{Length}
use Rattle.gui_wire.specs.AgentMessages.{rule_of, fits_rule}
use Rattle.gui_wire.specs.Headers.{head_result, result_by}
use Rattle.desk_laws.specs.declared.cause.Cause.TheVariants.{BadLength}
use Rattle.desk_laws.specs.Stream.{head_fault, fault_by}

-- a length that fits is no fault of the header
fits-or : (b : Bool) (header : Header) (e : WireFault) → cond b None (Some (BadLength header.len 0)) ≡ None
    → cond {A = Result (Unit {0}) WireFault} b (Ok tt) (Err (Length header.len)) ≡ Err e → ⊥
fits-or true header e none err = cc
fits-or false header e none err = cc

rule-ok : (rule : LengthRule) (header : Header) (e : WireFault) → fault_by rule header ≡ None → result_by rule header ≡ Err e → ⊥
rule-ok Unknown header e none err = cc
rule-ok (Exactly n) header e none err = fits-or (fits_rule (Exactly n) header.len) header e none err
rule-ok Clip header e none err = cc
rule-ok Dump header e none err = fits-or (fits_rule Dump header.len) header e none err

-- a header without a fault is one of a message
pub head-ok : (header : Header) (e : WireFault) → head_fault header ≡ None → head_result header ≡ Err e → ⊥
head-ok header e none err = rule-ok (rule_of header.kind) header e none err
