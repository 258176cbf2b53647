use Rattle.std.proofs.Common.{◌≡◌, ◌++◌, Option, Some, None, Result, IfOk, IsOkAnd, option_map, sym, ◌∙◌, subst, arith, rules}
use Rattle.std.specs.Option.{ok_or}
use Rattle.gui_wire.specs.declared.AgentMsg.{AgentMsg}
use Rattle.gui_wire.specs.declared.WireFault.{WireFault}
use Rattle.gui_wire.specs.AgentMessages.{AgentMessage, reading, rule_of, spelling, HasSpelling}
use Rattle.gui_wire.specs.Headers.{header_bytes}
use Rattle.gui_wire.specs.Seen.{message}
use Rattle.gui_wire.proofs.ReadingLemmas.{reading-spelled, fits-from_result, spelling-known, spelled-known}
use Rattle.gui_wire.proofs.read_agent.body_of.Goals as goal

-- what holds of the message that a body reads as holds of the answer
each : (o : Option AgentMsg) (e : WireFault) (r : Result AgentMsg WireFault) (reads : Option AgentMessage) (P : AgentMessage → Type 0)
    → r ≡ ok_or o e → option_map message o ≡ reads → ((m : AgentMessage) → reads ≡ Some m → P m) → IfOk r (λ m. P (message m))
each o e r reads P is same h = subst (λ (v : Result AgentMsg WireFault). IfOk v (λ m. P (message m))) (sym is) (by o same)
  where
    by : (o : Option AgentMsg) → option_map message o ≡ reads → IfOk (ok_or o e) (λ m. P (message m))
    by None same = tt
    by (Some m) same = h (message m) (sym same)

one : (o : Option AgentMsg) (e : WireFault) (r : Result AgentMsg WireFault) (m : AgentMessage)
    → r ≡ ok_or o e → option_map message o ≡ Some m → IsOkAnd r (λ n. message n ≡ m)
one o e r m is same = subst (λ (v : Result AgentMsg WireFault). IsOkAnd v (λ n. message n ≡ m)) (sym is) (by o same)
  where
    by : (o : Option AgentMsg) → option_map message o ≡ Some m → IsOkAnd (ok_or o e) (λ n. message n ≡ m)
    by None same = absurd cc
    by (Some n) same = cc

pub returns-in_err-head_check-clause-known : goal.returns-in_err-head_check-clause-known
returns-in_err-head_check-clause-known c = λ m has e.
    let known = spelling-known c.args.header c.args.body.now m (search rules, (search rules, (search rules, tt))) has e in
    let fits = known.fits in
    let not = c.in_err-head_check.ensures in
    absurd cc

pub returns-clause-spelled : goal.returns-clause-spelled
returns-clause-spelled c =
    let header = c.args.header in
    let body = c.args.body.now in
    let fits = fits-from_result (rule_of header.kind) header (sym c.in_ok-head_check.ensures) in
    each _ _ _ (reading header.kind body) (λ m. spelling header.window m ≡ header_bytes header ++ body) c.ok_or.ensures.value c.message_of.ensures
    (λ m e. spelled-known header body m c.requires (reading-spelled body (λ k. omega (arith, c.type_inv.body k)) (search rules) header.kind (rw c.requires fits) m e))

pub returns-clause-lengths : goal.returns-clause-lengths
returns-clause-lengths c =
    let header = c.args.header in
    let body = c.args.body.now in
    let fits = fits-from_result (rule_of header.kind) header (sym c.in_ok-head_check.ensures) in
    each _ _ _ (reading header.kind body) HasSpelling c.ok_or.ensures.value c.message_of.ensures
    (λ m e. let is = reading-spelled body (λ k. omega (arith, c.type_inv.body k)) (search rules) header.kind (rw c.requires fits) m e in is.fits)

pub returns-clause-known : goal.returns-clause-known
returns-clause-known c = λ m has e.
    let known = spelling-known c.args.header c.args.body.now m (search rules, (search rules, (search rules, tt))) has e in
    one _ _ _ m c.ok_or.ensures.value (c.message_of.ensures ∙ known.reads)
