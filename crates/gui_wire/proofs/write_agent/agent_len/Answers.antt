use Rattle.std.proofs.Common.{length, ap, arith}
use Rattle.gui_wire.specs.AgentMessages.{body_of}
use Rattle.gui_wire.specs.Seen.{message}
use Rattle.gui_wire.proofs.SpellingLemmas.{length-words}
use Rattle.gui_wire.proofs.write_agent.agent_len.Goals as goal

pub returns-in-Hints-clause-whole : goal.returns-in-Hints-clause-whole
returns-in-Hints-clause-whole c =
    let hints = c.in-Hints.hints in
    let is = ap (λ m. length (body_of (message m))) c.in-Hints.is in
    let same = ap length c.hint_numbers.ensures.value in
    omega (arith, is, same, length-words hints, c.hint_numbers.ensures.len)

pub returns-in-Hints-clause-len : goal.returns-in-Hints-clause-len
returns-in-Hints-clause-len c = λ _.
    let hints = c.in-Hints.hints in
    let is = ap (λ m. length (body_of (message m))) c.in-Hints.is in
    let same = ap length c.hint_numbers.ensures.value in
    omega (arith, is, same, length-words hints, c.hint_numbers.ensures.len)
