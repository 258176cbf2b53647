use Rattle.std.proofs.Common.{length, ap, arith}
use Rattle.gui_wire.specs.AgentMessages.{body_of}
use Rattle.gui_wire.specs.Seen.{message}
use Rattle.gui_wire.proofs.SpellingLemmas.{length-words}
use Rattle.gui_wire.proofs.write_agent.spell_agent.Goals as goal

pub spell_numbers-requires-in-Hints-clause-room : goal.spell_numbers-requires-in-Hints-clause-room
spell_numbers-requires-in-Hints-clause-room c =
    let hints = c.in-Hints.hints in
    let is = ap (λ m. length (body_of (message m))) c.in-Hints.is in
    let same = ap length c.hint_numbers.ensures.value in
    omega (arith, is, same, length-words hints, c.hint_numbers.ensures.len)

pub returns-in-Hints-clause-len : goal.returns-in-Hints-clause-len
returns-in-Hints-clause-len c =
    let hints = c.in-Hints.hints in
    let is = ap (λ m. length (body_of (message m))) c.in-Hints.is in
    let same = ap length c.hint_numbers.ensures.value in
    omega (arith, is, same, length-words hints, c.hint_numbers.ensures.len, c.spell_numbers-in-Hints.ensures.len)
