use Rattle.std.proofs.Common.{◌≡◌, ◌+◌, ◌++◌, ◌∙◌, length, drop, replicate, ap, arith, List, ℕ}
use Rattle.desk_laws.specs.Rows.{span}
use Rattle.gui_wire.specs.Words.{words, all_words}
use Rattle.gui_wire.specs.AgentMessages.{spelling, body_of, WindowDump}
use Rattle.record_format.proofs.made_pieces.dump_bytes.Goals as goal

pub spell_agent-requires-clause-lengths : goal.spell_agent-requires-clause-lengths
spell_agent-requires-clause-lengths c =
    let pages : all_words c.new.result.bytes.now ≡ span 0 8 = ap all_words c.new.ensures in
    let few : length (all_words c.new.result.bytes.now) ≡ 8 = ap length pages in
    omega (arith, few)

pub spell_agent-requires-clause-room : goal.spell_agent-requires-clause-room
spell_agent-requires-clause-room c =
    let size : length (words (all_words c.new.result.bytes.now)) ≡ 32 = ap (λ (l : List ℕ). length (words (all_words l))) c.new.ensures in
    omega (arith, size)

pub returns : goal.returns
returns c =
    let pages : all_words c.new.result.bytes.now ≡ span 0 8 = ap all_words c.new.ensures in
    c.spell_agent.ensures.out ∙ ap (λ (refs : List ℕ). spelling 1 (WindowDump 0 100 80 32 refs) ++ drop (12 + length (body_of (WindowDump 0 100 80 32 refs))) (replicate 60 0)) pages
