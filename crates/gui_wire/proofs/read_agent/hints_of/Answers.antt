use Rattle.std.proofs.Common.{◌≡◌, length, Some, sym, ap, ◌∙◌, arith}
use Rattle.std.proofs.lemmas.List.{ext_get_or}
use Rattle.gui_wire.specs.AgentMessages.{Hints}
use Rattle.gui_wire.specs.Words.{all_words}
use Rattle.gui_wire.proofs.WordLemmas.{length-all_words, get_or-all_words}
use Rattle.gui_wire.proofs.read_agent.hints_of.Goals as goal

pub returns : goal.returns
returns c =
    let body = c.args.body.now in
    let hints = c.read_u32_into.new.dst in
    let size : length hints ≡ length (all_words body) = omega (arith, length-all_words body, c.read_u32_into.auto.dst) in
    ap (λ ns. Some (Hints ns)) (ext_get_or 0 hints (all_words body) size (λ k h. c.read_u32_into.ensures k h ∙ sym (get_or-all_words body k (omega (arith, length-all_words body)))))
