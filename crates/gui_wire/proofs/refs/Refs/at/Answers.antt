use Rattle.std.proofs.Common.{sym, ◌∙◌, arith}
use Rattle.gui_wire.proofs.WordLemmas.{length-all_words, get_or-all_words}
use Rattle.gui_wire.proofs.refs.Refs.at.Goals as goal

pub word_at-requires : goal.word_at-requires
word_at-requires c = omega (arith, length-all_words c.args.self.now.bytes.now)

pub returns : goal.returns
returns c =
    let bytes = c.args.self.now.bytes.now in
    c.word_at.ensures ∙ sym (get_or-all_words bytes c.args.i (omega (arith, length-all_words bytes)))
