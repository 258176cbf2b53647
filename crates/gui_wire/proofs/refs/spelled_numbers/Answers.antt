use Rattle.std.proofs.Common.{arith}
use Rattle.gui_wire.proofs.WordLemmas.{length-all_words, words-all_words}
use Rattle.gui_wire.proofs.refs.spelled_numbers.Goals as goal

pub returns-clause-len : goal.returns-clause-len
returns-clause-len c = omega (arith, length-all_words c.args.bytes.now)

pub returns-clause-numbers : goal.returns-clause-numbers
returns-clause-numbers c = words-all_words c.args.bytes.now (λ k. omega (arith, c.type_inv.bytes k)) c.requires
