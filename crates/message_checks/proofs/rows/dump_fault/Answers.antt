use Rattle.std.proofs.Common.{arith}
use Rattle.gui_wire.proofs.WordLemmas.{length-all_words}
use Rattle.message_checks.proofs.rows.dump_fault.Goals as goal

pub overflow_add-refs_besides : goal.overflow_add-refs_besides
overflow_add-refs_besides g c =
    let refs = c.args.refs.now in
    omega (arith, length-all_words refs.bytes.now, refs.small, c.requires.pages, c.requires.held, c.refs_besides.ensures, c.count.ensures)
