use Rattle.std.proofs.Common.{sym}
use Rattle.gui_wire.proofs.WordLemmas.{length-all_words}
use Rattle.gui_wire.proofs.refs.Refs.count.Goals as goal

pub returns : goal.returns
returns c = sym (length-all_words c.args.self.now.bytes.now)
