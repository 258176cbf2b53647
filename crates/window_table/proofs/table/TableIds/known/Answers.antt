use Rattle.std.proofs.Common.{is_some, ap, ◌∙◌}
use Rattle.window_table.proofs.EntryLemmas.{known-row}
use Rattle.window_table.proofs.table.TableIds.known.Goals as goal

pub returns : goal.returns
returns c =
    c.is_some.ensures ∙ ap is_some c.slot_of.ensures.slot ∙ known-row c.args.window c.args.self.now.entries
