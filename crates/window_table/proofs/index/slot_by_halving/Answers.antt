use Rattle.std.proofs.Common.{◌∙◌, sym}
use Rattle.window_table.proofs.KeyLemmas.{slot-here}
use Rattle.window_table.proofs.index.slot_by_halving.Goals as goal

pub returns : goal.returns
returns c = c.slot_at.ensures ∙ sym (slot-here c.args.window 0 c.args.keys.now c.place_for.result c.requires c.place_for.ensures)
