use Rattle.std.proofs.Common.{◌∙◌, sym}
use Rattle.window_table.proofs.KeyLemmas.{slot-near}
use Rattle.window_table.proofs.index.slot_near.Goals as goal

pub returns-in-Some : goal.returns-in-Some
returns-in-Some c =
    sym (slot-near c.args.window c.in-Some.slot 0 c.args.keys.now c.args.near c.requires (sym c.slot_at.ensures ∙ c.in-Some.is)).1
