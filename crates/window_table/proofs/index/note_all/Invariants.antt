use Rattle.std.proofs.Common.{◌≡◌, length}
use Rattle.window_table.specs.declared.index.TheConstants.{NOTES}
use Rattle.window_table.proofs.index.note_all.Given as goal

abbrev pub invariant-loop-k : goal.invariant-loop-k
invariant-loop-k l = length l.notes.items ≡ NOTES
