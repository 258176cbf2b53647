use Rattle.std.proofs.Common.{◌≡◌, ◌++◌, take, vec_capacity}
use Rattle.gui_wire.specs.Seen.{references}
use Rattle.window_table.proofs.ref_lists.append.Given as goal

abbrev pub invariant-loop-i : goal.invariant-loop-i
invariant-loop-i l =
    (l.items.items ≡ l.fn.items.items ++ take l.i (references l.fn.refs)) × (vec_capacity l.items ≡ vec_capacity l.fn.items)
