use Rattle.std.proofs.Common.{◌≡◌, drop}
use Rattle.gui_wire.specs.Seen.{references}
use Rattle.desk_laws.specs.Effects as effects
use Rattle.message_checks.proofs.rows.bad_ref.Given as goal

abbrev pub invariant-loop-i : goal.invariant-loop-i
invariant-loop-i l = effects.bad_ref l.pages (references l.refs) ≡ effects.bad_ref l.pages (drop l.i (references l.refs))
