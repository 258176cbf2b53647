use Rattle.std.proofs.Common.{sym, subst, arith}
use Rattle.gui_num.specs.declared.Rect.{Rect}
use Rattle.desk_core.specs.ShownView.{CanBePainted}
use Rattle.desk_core.proofs.PaneLemmas.{can-paint}
use Rattle.desk_core.proofs.panes.bordered.Goals as goal

pub invariant_of-result : goal.invariant_of-result
invariant_of-result c =
    subst (λ (r : Rect). CanBePainted (record { outer = r; content = c.args.place; colour = c.args.label })) (sym c.outer.ensures)
    (can-paint c.args.place _ c.args.label c.requires.place (omega arith))
