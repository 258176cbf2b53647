use Rattle.std.proofs.Common.{◌≡◌, drop}
use Rattle.std.specs.Prelude.{find}
use Rattle.gui_num.specs.Rects.{has}
use Rattle.redirect_limits.proofs.outputs.output_of.Given as goal

abbrev pub invariant-loop-output : goal.invariant-loop-output
invariant-loop-output l =
    find (λ output. has output l.first) (drop l.output-index l.outputs) ≡ find (λ output. has output l.first) l.outputs
