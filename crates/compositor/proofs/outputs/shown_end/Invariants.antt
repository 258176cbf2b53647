use Rattle.std.proofs.Common.{◌≡◌, drop}
use Rattle.compositor.specs.Composed.{is_in, at_pixel}
use Rattle.compositor.proofs.outputs.shown_end.Given as goal

-- the outputs before this one haven't the pixel
abbrev pub invariant-loop-output : goal.invariant-loop-output
invariant-loop-output l = is_in l.outputs (at_pixel l.x l.y) ≡ is_in (drop l.output-index l.outputs) (at_pixel l.x l.y)
