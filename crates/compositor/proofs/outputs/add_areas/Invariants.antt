use Rattle.std.proofs.Common.{◌≡◌, ◌+◌, take}
use Rattle.compositor.specs.PictureView.{shown_area, counted}
use Rattle.compositor.proofs.outputs.add_areas.Given as goal

-- the outputs before this one are counted
abbrev pub invariant-loop-output : goal.invariant-loop-output
invariant-loop-output l = l.count ≡ counted (l.painted + shown_area (take l.output-index l.outputs))
