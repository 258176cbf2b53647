use Rattle.std.proofs.Common.{◌≡◌, drop}
use Rattle.region_clip.specs.RectCuts.{in_rects}
use Rattle.region_clip.proofs.region.one_has.Given as goal

-- none of those before has it
abbrev pub invariant-loop-r : goal.invariant-loop-r
invariant-loop-r l = in_rects (drop l.r-index l.rects) l.p ≡ in_rects l.rects l.p
