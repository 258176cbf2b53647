use Rattle.std.proofs.Common.{◌≡◌, ◌≤◌, ◌+◌, drop, length, vec_capacity, ◌∷◌, []}
use Rattle.std.specs.List.{All}
use Rattle.region_clip.specs.RectCuts.{IsNear}
use Rattle.region_clip.specs.Regions.{cut_each}
use Rattle.region_clip.proofs.region.cut_out.Given as goal

-- the cuts that are still to come leave of the pieces what all of them leave of the rectangle
abbrev pub invariant-loop-cut : goal.invariant-loop-cut
invariant-loop-cut l = record {
  is : cut_each (length l.held) (drop l.cut-index l.held) l.pieces.items ≡ cut_each (length l.held) l.held (l.fn.r ∷ []);
  few : length l.held + length l.pieces.items ≤ 256;
  near : All IsNear l.pieces.items;
  pieces : 260 ≤ vec_capacity l.pieces;
  left : 260 ≤ vec_capacity l.left;
}
