use Rattle.std.proofs.Common.{◌≡◌, ◌≤◌, take, length, vec_capacity}
use Rattle.region_clip.specs.Regions.{cut_all}
use Rattle.region_clip.proofs.region.put_cuts.Given as goal

-- what the cut left of the pieces so far
abbrev pub invariant-loop-piece : goal.invariant-loop-piece
invariant-loop-piece l = record {
  items : l.left.items ≡ cut_all l.cut (take l.piece-index l.pieces);
  few : length l.left.items ≤ l.room;
  capacity : vec_capacity l.left ≡ vec_capacity l.initial.left;
}
