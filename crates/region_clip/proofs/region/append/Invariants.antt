use Rattle.std.proofs.Common.{◌≡◌, ◌++◌, take, vec_capacity}
use Rattle.region_clip.proofs.region.append.Given as goal

abbrev pub invariant-loop-piece : goal.invariant-loop-piece
invariant-loop-piece l = record {
  items : l.held.items ≡ l.initial.held.items ++ take l.piece-index l.pieces;
  capacity : vec_capacity l.held ≡ vec_capacity l.initial.held;
}
