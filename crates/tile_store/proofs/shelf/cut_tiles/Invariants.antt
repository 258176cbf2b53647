use Rattle.std.proofs.Common.{◌≡◌, ◌++◌, length, take, drop, map, vec_capacity}
use Rattle.tile_store.specs.Held.{cut_tile}
use Rattle.tile_store.specs.Kept.{tiles_in}
use Rattle.tile_store.proofs.shelf.cut_tiles.Given as goal

abbrev pub invariant-loop-i : goal.invariant-loop-i
invariant-loop-i l =
    (tiles_in l.squares.items l.held ≡ map (cut_tile l.slot l.w l.h) (take l.i (tiles_in l.fn.squares.items l.held)) ++ drop l.i (tiles_in l.fn.squares.items l.held))
    × (length l.squares.items ≡ length l.fn.squares.items)
    × (vec_capacity l.squares ≡ vec_capacity l.fn.squares)
