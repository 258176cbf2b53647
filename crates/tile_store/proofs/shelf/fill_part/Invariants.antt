use Rattle.std.proofs.Common.{◌≡◌, ℕ, ◌+◌, ◌<◌, ◌≤◌, slice_index}
use Rattle.tile_store.proofs.shelf.fill_part.Given as goal

abbrev pub invariant-loop-j : goal.invariant-loop-j
invariant-loop-j l =
    ((i : ℕ) → l.at ≤ i → i < l.at + l.j → slice_index l.out i ≡ l.colour)
    × ((i : ℕ) → i < l.at → slice_index l.out i ≡ slice_index l.fn.out i)
