use Rattle.std.proofs.Common.{◌≡◌, ℕ, ◌+◌, ◌-◌, ◌<◌, ◌≤◌, slice_index}
use Rattle.tile_store.specs.Squares.{shown}
use Rattle.tile_store.specs.Contents.{colour_or}
use Rattle.tile_store.proofs.square.copy_colours.Given as goal

abbrev pub invariant-loop-j : goal.invariant-loop-j
invariant-loop-j l =
    ((i : ℕ) → l.at ≤ i → i < l.at + l.j → slice_index l.out i ≡ colour_or l.blank (shown (slice_index l.words (l.k + (i - l.at)))))
    × ((i : ℕ) → i < l.at → slice_index l.out i ≡ slice_index l.fn.out i)
