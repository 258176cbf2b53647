use Rattle.std.proofs.Common.{◌≡◌, ℕ, ◌+◌, ◌-◌, ◌<◌, ◌≤◌, length, slice_index}
use Rattle.tile_store.specs.Held.{colour_at}
use Rattle.tile_store.specs.Contents.{colour_or}
use Rattle.tile_store.specs.Kept.{tiles_in}
use Rattle.tile_store.proofs.tiles.read_parts.Given as goal

abbrev pub invariant-loop-done : goal.invariant-loop-done
invariant-loop-done l =
    (l.done ≤ length l.out)
    × (length l.out ≡ length l.fn.out)
    × ((i : ℕ) → i < l.done → slice_index l.out i ≡ colour_or l.blank (colour_at l.slot (l.x + i) l.y (tiles_in l.squares l.held)))

abbrev pub decreases-loop-done : goal.decreases-loop-done
decreases-loop-done l = length l.out - l.done
