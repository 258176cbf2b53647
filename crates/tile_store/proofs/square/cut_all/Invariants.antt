use Rattle.std.proofs.Common.{◌≡◌, ℕ, ◌*◌, ◌<◌, length, slice_index, if◌then◌else◌}
use Rattle.std.specs.Prelude.{nat_lt}
use Rattle.tile_store.specs.Squares.{cut_word}
use Rattle.tile_store.proofs.square.cut_all.Given as goal

abbrev pub invariant-loop-row : goal.invariant-loop-row
invariant-loop-row l =
    (length l.words ≡ 4096)
    × ((i : ℕ) → i < 4096 → slice_index l.words i ≡ (if nat_lt i (64 * l.row) then cut_word i l.w l.h (slice_index l.fn.words i) else slice_index l.fn.words i))
