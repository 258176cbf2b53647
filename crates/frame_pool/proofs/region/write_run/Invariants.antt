use Rattle.std.proofs.Common.{◌≡◌, ◌+◌, length, drop}
use Rattle.gui_wire.specs.Words.{all_words}
use Rattle.frame_pool.specs.Touched.{stored_from}
use Rattle.frame_pool.proofs.region.write_run.Given as goal

-- the numbers before this one are written
abbrev pub invariant-loop-k : goal.invariant-loop-k
invariant-loop-k l =
    (stored_from l.cells.words (l.at + l.k) (drop l.k (all_words l.bytes)) ≡ stored_from l.fn.cells.words l.at (all_words l.bytes))
    × (length l.cells.words ≡ length l.fn.cells.words)
