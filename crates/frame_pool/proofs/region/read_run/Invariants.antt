use Rattle.std.proofs.Common.{◌≡◌, ◌+◌, ◌-◌, length}
use Rattle.desk_laws.specs.Frames.{write_words}
use Rattle.frame_pool.specs.Cells.{numbers}
use Rattle.frame_pool.specs.Runs.{words_from}
use Rattle.frame_pool.proofs.region.read_run.Given as goal

-- the words before this one are read
abbrev pub invariant-loop-k : goal.invariant-loop-k
invariant-loop-k l =
    (write_words l.words l.k (words_from (numbers l.cells.words) (l.at + l.k) (length l.fn.words - l.k))
    ≡ write_words l.fn.words 0 (words_from (numbers l.cells.words) l.at (length l.fn.words)))
    × (length l.words ≡ length l.fn.words)
