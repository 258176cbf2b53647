use Rattle.frame_pool.specs.Touched.{IsCleared}
use Rattle.frame_pool.proofs.region.clear_page.Given as goal

-- the words before this one are zeros
abbrev pub invariant-loop-k : goal.invariant-loop-k
invariant-loop-k l = IsCleared l.fn.cells.words l.cells.words l.from l.k
