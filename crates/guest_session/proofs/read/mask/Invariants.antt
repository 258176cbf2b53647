use Rattle.std.proofs.Common.{◌≡◌, ◌++◌, map, take, drop, length}
use Rattle.guest_session.specs.Areas.{colour_of}
use Rattle.guest_session.proofs.read.mask.Given as goal

-- the words before this one are colours
abbrev pub invariant-loop-k : goal.invariant-loop-k
invariant-loop-k l = (l.words ≡ map colour_of (take l.k l.fn.words) ++ drop l.k l.fn.words) × (length l.words ≡ length l.fn.words)
