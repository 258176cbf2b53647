use Rattle.std.proofs.Common.{◌≡◌, ◌-◌, length}
use Rattle.frame_pool.proofs.RunLemmas.{RunSoFar}
use Rattle.frame_pool.proofs.frames.Frames.load_run.Given as goal

-- so many words are loaded
abbrev pub invariant-loop-done : goal.invariant-loop-done
invariant-loop-done l =
    RunSoFar l.fn.self.state l.self.state l.place.page l.place.word l.fn.words l.words l.done × (l.self.pages ≡ l.fn.self.pages)

abbrev pub decreases-loop-done : goal.decreases-loop-done
decreases-loop-done l = length l.initial.words - l.done
