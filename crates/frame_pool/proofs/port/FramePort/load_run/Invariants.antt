use Rattle.frame_pool.specs.Ports.{ChangesFrames}
use Rattle.frame_pool.proofs.RunLemmas.{RunSoFar}
use Rattle.frame_pool.proofs.port.FramePort.load_run.Given as goal

-- the words before this one are loaded
abbrev pub invariant-loop-k : goal.invariant-loop-k
invariant-loop-k g l =
    RunSoFar (g.Self.FramePort.state l.fn.self l.guest) (g.Self.FramePort.state l.self l.guest) l.place.page l.place.word l.fn.words l.words l.k
    × ChangesFrames g.Self.FramePort.guests g.Self.FramePort.pages g.Self.FramePort.state l.guest l.fn.self l.self
