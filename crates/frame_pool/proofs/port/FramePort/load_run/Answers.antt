use Rattle.frame_pool.proofs.RunLemmas.{run-words}
use Rattle.frame_pool.proofs.port.FramePort.load_run.Goals as goal

pub returns-clause-words : goal.returns-clause-words
returns-clause-words g c =
    run-words (g.Self.FramePort.state c.args.self.now c.args.guest) (g.Self.FramePort.state c.loop-k.self c.args.guest) c.args.place.page c.args.place.word c.loop-k.k c.args.words.now
    c.loop-k.words c.loop-k-test.false c.loop-k.invariant.0
