use Rattle.std.proofs.Common.{ap, ◌∙◌, arith}
use Rattle.frame_pool.proofs.RunLemmas.{run-on, run-words}
use Rattle.frame_pool.proofs.frames.Frames.load_run.Goals as goal

pub loop-done-preserved : goal.loop-done-preserved
loop-done-preserved c = (
  run-on c.args.self.now.state c.loop-done.self.state c.load_part-done.new.self.state c.args.place.page c.args.place.word c.loop-done.done c.load_part-done.result c.args.words.now
      c.loop-done.words c.load_part-done.new.words (omega (arith, c.load_part-done.ensures.few, c.loop-done.invariant.0.len)) c.loop-done.invariant.0 c.load_part-done.ensures.words (ap (λ v. v.state) c.load_part-done.ensures.after),
  ap (λ v. v.pages) c.load_part-done.ensures.after ∙ c.loop-done.invariant.1,
)

pub returns-clause-words : goal.returns-clause-words
returns-clause-words c =
    run-words c.args.self.now.state c.loop-done.self.state c.args.place.page c.args.place.word c.loop-done.done c.args.words.now c.loop-done.words (omega (arith, c.loop-done-test.false, c.loop-done.invariant.0.len)) c.loop-done.invariant.0
