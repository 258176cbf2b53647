use Rattle.std.proofs.Common.{◌∙◌, ap, arith}
use Rattle.desk_laws.specs.Frames.{zeros}
use Rattle.replay_driver.specs.FeedOutcomes.{FeedCall}
use Rattle.replay_driver.proofs.RunLemmas.{no_memory}
use Rattle.replay_driver.proofs.run.desk_run.Goals as goal

pub run_items-requires-clause-stands : goal.run_items-requires-clause-stands
run_items-requires-clause-stands g c = c.in-Ok-open.ensures.stands (g.P.FramePort.state c.args.port.now) (λ guest below.
    c.requires.zeros guest (omega (arith, below, c.requires.port_guests)) ∙ ap zeros c.requires.port_pages)

pub returns-in-Err-clause-ran : goal.returns-in-Err-clause-ran
returns-in-Err-clause-ran g c = no_memory (FeedCall g.F.Feed.gives g.F.Feed.left g.F.Feed.given) c.args.setup.now c.args.bounds.items c.args.feed.now (g.P.FramePort.state c.args.port.now) _
    (λ guest below. c.requires.zeros guest (omega (arith, below, c.requires.port_guests)) ∙ ap zeros c.requires.port_pages)
