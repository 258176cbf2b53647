use Rattle.std.proofs.Common.{[]}
use Rattle.replay_driver.proofs.replay_feed.ReplayFeed.go_on.Goals as goal

pub returns-in-Ok-clause-state : goal.returns-in-Ok-clause-state
returns-in-Ok-clause-state g c = c.state_behind-self-inside.ensures []
