use Rattle.std.specs.Prelude.{Option}
use Rattle.std.specs.Option.{ForSome}
use Rattle.std.proofs.lemmas.List.Elements.{All-replicate}
use Rattle.agent_tree.specs.declared.frame.Frame.{Frame}
use Rattle.agent_tree.specs.Frames.{IsNarrow}
use Rattle.agent_tree.proofs.paint.first_frames.Goals as goal

pub returns-clause-narrow : goal.returns-clause-narrow
returns-clause-narrow c = All-replicate (λ (f : Option Frame). ForSome f IsNarrow) 66 c.outermost.result c.outermost.ensures.narrow
