use Rattle.std.proofs.Common.{◌∙◌, ap}
use Rattle.agent_tree.specs.Paths.{along}
use Rattle.agent_tree.proofs.PathLemmas.{path-indices, along-frame}
use Rattle.agent_tree.proofs.path.frame_at.Goals as goal

pub along-requires-clause-path : goal.along-requires-clause-path
along-requires-clause-path c = path-indices c.args.boxes.now _ c.args.at c.args.level (c.as_slice.ensures ∙ c.in_ok-path.ensures)

pub returns-clause-is : goal.returns-clause-is
returns-clause-is c =
    c.along.ensures.is ∙ ap (along c.args.window c.args.boxes.now) (c.as_slice.ensures ∙ c.in_ok-path.ensures)
    ∙ along-frame c.args.window c.args.boxes.now c.args.at c.args.level
