use Rattle.std.proofs.Common.{◌∙◌}
use Rattle.guest_session.proofs.DeskLemmas.{kept-fits}
use Rattle.guest_session.proofs.desk.desk_of.Goals as goal

pub returns-clause-fit : goal.returns-clause-fit
returns-clause-fit c =
    kept-fits c.args.setup.now c.in_ok-outputs.outputs c.clip_limit.result c.requires (c.in_ok-outputs.ensures ∙ c.items.ensures) c.clip_limit.ensures
