use Rattle.input_router.proofs.SettleLemmas.{leads-both}
use Rattle.input_router.proofs.router.Router.tell_now.Goals as goal

pub returns-clause-leads : goal.returns-clause-leads
returns-clause-leads g c =
    leads-both g.V.Deliver.delivers c.args.to.now c.tell_focus.new.to c.tell_hover.new.to _ _ c.tell_focus.ensures c.tell_hover.ensures
