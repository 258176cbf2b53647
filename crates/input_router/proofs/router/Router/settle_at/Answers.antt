use Rattle.input_router.proofs.SettleLemmas.{settle-at-done}
use Rattle.input_router.proofs.router.Router.settle_at.Goals as goal

pub returns : goal.returns
returns g c = λ sizes scene p holds is_hover.
    settle-at-done g.V.Deliver.delivers c.args.to.now c.tell_now.new.to sizes (g.Q.Places.spots c.args.places.now) c.args.stack.now.layers
    c.args.self.now c.tell_now.new.self c.last_listed-focus.result c.args.hover scene p holds
    c.last_listed-focus.ensures.is is_hover c.tell_now.ensures.seat c.tell_now.ensures.leads
