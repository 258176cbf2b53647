use Rattle.input_router.proofs.SettleLemmas.{settle-done}
use Rattle.input_router.proofs.router.Router.settle.Goals as goal

pub returns : goal.returns
returns g c = λ sizes scene p.
    settle-done g.V.Deliver.delivers c.args.to.now c.tell_now.new.to sizes (g.Q.Places.spots c.args.places.now) c.args.stack.now.layers
    c.args.self.now c.check_grab.new.self c.tell_now.new.self c.last_listed-focus_now.result c.hover_now-hover_now.result scene p
    c.check_grab.ensures c.last_listed-focus_now.ensures.is c.hover_now-hover_now.ensures c.tell_now.ensures.seat c.tell_now.ensures.leads
