use Rattle.input_router.proofs.RouteLemmas.{release-done}
use Rattle.input_router.proofs.router.Router.button.Goals as goal

pub returns-clause-presses : goal.returns-clause-presses
returns-clause-presses g c = λ setup scene is.
    release-done g.V.Deliver.delivers c.args.to.now c.release.new.to setup (g.Q.Places.spots c.args.places.now) c.args.stack.now.layers
    c.args.self.now c.release.new.self c.args.down c.args.button c.args.state scene is c.if-down.false (c.release.ensures setup.border scene is.shows is.has_seat)
