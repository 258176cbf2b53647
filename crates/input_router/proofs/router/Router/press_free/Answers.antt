use Rattle.std.proofs.Common.{refl, sym, ◌∙◌, ap}
use Rattle.input_router.proofs.PointerLemmas.{press-row, press-nothing}
use Rattle.input_router.proofs.router.Router.press_free.Goals as goal

pub returns-in-Some-clause-presses : goal.returns-in-Some-clause-presses
returns-in-Some-clause-presses g c = λ setup scene is.
    press-row g.V.Deliver.delivers c.args.to.now c.grab_at.new.to setup (g.Q.Places.spots c.args.places.now) c.args.stack.now.layers c.raise_normal.new.stack.layers
    c.args.self.now c.grab_at.new.self c.args.p c.args.button c.args.state c.in-Some.id c.raise_normal.result scene is
    (sym c.top_at.ensures.is ∙ c.in-Some.is) c.in-Some.ensures.listed
    c.grab_at.ensures.seat c.grab_at.ensures.leads (ap (λ s. s.layers) c.raise_normal.ensures.stack) c.raise_normal.ensures.is

pub returns-in-None-clause-presses : goal.returns-in-None-clause-presses
returns-in-None-clause-presses g c = λ setup scene is.
    press-nothing g.V.Deliver.delivers c.args.to.now c.args.to.now setup (g.Q.Places.spots c.args.places.now) c.args.stack.now.layers
    c.args.self.now c.args.p c.args.button c.args.state scene is (sym c.top_at.ensures.is ∙ c.in-None.is) refl
