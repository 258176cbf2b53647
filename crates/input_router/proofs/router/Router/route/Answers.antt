use Rattle.std.proofs.Common.{◌∙◌, ap}
use Rattle.desk_laws.specs.Scene.{Seat}
use Rattle.input_router.specs.Routes.{told}
use Rattle.input_router.proofs.ToldLemmas.{routes-noted, told_in}
use Rattle.input_router.proofs.router.Router.route.Goals as goal

pub returns-clause-routes : goal.returns-clause-routes
returns-clause-routes g c = λ setup scene is mapped holds stays.
    let focus = c.last_listed-focus_now.result in
    let hover = c.hover_now-hover_now.result in
    routes-noted g.V.Deliver.delivers c.args.to.now c.take-taken.new.to setup (g.Q.Places.spots c.args.places.now) c.args.stack.now.layers c.take-taken.new.stack.layers
    c.args.self.now c.note.new.self c.take-taken.new.self c.note-2.new.self focus hover c.take-taken.result c.args.item.now scene is holds
    c.last_listed-focus_now.ensures.is c.hover_now-hover_now.ensures c.note.ensures
    (λ here settled. c.take-taken.ensures.takes setup (told_in focus hover scene) here mapped settled stays)
    (c.note-2.ensures ∙ ap (λ (s : Seat). told s.focus s.hover c.take-taken.new.self) c.self.view_is)
