use Rattle.std.proofs.Common.{◌∙◌, sym, rules, w32, SFits}
use Rattle.std.proofs.lemmas.Int.{to_z-of_z}
use Rattle.desk_laws.specs.Events.{move_to}
use Rattle.input_router.specs.Commanded.{place_in}
use Rattle.input_router.proofs.RangeLemmas.{place-told}
use Rattle.input_router.proofs.commands.move_focus.Goals as goal

pub returns-in-Some-clause-leads : goal.returns-in-Some-clause-leads
returns-in-Some-clause-leads g c =
    let x : SFits w32 c.args.x = search rules in
    let y : SFits w32 c.args.y = search rules in
    let moved = simp to_z-of_z at c.moved_to.ensures.is in
    place-told g.V.Deliver.delivers c.args.to.now c.tell_place.new.to (move_to c.args.x c.args.y) c.in-Some.id c.in-Some.place c.moved_to.result
    (place_in (g.Q.Places.spots c.args.places.now) c.args.focus) moved
    (sym c.in-Some.is ∙ c.with_place.ensures.is) c.tell_place.ensures
