use Rattle.std.proofs.Common.{None, false, refl, ap, subst, w32, SFits, rules}
use Rattle.std.proofs.lemmas.Int.{to_z-of_z}
use Rattle.desk_laws.specs.declared.item.Item.TheVariants.{MoveTo, SizeTo}
use Rattle.desk_laws.specs.Events.{move_to, size_to}
use Rattle.input_router.specs.Routes.{StaysOn}
use Rattle.input_router.proofs.PointerLemmas.{route-move}
use Rattle.input_router.proofs.RouteLemmas.{at-item, route-key, route-close, route-next, route-restore, route-place, route-press}
use Rattle.input_router.proofs.router.Router.take.Goals as goal

pub returns-in-Key-clause-takes : goal.returns-in-Key-clause-takes
returns-in-Key-clause-takes g c = λ setup scene is mapped still stays.
    at-item _ _ _ _ _ _ setup scene _ _ _ _ c.in-Key.is c.unraised.ensures
    (route-key g.V.Deliver.delivers c.args.to.now c.key.new.to setup (g.Q.Places.spots c.args.places.now) c.args.stack.now.layers
    c.args.self.now c.key.new.self c.in-Key.down c.in-Key.code c.in-Key.state scene is still c.key.ensures)

pub returns-in-Move-clause-takes : goal.returns-in-Move-clause-takes
returns-in-Move-clause-takes g c = λ setup scene is mapped still stays.
    let x : SFits w32 c.in-Move.x = search rules in
    let y : SFits w32 c.in-Move.y = search rules in
    let seat = simp to_z-of_z at c.point-hover.ensures.seat in
    let told = simp to_z-of_z at c.point-hover.ensures.leads in
    let found = simp to_z-of_z at c.point-hover.ensures.is in
    at-item _ _ _ _ _ _ setup scene _ _ _ _ c.in-Move.is c.moved.ensures
    (route-move g.V.Deliver.delivers c.args.to.now c.point-hover.new.to setup (g.Q.Places.spots c.args.places.now) c.args.stack.now.layers
    c.args.self.now (record { x = c.in-Move.x; y = c.in-Move.y }) scene is still c.point-hover.new.self c.in-Move.state c.point-hover.result
    (subst (StaysOn setup) c.in-Move.is stays) seat told found)

pub returns-in-Press-clause-takes : goal.returns-in-Press-clause-takes
returns-in-Press-clause-takes g c = λ setup scene is mapped still stays.
    at-item _ _ _ _ _ _ setup scene _ _ _ _ c.in-Press.is c.named.ensures
    (route-press g.V.Deliver.delivers c.args.to.now c.button.new.to setup c.args.stack.now.layers c.button.new.stack.layers
    c.button.new.self c.in-Press.down c.in-Press.button c.in-Press.state c.button.result scene (c.button.ensures.presses setup scene is))

pub returns-in-Close-clause-takes : goal.returns-in-Close-clause-takes
returns-in-Close-clause-takes g c = λ setup scene is mapped still stays.
    at-item _ _ _ _ _ _ setup scene _ _ _ _ c.in-Close.is c.unraised-in-Close.ensures
    (route-close g.V.Deliver.delivers c.args.to.now c.close_focus.new.to setup (g.Q.Places.spots c.args.places.now) c.args.stack.now.layers
    c.args.self.now c.focus.result scene is still c.focus.ensures c.close_focus.ensures)

pub returns-in-Next-clause-takes : goal.returns-in-Next-clause-takes
returns-in-Next-clause-takes g c = λ setup scene is mapped still stays.
    at-item _ _ _ _ _ _ setup scene _ _ _ _ c.in-Next.is c.named-in-Next.ensures
    (route-next g.V.Deliver.delivers c.args.to.now setup (g.Q.Places.spots c.args.places.now) c.args.stack.now.layers c.raise_next.new.stack.layers
    c.args.self.now c.raise_next.result scene is c.raise_next.ensures.is c.raise_next.ensures.listed (ap (λ s. s.layers) c.raise_next.ensures.stack))

pub returns-in-Restore-clause-takes : goal.returns-in-Restore-clause-takes
returns-in-Restore-clause-takes g c = λ setup scene is mapped still stays.
    at-item _ _ _ _ _ _ setup scene _ _ _ _ c.in-Restore.is c.named-in-Restore.ensures
    (route-restore g.V.Deliver.delivers c.args.to.now c.restore_last-restored.new.to setup (g.Q.Places.spots c.args.places.now) c.args.stack.now.layers c.restore_last-restored.new.stack.layers
    c.args.self.now c.restore_last-restored.result scene is mapped c.restore_last-restored.ensures.is c.restore_last-restored.ensures.listed (ap (λ s. s.layers) c.restore_last-restored.ensures.stack) c.restore_last-restored.ensures.leads)

pub returns-in-MoveTo-clause-takes : goal.returns-in-MoveTo-clause-takes
returns-in-MoveTo-clause-takes g c = λ setup scene is mapped still stays.
    let x : SFits w32 c.in-MoveTo.x = search rules in
    let y : SFits w32 c.in-MoveTo.y = search rules in
    let told = simp to_z-of_z at c.move_focus.ensures.leads in
    at-item _ _ _ _ _ _ setup scene _ _ _ (record { raised = None; changed = c.move_focus.result; settled = false; hover = None }) c.in-MoveTo.is c.named-in-MoveTo.ensures
    (route-place g.V.Deliver.delivers c.args.to.now c.move_focus.new.to setup (g.Q.Places.spots c.args.places.now) c.args.stack.now.layers
    c.args.self.now (move_to c.in-MoveTo.x c.in-MoveTo.y) c.focus-in-MoveTo.result c.move_focus.result scene (MoveTo c.in-MoveTo.x c.in-MoveTo.y) is still (record { outcome = refl; unraised = refl; unsaid = refl; unfound = tt }) c.focus-in-MoveTo.ensures told c.move_focus.ensures.is)

pub returns-in-SizeTo-clause-takes : goal.returns-in-SizeTo-clause-takes
returns-in-SizeTo-clause-takes g c = λ setup scene is mapped still stays.
    let w : SFits w32 c.in-SizeTo.w = search rules in
    let h : SFits w32 c.in-SizeTo.h = search rules in
    let told = simp to_z-of_z at c.size_focus.ensures.leads in
    at-item _ _ _ _ _ _ setup scene _ _ _ (record { raised = None; changed = c.size_focus.result; settled = false; hover = None }) c.in-SizeTo.is c.named-in-SizeTo.ensures
    (route-place g.V.Deliver.delivers c.args.to.now c.size_focus.new.to setup (g.Q.Places.spots c.args.places.now) c.args.stack.now.layers
    c.args.self.now (size_to c.in-SizeTo.w c.in-SizeTo.h) c.focus-in-SizeTo.result c.size_focus.result scene (SizeTo c.in-SizeTo.w c.in-SizeTo.h) is still (record { outcome = refl; unraised = refl; unsaid = refl; unfound = tt }) c.focus-in-SizeTo.ensures told c.size_focus.ensures.is)
