use Rattle.std.proofs.Common.{ℕ, sym, subst}
use Rattle.input_router.specs.Presents.{Presents}
use Rattle.desk_core.specs.Places.{spots_of}
use Rattle.desk_core.proofs.SettledScenes.{settle-done, scene-presents}
use Rattle.desk_core.proofs.settle.settle_at.Goals as goal

pub returns : goal.returns
returns g c = λ sizes scene same is holds known.
    let sessions = c.args.sessions.now in
    let layers = c.args.stack.now.layers in
    let seat = c.args.router.now in
    let P : ℕ → Type 0 = λ border. Presents border (spots_of c.args.border sessions) layers seat scene in
    settle-done g.O.Outlet.takes c.args.out.now c.carry_out.new.out sessions c.carry_out.new.sessions layers c.args.gate.now c.carry_out.new.gate seat c.settle_at.new.self c.args.denied.now c.new-queue.result c.settle_at.new.to sizes scene is holds c.new-queue.ensures
    (c.settle_at.ensures sizes scene (subst P (sym same) (scene-presents c.args.border sessions layers seat scene is)) known.holds known.is) c.carry_out.ensures.kept c.carry_out.ensures.delivers
