use Rattle.std.proofs.Common.{◌≡◌, to_z, of_z, w32, arith}
use Rattle.std.proofs.lemmas.Int.{ints}
use Rattle.guest_session.specs.Desk.{sizes_in}
use Rattle.guest_session.proofs.GrantLemmas.{mapped-answered}
use Rattle.guest_session.proofs.obey.map.Goals as goal

pub returns : goal.returns
returns g c =
    let put = c.placed-put.result in
    let in_range = c.placed-put.ensures.place in
    let x : to_z w32 (of_z w32 put.rect.x) ≡ put.rect.x = omega (arith, ints, in_range.x_low, in_range.x_high) in
    let y : to_z w32 (of_z w32 put.rect.y) ≡ put.rect.y = omega (arith, ints, in_range.y_low, in_range.y_high) in
    mapped-answered g.O.Outlet.takes c.args.out.now c.tell_move.new.out c.args.rows.now c.edit.new.self (sizes_in c.args.desk.now c.args.rows.now) c.args.window c.guest.result c.in-Some.old c.in-Some.ensures.is c.guest.ensures
    c.args.asked c.args.transient put (to_z w32 (of_z w32 put.rect.x)) (to_z w32 (of_z w32 put.rect.y)) x y c.placed-put.ensures.rule c.placed-put.ensures.size.0 c.placed-put.ensures.size.1 c.edit.ensures c.tell_move.ensures
