use Rattle.guest_session.specs.Desk.{sizes_in}
use Rattle.guest_session.proofs.GrantLemmas.{configured-answered}
use Rattle.guest_session.proofs.obey.configure.Goals as goal

pub returns : goal.returns
returns g c =
    configured-answered g.O.Outlet.takes c.args.out.now c.tell_place.new.out c.args.rows.now c.edit.new.self (sizes_in c.args.desk.now c.args.rows.now) c.args.window c.guest.result c.in-Some.old c.in-Some.ensures.is c.guest.ensures
    c.args.asked c.args.place c.configured-put.result c.configured-put.ensures.rule c.edit.ensures c.tell_place.ensures
