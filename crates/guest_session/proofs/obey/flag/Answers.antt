use Rattle.guest_session.specs.Desk.{sizes_in}
use Rattle.guest_session.proofs.GrantLemmas.{flags-answered, full-answered}
use Rattle.guest_session.proofs.obey.flag.Goals as goal

pub returns-then-goes_full : goal.returns-then-goes_full
returns-then-goes_full g c =
    full-answered g.O.Outlet.takes c.args.out.now c.tell_place.new.out c.args.rows.now c.edit.new.self (sizes_in c.args.desk.now c.args.rows.now) c.args.window c.guest.result c.in-Some.old c.in-Some.ensures.is c.guest.ensures
    c.args.set c.args.unset c.flags_after-flags.result c.output_at-output.result c.whole_output-place.result c.flags_after-flags.ensures c.output_at-output.ensures.is (c.if-goes_full.ensures.is c.args.rows.now) (c.whole_output-place.ensures.is c.args.rows.now) c.edit.ensures c.tell_place.ensures

pub returns-else-goes_full : goal.returns-else-goes_full
returns-else-goes_full g c =
    flags-answered g.O.Outlet.takes c.args.out.now c.args.rows.now c.edit-else-goes_full.new.self (sizes_in c.args.desk.now c.args.rows.now) c.args.window c.in-Some.old c.in-Some.ensures.is
    c.args.set c.args.unset c.flags_after-flags.result c.output_at-output.result c.flags_after-flags.ensures c.output_at-output.ensures.is (c.if-goes_full.ensures.is c.args.rows.now) c.edit-else-goes_full.ensures
