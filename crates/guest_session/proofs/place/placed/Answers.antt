use Rattle.std.proofs.Common.{refl}
use Rattle.desk_laws.specs.Override.{taken_besides}
use Rattle.guest_session.specs.Desk.{sizes_in}
use Rattle.guest_session.proofs.DeskLemmas.{placed-place}
use Rattle.guest_session.proofs.PlaceLemmas.{placed-is, unasked-stays}
use Rattle.guest_session.proofs.place.placed.Goals as goal

pub returns-then-not-asked-clause-rule : goal.returns-then-not-asked-clause-rule
returns-then-not-asked-clause-rule c =
    let sizes = sizes_in c.args.desk.now c.args.rows.now in
    unasked-stays sizes c.args.asked c.args.place (taken_besides sizes.border c.args.window c.args.rows.now.rows) c.if-not-asked.true

pub returns-clause-rule : goal.returns-clause-rule
returns-clause-rule c =
    let sizes = sizes_in c.args.desk.now c.args.rows.now in
    placed-is sizes c.output_at.result c.args.asked c.args.place (taken_besides sizes.border c.args.window c.args.rows.now.rows) c.taken_besides-others.result c.effective.result c.output_at.ensures.fit.pixels c.requires.fit.percent
    c.output_at.ensures.is c.taken_besides-others.ensures (c.effective.ensures.rule sizes refl refl)

pub returns-clause-place : goal.returns-clause-place
returns-clause-place c =
    placed-place c.output_at.result c.args.place c.effective.result.rect c.effective.result.over c.args.desk.now.border c.output_at.ensures.fit c.requires.place
    c.effective.ensures.inside c.effective.ensures.size c.effective.ensures.stays
