use Rattle.std.proofs.Common.{ℕ, ◌∙◌, sym, ap, refl, subst}
use Rattle.desk_laws.specs.Rows.{Row}
use Rattle.desk_laws.specs.Grants.{grant_answers}
use Rattle.desk_laws.specs.Scene.{replies}
use Rattle.io_ports.specs.Posts.{Leads}
use Rattle.guest_session.specs.RowsView.{RowsView}
use Rattle.guest_session.proofs.GrantedLemmas.{granted-nothing, granted-row, same-row}
use Rattle.guest_session.proofs.grant.grant_to.Goals as goal

pub returns-in_default-clause-granted : goal.returns-in_default-clause-granted
returns-in_default-clause-granted g c =
    granted-nothing g.O.Outlet.takes c.args.out.now c.args.out.now c.args.input.now c.args.paste.now c.args.rows.now c.args.rows.now
    c.in_default.ensures.sound.own c.args.window c.requires.named c.in_default.ensures.is refl refl

pub change-requires-clause-flags : goal.change-requires-clause-flags
change-requires-clause-flags g c = λ row found.
    let shows = c.in-Some.ensures.is in
    shows.is.flags ∙ ap (λ (r : Row). r.flags) (same-row shows.row row (sym shows.found ∙ found))

pub returns-clause-granted : goal.returns-clause-granted
returns-clause-granted g c =
    let shows = c.in-Some.ensures.is in
    let changes = c.change.ensures shows.row shows.found in
    let P : ℕ → Type 0 = λ guest. Leads g.O.Outlet.takes c.args.out.now (replies guest (grant_answers c.args.input.now c.args.paste.now)) c.tell.new.out in
    granted-row g.O.Outlet.takes c.args.out.now c.tell.new.out c.args.input.now c.args.paste.now c.args.rows.now c.change.new.rows
    c.in-Some.ensures.sound.own c.args.window c.requires.named shows.row shows.found changes
    (subst P (c.guest.ensures ∙ ap (λ (v : RowsView). v.guest) changes) c.tell.ensures.told)
