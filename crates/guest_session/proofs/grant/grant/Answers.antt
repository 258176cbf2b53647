use Rattle.std.proofs.Common.{ℕ, ◌∙◌, refl, sym, subst}
use Rattle.desk_laws.specs.Grants.{grant_answers}
use Rattle.desk_laws.specs.Scene.{replies}
use Rattle.io_ports.specs.Posts.{Leads}
use Rattle.guest_session.proofs.GrantedLemmas.{granted-whole}
use Rattle.guest_session.proofs.grant.grant.Goals as goal

pub returns-in-None-clause-granted : goal.returns-in-None-clause-granted
returns-in-None-clause-granted g c =
    let P : ℕ → Type 0 = λ guest. Leads g.O.Outlet.takes c.args.out.now (replies guest (grant_answers c.args.input.now c.args.paste.now)) c.tell.new.out in
    granted-whole g.O.Outlet.takes c.args.out.now c.tell.new.out c.args.input.now c.args.paste.now c.args.rows.now c.args.rows.now
    (sym c.window_of.ensures ∙ c.in-None.is) refl (subst P c.guest.ensures c.tell.ensures.told)
