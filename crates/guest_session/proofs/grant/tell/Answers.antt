use Rattle.std.proofs.Common.{ℕ, List, [], ◌∷◌, sym, subst}
use Rattle.gui_wire.specs.DaemonMessages.{daemon_spelling}
use Rattle.gui_wire.specs.Seen.{daemon_message}
use Rattle.desk_laws.specs.Scene.{replies}
use Rattle.io_ports.specs.Posts.{Leads}
use Rattle.guest_session.proofs.grant.tell.Goals as goal

pub returns-in-Some-clause-told : goal.returns-in-Some-clause-told
returns-in-Some-clause-told g c =
    let P : List (List ℕ) → Type 0 = λ answers. Leads g.O.Outlet.takes c.args.out.now (replies c.args.guest answers) c.tell_message.new.out in
    let Q : ℕ → Type 0 = λ window. P (daemon_spelling window (daemon_message c.in-Some.msg) ∷ []) in
    subst P (sym c.in-Some.ensures.told.0) (subst Q c.window_named.ensures c.tell_message.ensures.told)
