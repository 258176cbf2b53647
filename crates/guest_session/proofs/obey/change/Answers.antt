use Rattle.std.proofs.Common.{ℕ, sym, subst}
use Rattle.desk_laws.specs.Effects.{isnt_zero, mapped_row, tells_move}
use Rattle.message_checks.specs.declared.command.Command.{Command}
use Rattle.guest_session.specs.Desk.{sizes_in}
use Rattle.guest_session.specs.Obeyed.{AnsweredFor, Changes}
use Rattle.guest_session.proofs.obey.change.Goals as goal

pub returns-in-Map : goal.returns-in-Map
returns-in-Map g c =
    let sizes = sizes_in c.args.desk.now c.args.rows.now in
    let rows = c.args.rows.now in
    let P : Command → Type 0 = λ command. Changes g.O.Outlet.takes c.args.out.now c.map.new.out rows c.map.new.rows sizes c.args.minor c.args.window command in
    let Q : ℕ → Type 0 = λ n. AnsweredFor g.O.Outlet.takes c.args.out.now c.map.new.out rows c.map.new.rows c.args.window
    (mapped_row sizes rows.rows (isnt_zero c.in-Map.override_redirect) n) (λ row. tells_move row (mapped_row sizes rows.rows (isnt_zero c.in-Map.override_redirect) n row)) in
    subst P (sym c.in-Map.is) (subst Q c.known-transient.ensures c.map.ensures)

pub returns-in-Configure : goal.returns-in-Configure
returns-in-Configure g c =
    let P : Command → Type 0 = λ command. Changes g.O.Outlet.takes c.args.out.now c.configure.new.out c.args.rows.now c.configure.new.rows (sizes_in c.args.desk.now c.args.rows.now) c.args.minor c.args.window command in
    subst P (sym c.in-Configure.is) c.configure.ensures
