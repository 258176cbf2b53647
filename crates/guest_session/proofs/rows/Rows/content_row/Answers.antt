use Rattle.std.proofs.Common.{◌∙◌, length}
use Rattle.desk_laws.specs.Rows.{row_with, span}
use Rattle.guest_session.specs.RowsView.{StaysInside}
use Rattle.guest_session.proofs.TableLemmas.{has_slot}
use Rattle.guest_session.proofs.KeptLemmas.{colours-none, colours-shown, kept-at, row-none, row-some}
use Rattle.guest_session.proofs.rows.Rows.content_row.Goals as goal

pub returns-in-Some : goal.returns-in-Some
returns-in-Some c =
    let s = c.self.inside in
    let h = has_slot c.args.window c.in-Some.slot s.table.entries c.slot_of.ensures.apart c.in-Some.ensures.slot in
    c.read_row.ensures
    ∙ colours-shown s.guest c.in-Some.slot s.tiles.held h.entry c.args.blank c.args.y (row_with c.args.window c.args.self.now.rows) (span c.args.x (length c.args.out.now)) h.slot_is
    (kept-at (StaysInside s.tiles.held) c.args.window c.in-Some.slot s.table.entries h c.self.invariant.inside)
    (row-some s.guest c.args.window c.in-Some.slot s.table s.tiles c.args.self.now h c.self.view_is)

pub returns-in-None : goal.returns-in-None
returns-in-None c =
    let s = c.self.inside in
    let none = row-none s.guest c.args.window s.table s.tiles c.args.self.now c.self.view_is c.in-None.ensures.slot in
    c.fill.ensures.after (λ y same. same)
    ∙ colours-none c.args.blank c.args.x c.args.y (length c.args.out.now) (row_with c.args.window c.args.self.now.rows) none
