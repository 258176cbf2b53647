use Rattle.std.proofs.Common.{refl, subst}
use Rattle.desk_laws.specs.Ranges.{IsPlace}
use Rattle.window_table.specs.declared.pane.Pane.{Pane}
use Rattle.window_table.specs.Entries.{Entry}
use Rattle.guest_session.specs.SessionView.{AreRows}
use Rattle.guest_session.specs.RowsView.{RowsView}
use Rattle.guest_session.proofs.TableLemmas.{has_slot, are_rows}
use Rattle.guest_session.proofs.KeptLemmas.{row-none, got-is, shows-row, kept-at}
use Rattle.guest_session.proofs.rows.Rows.pane.Goals as goal

pub get-requires : goal.get-requires
get-requires c =
    let h = has_slot c.args.window c.in-Some.slot c.self.inside.table.entries c.slot_of.ensures.apart c.in-Some.ensures.slot in
    rw h.at_slot refl

pub returns-in-Some-clause-is : goal.returns-in-Some-clause-is
returns-in-Some-clause-is c =
    let s = c.self.inside in
    let h = has_slot c.args.window c.in-Some.slot s.table.entries c.slot_of.ensures.apart c.in-Some.ensures.slot in
    shows-row s.guest c.args.window c.in-Some.slot s.table s.tiles c.args.self.now h c.get.result.now c.self.view_is
    (got-is c.args.window c.in-Some.slot s.table.entries h (λ e. e.pane) c.get.result.now c.get.ensures)

pub returns-in-Some-clause-place : goal.returns-in-Some-clause-place
returns-in-Some-clause-place c =
    let s = c.self.inside in
    let h = has_slot c.args.window c.in-Some.slot s.table.entries c.slot_of.ensures.apart c.in-Some.ensures.slot in
    let P : Pane → Type 0 = λ p. IsPlace p.place in
    subst P (got-is c.args.window c.in-Some.slot s.table.entries h (λ e. e.pane) c.get.result.now c.get.ensures)
    (kept-at (λ (e : Entry). IsPlace e.pane.place) c.args.window c.in-Some.slot s.table.entries h c.self.invariant.placed)

pub returns-in-Some-clause-sound : goal.returns-in-Some-clause-sound
returns-in-Some-clause-sound c =
    let s = c.self.inside in
    let P : RowsView → Type 0 = λ v. AreRows v.guest v.rows in
    subst P c.self.view_is (are_rows s.guest s.tiles.held s.table.entries c.slot_of.ensures.apart c.slot_of.ensures.few c.self.invariant.placed)

pub returns-in-None-clause-is : goal.returns-in-None-clause-is
returns-in-None-clause-is c =
    let s = c.self.inside in
    row-none s.guest c.args.window s.table s.tiles c.args.self.now c.self.view_is c.in-None.ensures.slot

pub returns-in-None-clause-sound : goal.returns-in-None-clause-sound
returns-in-None-clause-sound c =
    let s = c.self.inside in
    let P : RowsView → Type 0 = λ v. AreRows v.guest v.rows in
    subst P c.self.view_is (are_rows s.guest s.tiles.held s.table.entries c.slot_of.ensures.apart c.slot_of.ensures.few c.self.invariant.placed)
