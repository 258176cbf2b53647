use Rattle.std.proofs.Common.{subst}
use Rattle.guest_session.specs.SessionView.{AreRows}
use Rattle.guest_session.specs.RowsView.{RowsView}
use Rattle.guest_session.proofs.TableLemmas.{are_rows}
use Rattle.guest_session.proofs.rows.Rows.count.Goals as goal

pub returns-clause-sound : goal.returns-clause-sound
returns-clause-sound c =
    let s = c.self.inside in
    let P : RowsView → Type 0 = λ v. AreRows v.guest v.rows in
    subst P c.self.view_is (are_rows s.guest s.tiles.held s.table.entries c.len.ensures.apart c.len.ensures.few c.self.invariant.placed)
