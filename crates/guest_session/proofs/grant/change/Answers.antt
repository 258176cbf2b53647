use Rattle.std.proofs.Common.{◌∙◌, sym, ap}
use Rattle.desk_laws.specs.Grants.{grant_change}
use Rattle.guest_session.specs.RowsView.{with_change, with_row}
use Rattle.guest_session.specs.declared.edit.Edit.TheVariants as edit
use Rattle.guest_session.specs.Edits.{row_edited}
use Rattle.guest_session.proofs.grant.change.Goals as goal

pub returns-in-Place : goal.returns-in-Place
returns-in-Place c = λ row found.
    c.edit.ensures row found
    ∙ ap (λ f. with_row (row_edited (edit.Fill f c.in-Place.place) row) c.args.rows.now) (c.requires.flags row found)
    ∙ ap (λ i. with_change (grant_change i row) c.args.rows.now) (sym c.in-Place.is)
