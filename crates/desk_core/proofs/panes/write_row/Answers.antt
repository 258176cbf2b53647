use Rattle.std.proofs.Common.{ℕ, List, ◌∙◌, ap}
use Rattle.std.specs.Prelude.{slice_index}
use Rattle.desk_laws.specs.Rows.{row_with}
use Rattle.guest_session.specs.Reading.{content_in}
use Rattle.desk_core.proofs.PaneLemmas.{row-at}
use Rattle.desk_core.proofs.panes.write_row.Goals as goal

pub returns : goal.returns
returns c = λ i below.
    let a = c.args in
    ap (λ (xs : List ℕ). slice_index xs i) c.content_row.ensures
    ∙ row-at a.blank.0 (λ j. content_in (row_with a.window a.session.now.rows) j a.y) a.x _ i below
