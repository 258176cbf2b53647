use Rattle.std.proofs.Common.{◌∙◌, is_some, sym, ap}
use Rattle.desk_laws.specs.Rows.{row_with}
use Rattle.desk_laws.specs.Effects.{id_if}
use Rattle.guest_session.specs.RowsView.{RowsView}
use Rattle.guest_session.proofs.TableLemmas.{known-is}
use Rattle.guest_session.proofs.rows.Rows.known.Goals as goal

pub returns-then-known : goal.returns-then-known
returns-then-known c =
    let n = c.args.window in
    let s = c.self.inside in
    ap (λ b. id_if b n) (sym c.if-known.true ∙ c.known.ensures ∙ known-is s.guest n s.tiles.held s.table.entries)
    ∙ ap (λ (v : RowsView). id_if (is_some (row_with n v.rows)) n) c.self.view_is

pub returns-else-known : goal.returns-else-known
returns-else-known c =
    let n = c.args.window in
    let s = c.self.inside in
    ap (λ b. id_if b n) (sym c.if-known.false ∙ c.known.ensures ∙ known-is s.guest n s.tiles.held s.table.entries)
    ∙ ap (λ (v : RowsView). id_if (is_some (row_with n v.rows)) n) c.self.view_is
