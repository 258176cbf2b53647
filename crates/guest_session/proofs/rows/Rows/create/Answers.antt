use Rattle.std.proofs.Common.{◌∙◌, is_some, sym, ap}
use Rattle.desk_laws.specs.Rows.{row_with}
use Rattle.desk_laws.specs.Effects.{Added, created}
use Rattle.window_table.specs.Entries.{entry_with}
use Rattle.guest_session.specs.RowsView.{RowsView, own_row, with_change}
use Rattle.guest_session.proofs.TableLemmas.{row-found, is_some-mapped}
use Rattle.guest_session.proofs.KeptLemmas.{kept-added, viewed-added}
use Rattle.guest_session.proofs.rows.Rows.create.Goals as goal

pub add-requires-clause-unknown : goal.add-requires-clause-unknown
add-requires-clause-unknown c =
    let n = c.args.window in
    let s = c.self.inside in
    sym (is_some-mapped (own_row s.guest s.tiles.held) (entry_with n s.table.entries))
    ∙ ap is_some (sym (row-found s.guest n s.tiles.held s.table.entries))
    ∙ ap (λ (v : RowsView). is_some (row_with n v.rows)) c.self.view_is
    ∙ ap is_some c.requires.unknown

pub invariant_of-self : goal.invariant_of-self
invariant_of-self c =
    let s = c.self.inside in
    kept-added c.add.result c.args.window c.args.place c.args.parent c.args.asked s.table c.add.new.self s.tiles.held c.self.invariant c.add.ensures.vacant c.requires.place c.add.ensures.added

pub returns : goal.returns
returns c =
    let s = c.self.inside in
    viewed-added s.guest c.add.result c.args.window c.args.place c.args.parent c.args.asked s.table c.add.new.self s.tiles c.self.invariant c.add.ensures.vacant c.add.ensures.added
    ∙ ap (λ (v : RowsView). with_change (Added (created s.guest c.args.window c.args.place c.args.parent c.args.asked)) v) c.self.view_is
    ∙ ap (λ (v : RowsView). with_change (Added (created v.guest c.args.window c.args.place c.args.parent c.args.asked)) c.args.self.now) c.self.view_is
