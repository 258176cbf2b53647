use Rattle.std.proofs.Common.{◌≡◌, ◌∙◌, Option, Some, None, ap, subst}
use Rattle.std.specs.Prelude.{MatchResult}
use Rattle.gui_wire.specs.Seen.{message}
use Rattle.desk_laws.specs.declared.cause.Cause.{Cause}
use Rattle.desk_laws.specs.Checks.{first_cause}
use Rattle.desk_laws.proofs.CheckLemmas.{first_cause-same}
use Rattle.window_table.specs.Entries.{plain_rows}
use Rattle.guest_session.specs.RowsView.{RowsView, own_rows}
use Rattle.guest_session.proofs.TableLemmas.{looks_same}
use Rattle.guest_session.proofs.rows.Rows.check.Goals as goal

pub returns-clause-first : goal.returns-clause-first
returns-clause-first c =
    let s = c.self.inside in
    let m = message c.args.msg.now in
    let P : Option Cause → Type 0 = λ o. MatchResult c.check.result (λ _. o ≡ None) (λ cause. o ≡ Some cause) in
    subst P
    (ap (λ n. first_cause n (plain_rows s.table.entries) c.args.header m) c.pages.ensures.is
    ∙ first_cause-same s.table.pages (plain_rows s.table.entries) (own_rows s.guest s.tiles.held s.table.entries) (looks_same s.guest s.tiles.held s.table.entries) c.args.header m
    ∙ ap (λ (v : RowsView). first_cause v.pages v.rows c.args.header m) c.self.view_is)
    c.check.ensures.first
