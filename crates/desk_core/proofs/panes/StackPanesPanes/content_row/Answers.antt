use Rattle.std.proofs.Common.{◌∙◌, ◌+◌, ap}
use Rattle.compositor.specs.Composed.{Pane, colour_or}
use Rattle.desk_core.proofs.PaneLemmas.{pane-is}
use Rattle.desk_core.proofs.panes.StackPanesPanes.content_row.Goals as goal

pub returns : goal.returns
returns c = λ pane found i below.
    let shown = c.args.self.now.shown.now in
    c.write_row_of.ensures i below
    ∙ ap (λ (p : Pane). colour_or c.args.blank.0 (p.content (c.args.x + i) c.args.y))
    (pane-is c.args.self.now.sessions.now shown c.args.k c.index-self-k.result (record { id = c.shown.inside.id; view = c.shown.inside.view }) pane c.requires.pane c.shown.view_is found)
