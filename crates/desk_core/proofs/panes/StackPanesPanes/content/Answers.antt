use Rattle.std.proofs.Common.{◌∙◌, ap}
use Rattle.compositor.specs.Composed.{Pane}
use Rattle.desk_core.proofs.PaneLemmas.{pane-is}
use Rattle.desk_core.proofs.panes.StackPanesPanes.content.Goals as goal

pub returns : goal.returns
returns c = λ pane found.
    let shown = c.args.self.now.shown.now in
    c.content_of.ensures
    ∙ ap (λ (p : Pane). p.content c.args.x c.args.y)
    (pane-is c.args.self.now.sessions.now shown c.args.k c.index-self-k.result (record { id = c.shown.inside.id; view = c.shown.inside.view }) pane c.requires c.shown.view_is found)
