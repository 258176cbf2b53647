use Rattle.desk_core.proofs.PaneLemmas.{view-at}
use Rattle.desk_core.proofs.panes.StackPanesPanes.view.Goals as goal

pub returns-clause-this : goal.returns-clause-this
returns-clause-this c =
    let shown = c.args.self.now.shown.now in
    view-at c.args.self.now.sessions.now shown c.args.k c.index-self-k.result (record { id = c.shown.inside.id; view = c.shown.inside.view }) c.requires c.shown.view_is
