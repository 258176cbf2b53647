use Rattle.std.proofs.Common.{◌∙◌, Some, None, ap, sym}
use Rattle.std.specs.Prelude.{if◌then◌else◌}
use Rattle.desk_core.specs.Stacked.{layer_in}
use Rattle.desk_core.proofs.LayerLemmas.{pane-layer}
use Rattle.desk_core.proofs.stack.layer_of.Goals as goal

pub returns-then-pane-clause-is : goal.returns-then-pane-clause-is
returns-then-pane-clause-is c =
    let pane = c.in-Some.pane.now in
    ap (λ b. if b then Some pane.over else None) (sym c.if-pane.true) ∙ pane-layer c.args.session.now.rows c.args.window pane c.in-Some.ensures.is

pub returns-else-pane-clause-is : goal.returns-else-pane-clause-is
returns-else-pane-clause-is c =
    let pane = c.in-Some.pane.now in
    ap (λ b. if b then Some pane.over else None) (sym c.if-pane.false) ∙ pane-layer c.args.session.now.rows c.args.window pane c.in-Some.ensures.is

pub returns-in-None-clause-is : goal.returns-in-None-clause-is
returns-in-None-clause-is c = sym (ap layer_in c.in-None.ensures.is)
