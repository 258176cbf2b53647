use Rattle.std.proofs.Common.{◌∙◌, sym, ap}
use Rattle.desk_laws.specs.Outputs.{output_of}
use Rattle.guest_session.proofs.DeskLemmas.{output-fits}
use Rattle.guest_session.proofs.desk.output_at.Goals as goal

pub returns-clause-fit : goal.returns-clause-fit
returns-clause-fit c =
    output-fits c.args.desk.now c.args.place c.output_of.result c.requires
    (ap (λ outputs. output_of outputs c.args.place) (sym c.items.ensures) ∙ c.output_of.ensures)
