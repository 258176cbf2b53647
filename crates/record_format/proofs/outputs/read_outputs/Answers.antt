use Rattle.std.proofs.Common.{sym, subst}
use Rattle.record_format.specs.declared.version.Version.{Version}
use Rattle.record_format.specs.Config.{outputs_in}
use Rattle.record_format.specs.Readings.{Reads}
use Rattle.record_format.proofs.outputs.read_outputs.Goals as goal

pub returns-in-Second-clause-reads : goal.returns-in-Second-clause-reads
returns-in-Second-clause-reads g c = λ bytes told.
    subst (λ (v : Version). Reads (outputs_in v c.args.plane) c.read_listed.result bytes (g.S.Source.left c.read_listed.new.source)) (sym c.in-Second.is) (c.read_listed.ensures.reads bytes told)

pub returns-in-Third-clause-reads : goal.returns-in-Third-clause-reads
returns-in-Third-clause-reads g c = λ bytes told.
    subst (λ (v : Version). Reads (outputs_in v c.args.plane) c.read_listed-in-Third.result bytes (g.S.Source.left c.read_listed-in-Third.new.source)) (sym c.in-Third.is) (c.read_listed-in-Third.ensures.reads bytes told)
