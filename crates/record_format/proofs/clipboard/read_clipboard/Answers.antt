use Rattle.std.proofs.Common.{sym, subst}
use Rattle.record_format.specs.declared.version.Version.{Version}
use Rattle.record_format.specs.Config.{clipboard_in}
use Rattle.record_format.specs.Readings.{Reads}
use Rattle.record_format.proofs.clipboard.read_clipboard.Goals as goal

pub returns-in-Third-clause-reads : goal.returns-in-Third-clause-reads
returns-in-Third-clause-reads g c = λ bytes told.
    subst (λ (v : Version). Reads (clipboard_in v) c.read_spelled.result bytes (g.S.Source.left c.read_spelled.new.source)) (sym c.in-Third.is) (c.read_spelled.ensures.reads bytes told)
