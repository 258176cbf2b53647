use Rattle.std.proofs.Common.{◌∙◌, sym}
use Rattle.guest_session.specs.Areas.{area_in, dump_at}
use Rattle.guest_session.proofs.ReadLemmas.{reads_tiles-empty, is-empty}
use Rattle.guest_session.proofs.report.read_at.Goals as goal

pub returns-then-is_empty-clause-filled : goal.returns-then-is_empty-clause-filled
returns-then-is_empty-clause-filled g c =
    reads_tiles-empty (g.P.FramePort.state c.args.port.now c.args.guest) c.args.tiles.now c.args.slot (dump_at c.args.slot c.args.table.now.entries) (area_in c.args.area)
    (is-empty (area_in c.args.area) (sym c.is_empty.ensures ∙ c.if-is_empty.true))
