use Rattle.std.proofs.Common.{◌∙◌, ◌+◌, ap}
use Rattle.tile_store.specs.Held.{TilesView}
use Rattle.frame_pool.proofs.PortLemmas.{frames-changed_twice}
use Rattle.guest_session.specs.Areas.{dump_at}
use Rattle.guest_session.proofs.AreaLemmas.{row-read}
use Rattle.guest_session.proofs.read.read_area.Goals as goal

pub loop-y-preserved : goal.loop-y-preserved
loop-y-preserved g c = record {
  reads = row-read c.args.slot (dump_at c.args.slot c.args.table.now.entries) c.args.area.x c.args.area.w c.loop-y.y (c.args.area.y + c.args.area.h) c.loop-y.tiles.held (g.P.FramePort.state c.loop-y.port c.args.guest) _ _
      c.read_row_of.new.tiles.held (g.P.FramePort.state c.read_row_of.new.port c.args.guest) c.loop-y-test.true c.loop-y.invariant.reads
      (ap (λ (v : TilesView). v.held) c.read_row_of.ensures.tiles) c.read_row_of.ensures.frames;
  number = ap (λ (v : TilesView). v.number) c.read_row_of.ensures.tiles ∙ c.loop-y.invariant.number;
  stay = λ spot is. c.read_row_of.ensures.stay spot (c.loop-y.invariant.stay spot is);
  port = frames-changed_twice c.loop-y.invariant.port c.read_row_of.ensures.port;
}
