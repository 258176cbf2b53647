use Rattle.std.proofs.Common.{◌∙◌, ◌+◌, ap, arith}
use Rattle.tile_store.specs.Held.{TilesView}
use Rattle.frame_pool.proofs.PortLemmas.{frames-changed_twice}
use Rattle.guest_session.specs.Areas.{dump_at}
use Rattle.guest_session.proofs.AreaLemmas.{run-read}
use Rattle.guest_session.proofs.read.read_row_of.Goals as goal

pub loop-x-preserved : goal.loop-x-preserved
loop-x-preserved g c = record {
  reads = run-read c.args.slot (dump_at c.args.slot c.args.table.now.entries) c.args.y c.loop-x.x c.read_run-x.result (c.args.area.x + c.args.area.w) c.loop-x.tiles.held (g.P.FramePort.state c.loop-x.port c.args.guest) _ _
      c.read_run-x.new.tiles.held (g.P.FramePort.state c.read_run-x.new.port c.args.guest) c.read_run-x.ensures.few c.loop-x.invariant.reads
      (ap (λ (v : TilesView). v.held) c.read_run-x.ensures.tiles) c.read_run-x.ensures.frames;
  number = ap (λ (v : TilesView). v.number) c.read_run-x.ensures.tiles ∙ c.loop-x.invariant.number;
  stay = λ spot is. c.read_run-x.ensures.stay spot (c.loop-x.invariant.stay spot is);
  from = omega (arith, c.loop-x.invariant.from);
  to = omega (arith, c.loop-x.invariant.to, c.read_run-x.ensures.few);
  port = frames-changed_twice c.loop-x.invariant.port c.read_run-x.ensures.port;
}
