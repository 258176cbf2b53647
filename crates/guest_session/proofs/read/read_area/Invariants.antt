use Rattle.std.proofs.Common.{◌≡◌, ◌-◌}
use Rattle.desk_laws.specs.Rows.{grid}
use Rattle.frame_pool.specs.Ports.{ChangesFrames}
use Rattle.tile_store.specs.Contents.{KeepsHeld}
use Rattle.guest_session.specs.Areas.{dump_at, tiles_read, frames_read}
use Rattle.guest_session.proofs.AreaLemmas.{Reading}
use Rattle.guest_session.proofs.read.read_area.Given as goal

abbrev pub invariant-loop-y : goal.invariant-loop-y
invariant-loop-y g l = record {
  reads : Reading l.slot (dump_at l.slot l.table.entries) (grid l.fn.area.x l.y l.fn.area.w (l.below - l.y)) l.tiles.held (g.P.FramePort.state l.port l.guest)
      (tiles_read l.slot (dump_at l.slot l.table.entries) (grid l.fn.area.x l.fn.area.y l.fn.area.w l.fn.area.h) (g.P.FramePort.state l.fn.port l.guest) l.fn.tiles.held)
      (frames_read (dump_at l.slot l.table.entries) (grid l.fn.area.x l.fn.area.y l.fn.area.w l.fn.area.h) (g.P.FramePort.state l.fn.port l.guest));
  number : l.tiles.number ≡ l.fn.tiles.number;
  stay : KeepsHeld l.fn.tiles.held l.tiles.held;
  port : ChangesFrames g.P.FramePort.guests g.P.FramePort.pages g.P.FramePort.state l.guest l.fn.port l.port;
}
