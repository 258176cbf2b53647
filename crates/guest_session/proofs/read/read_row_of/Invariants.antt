use Rattle.std.proofs.Common.{◌≡◌, ◌-◌, ◌≤◌}
use Rattle.tile_store.specs.Held.{places_in_row}
use Rattle.frame_pool.specs.Ports.{ChangesFrames}
use Rattle.tile_store.specs.Contents.{KeepsHeld}
use Rattle.guest_session.specs.Areas.{dump_at, tiles_read, frames_read}
use Rattle.guest_session.proofs.AreaLemmas.{Reading}
use Rattle.guest_session.proofs.read.read_row_of.Given as goal

abbrev pub invariant-loop-x : goal.invariant-loop-x
invariant-loop-x g l = record {
  reads : Reading l.slot (dump_at l.slot l.table.entries) (places_in_row l.y l.x (l.past - l.x)) l.tiles.held (g.P.FramePort.state l.port l.guest)
      (tiles_read l.slot (dump_at l.slot l.table.entries) (places_in_row l.y l.fn.area.x l.fn.area.w) (g.P.FramePort.state l.fn.port l.guest) l.fn.tiles.held)
      (frames_read (dump_at l.slot l.table.entries) (places_in_row l.y l.fn.area.x l.fn.area.w) (g.P.FramePort.state l.fn.port l.guest));
  number : l.tiles.number ≡ l.fn.tiles.number;
  stay : KeepsHeld l.fn.tiles.held l.tiles.held;
  from : l.fn.area.x ≤ l.x;
  to : l.x ≤ l.past;
  port : ChangesFrames g.P.FramePort.guests g.P.FramePort.pages g.P.FramePort.state l.guest l.fn.port l.port;
}

abbrev pub decreases-loop-x : goal.decreases-loop-x
decreases-loop-x g l = l.past - l.x
