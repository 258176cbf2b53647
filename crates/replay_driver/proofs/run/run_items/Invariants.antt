use Rattle.std.proofs.Common.{◌≡◌, ◌≤◌, ◌*◌, length}
use Rattle.desk_laws.specs.declared.limits.TheConstants.{MAX_PIECE}
use Rattle.replay_driver.specs.FeedOutcomes.{FeedCall}
use Rattle.replay_driver.proofs.RunLemmas.{SoFar}
use Rattle.replay_driver.proofs.run.run_items.Given as goal

abbrev pub invariant-loop-n : goal.invariant-loop-n
invariant-loop-n g l = record {
  so_far : SoFar (FeedCall g.F.Feed.gives g.F.Feed.left g.F.Feed.given) l.setup l._n l.fn.feed l.feed l.desk (g.P.FramePort.state l.port) (g.K.Sink.written l.fn.out) (g.K.Sink.written l.out);
  line : length l.line ≡ 3 * l.setup.width;
  room : length l.room ≡ MAX_PIECE;
  guests : g.F.Feed.guests l.feed ≡ length l.setup.guests;
  pages : g.F.Feed.pages l.feed ≡ l.setup.pages;
  port_guests : g.P.FramePort.guests l.port ≡ length l.setup.guests;
  port_pages : g.P.FramePort.pages l.port ≡ l.setup.pages;
  keeps : g.K.Sink.keeps l.fn.out l.out;
  read_later : g.F.Feed.faults l.fn.feed ≤ g.F.Feed.faults l.feed;
  write_later : g.K.Sink.faults l.fn.out ≤ g.K.Sink.faults l.out;
}
