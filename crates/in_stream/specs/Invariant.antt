-- What is true of each receive buffer.
use Rattle.std.specs.Prelude.{◌≡◌, ◌<◌, ◌≤◌, true, length}
use Rattle.gui_wire.specs.Headers.{header_at}
use Rattle.in_stream.specs.Received.{Received, longest}
use Rattle.in_stream.specs.Shown.{is_passed_over}

-- bytes are passed over only behind the header of a body that isn't kept, and no more than it has
pub record IsSound (s : Received) : Type 0 where
  pub short : length s.held ≤ longest
  pub greeted : 0 < s.skipped → s.greeted ≡ true
  pub header : 0 < s.skipped → 12 ≤ length s.held
  pub long : 0 < s.skipped → is_passed_over s.limit (header_at s.held) ≡ true
  pub bounded : 0 < s.skipped → s.skipped ≤ (header_at s.held).len
