-- What contracts see of the sockets of a live desk: numbers and counts, and no content.
use Rattle.std.specs.Prelude.{ℕ, List, None, slice_index}
use Rattle.io_ports.specs.Wires.{Supply}

-- the numbers of guests and pages, how many items were given, how often the feed failed, and how often a send to each
-- guest failed
pub record LiveState : Type 0 where
  pub guests : ℕ
  pub pages : ℕ
  pub given : ℕ
  pub faults : ℕ
  pub send_faults : List ℕ

-- how often a send to this guest failed
abbrev pub send_faults_of : LiveState → ℕ → ℕ
send_faults_of live guest = slice_index live.send_faults guest

-- the numbers of guests and pages, and nothing of what is left
abbrev pub supply_of : LiveState → Supply
supply_of live = record { guests = live.guests; pages = live.pages; left = None }
