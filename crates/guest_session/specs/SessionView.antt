-- What a guest's session is seen as.
use Rattle.std.specs.Prelude.{◌≡◌, ℕ, ◌≤◌, true, List, [], length, map, Option, Some, None}
use Rattle.std.specs.List.{All}
use Rattle.desk_laws.specs.declared.limits.TheConstants.{MAX_WINDOWS}
use Rattle.desk_laws.specs.declared.cause.Cause.{Cause}
use Rattle.desk_laws.specs.Sizes.{Sizes}
use Rattle.desk_laws.specs.Rows.{Row, id_of}
use Rattle.desk_laws.specs.Layers.{are_apart}
use Rattle.desk_laws.specs.Ranges.{IsPlace}
use Rattle.in_stream.specs.Received.{Received}

-- a session: its guest, the numbers of the setup, the bytes that were taken and not yet dropped, the
-- guest's rows in the order of their CREATE, its minor version, and why it ended, if it did
pub record SessionView : Type 0 where
  pub guest : ℕ
  pub sizes : Sizes
  pub stream : Received
  pub rows : List Row
  pub minor : ℕ
  pub ended : Option Cause

-- rows of this guest, no more than it may have windows, no two of one window, their places in range
pub record AreRows (guest : ℕ) (rows : List Row) : Type 0 where
  pub own : All (λ row. row.guest ≡ guest) rows
  pub apart : are_apart (map id_of rows) ≡ true
  pub few : length rows ≤ MAX_WINDOWS
  pub placed : All (λ row. IsPlace row.place) rows

-- the rows of a session
abbrev pub HasRows : SessionView → Type 0
HasRows session = AreRows session.guest session.rows

-- a session before any byte, over an empty buffer
abbrev pub opened : ℕ → Sizes → Received → SessionView
opened guest sizes stream =
    record { guest = guest; sizes = sizes; stream = stream; rows = []; minor = 0; ended = None }

-- the session with other bytes
abbrev pub with_stream : Received → SessionView → SessionView
with_stream stream session = record session { stream = stream }

-- the session ended: there is a cause, and no row; what bytes are held is of no matter any more
pub record IsEnded (old : SessionView) (cause : Cause) (new : SessionView) : Type 0 where
  pub ended : new.ended ≡ Some cause
  pub rows : new.rows ≡ []
  pub guest : new.guest ≡ old.guest
  pub sizes : new.sizes ≡ old.sizes
  pub minor : new.minor ≡ old.minor
