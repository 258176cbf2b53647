-- The parts of a session, and the session that they are.
use Rattle.std.specs.Prelude.{ℕ, Option, Some, None}
use Rattle.gui_wire.specs.declared.WireFault.{WireFault}
use Rattle.gui_wire.specs.declared.WireFault.TheVariants.{Kind, Length}
use Rattle.desk_laws.specs.declared.cause.Cause.{Cause}
use Rattle.desk_laws.specs.declared.cause.Cause.TheVariants.{BadType, BadLength}
use Rattle.desk_laws.specs.Sizes.{Sizes}
use Rattle.in_stream.specs.Received.{Received}
use Rattle.guest_session.specs.declared.turn.Turn.{Turn}
use Rattle.guest_session.specs.declared.turn.Turn.TheVariants.{Ended}
use Rattle.guest_session.specs.RowsView.{RowsView}
use Rattle.guest_session.specs.SessionView.{SessionView}

-- the session of these parts
abbrev pub joined : Sizes → Received → RowsView → ℕ → Option Cause → SessionView
joined sizes stream rows minor ended = record {
  guest = rows.guest;
  sizes = sizes;
  stream = stream;
  rows = rows.rows;
  minor = minor;
  ended = ended;
}

-- why a session ended in this turn, if it did
abbrev pub ended_by : Turn → Option Cause
ended_by (Ended cause) = Some cause
ended_by turn = None

-- the cause of a header's fault
abbrev pub cause_of : WireFault → Cause
cause_of (Kind kind) = BadType kind 0
cause_of (Length len) = BadLength len 0
