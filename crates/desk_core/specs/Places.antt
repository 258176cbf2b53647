-- Where the windows of all sessions are.
use Rattle.std.specs.Prelude.{ℕ, List, Option, option_map}
use Rattle.desk_laws.specs.declared.row_id.RowId.{RowId}
use Rattle.desk_laws.specs.Rows.{Row, row_with}
use Rattle.guest_session.specs.SessionView.{SessionView}
use Rattle.input_router.specs.Spots.{Spot, spot_of}
use Rattle.desk_core.specs.Panes.{rows_in}

-- the row with an id, among those of its guest's session
abbrev pub row_of : List SessionView → RowId → Option Row
row_of sessions id = row_with id.window (rows_in sessions id.guest)

-- what is told of each row, with a border of so many pixels
abbrev pub spots_of : ℕ → List SessionView → RowId → Option Spot
spots_of border sessions id = option_map (spot_of border) (row_of sessions id)
