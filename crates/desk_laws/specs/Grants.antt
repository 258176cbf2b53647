-- What a granted input does to its row, and what it answers.
use Rattle.std.specs.Prelude.{ℕ, false, List, [], ◌∷◌, Option, Some, None, replicate, if◌then◌else◌, pos}
use Rattle.gui_wire.specs.declared.limits.TheConstants.{WINDOW_FLAG_MINIMIZE}
use Rattle.gui_wire.specs.DaemonMessages as daemon
use Rattle.gui_wire.specs.DaemonMessages.{DaemonMessage, daemon_spelling}
use Rattle.desk_laws.specs.declared.input.GIn.{GIn}
use Rattle.desk_laws.specs.declared.input.GIn.TheVariants.{Key, Button, Motion, Crossing, Focus, Keymap, Close, Place, Restored, ClipAsk, ClipGive}
use Rattle.desk_laws.specs.Rows.{Row, mine, row_with, placed_at}
use Rattle.desk_laws.specs.Ranges.{IsPlace}
use Rattle.desk_laws.specs.Effects.{Change, Same, Replaced, changed, tells_place, flags_without, as_one}

-- the window that a granted input names, if it names one
abbrev pub window_of : GIn → Option ℕ
window_of (Key window down code state) = Some window
window_of (Button window down x y state button) = Some window
window_of (Motion window x y state) = Some window
window_of (Crossing window enter x y focus) = Some window
window_of (Focus window gained) = Some window
window_of Keymap = None
window_of (Close window) = Some window
window_of (Place window rect) = Some window
window_of (Restored window) = Some window
window_of (ClipAsk window) = Some window
window_of (ClipGive window) = Some window

-- the place that is granted, if one is, is in range
abbrev pub FitsGrant : GIn → Type 0
FitsGrant (Place window rect) = IsPlace rect
FitsGrant input = Unit {0}

-- the change of its row
abbrev pub grant_change : GIn → Row → Change
grant_change (Place window rect) row = Replaced (placed_at rect row)
grant_change (Restored window) row = Replaced (record row { flags = flags_without row.flags WINDOW_FLAG_MINIMIZE })
grant_change input row = Same

-- the messages to the agent
abbrev pub grant_answers : GIn → List ℕ → List (List ℕ)
grant_answers (Key window down code state) paste =
    daemon_spelling window (daemon.Key (if down then 2 else 3) (pos 0) (pos 0) state code) ∷ []
grant_answers (Button window down x y state button) paste =
    daemon_spelling window (daemon.Button (if down then 4 else 5) x y state button) ∷ []
grant_answers (Motion window x y state) paste = daemon_spelling window (daemon.Motion x y state 0) ∷ []
grant_answers (Crossing window enter x y focus) paste =
    daemon_spelling window (daemon.Crossing (if enter then 7 else 8) x y 0 0 3 (as_one focus)) ∷ []
grant_answers (Focus window gained) paste = daemon_spelling window (daemon.Focus (if gained then 9 else 10) 0 3) ∷ []
grant_answers Keymap paste = daemon_spelling 0 (daemon.Keymap (replicate 32 0)) ∷ []
grant_answers (Close window) paste = daemon_spelling window daemon.Close ∷ []
grant_answers (Place window rect) paste = tells_place window rect false ∷ []
grant_answers (Restored window) paste = []
grant_answers (ClipAsk window) paste = daemon_spelling window daemon.ClipAsk ∷ []
grant_answers (ClipGive window) paste = daemon_spelling window (daemon.ClipGive paste) ∷ []

-- the rows after a grant, and what it answers
pub record Granted : Type 0 where
  pub rows : List Row
  pub answers : List (List ℕ)

-- a grant to a row, if it is there
abbrev pub granted_to : ℕ → List Row → GIn → List ℕ → Option Row → Granted
granted_to guest rows input paste None = record { rows = rows; answers = [] }
granted_to guest rows input paste (Some row) =
    record { rows = changed guest (grant_change input row) rows; answers = grant_answers input paste }

-- a grant to the window that it names, or to the guest as a whole
abbrev pub granted_by : ℕ → List Row → GIn → List ℕ → Option ℕ → Granted
granted_by guest rows input paste None = record { rows = rows; answers = grant_answers input paste }
granted_by guest rows input paste (Some window) = granted_to guest rows input paste (row_with window (mine guest rows))

-- a granted input with its paste bytes
abbrev pub granted : ℕ → List Row → GIn → List ℕ → Granted
granted guest rows input paste = granted_by guest rows input paste (window_of input)
