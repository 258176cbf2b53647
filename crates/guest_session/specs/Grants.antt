-- What a granted input does to the rows of a guest, and what is told of it.
use Rattle.std.specs.Prelude.{◌≡◌, ℕ, List, [], ◌∷◌, Option, Some, None}
use Rattle.gui_wire.specs.DaemonMessages.{DaemonKeepsLengths, daemon_spelling}
use Rattle.gui_wire.specs.Seen.{daemon_message}
use Rattle.gui_wire.specs.declared.DaemonMsg.{DaemonMsg}
use Rattle.desk_laws.specs.declared.input.GIn.{GIn}
use Rattle.desk_laws.specs.Grants.{Granted, granted, window_of}
use Rattle.desk_laws.specs.Scene.{Post, replies}
use Rattle.io_ports.specs.Posts.{Leads}
use Rattle.guest_session.specs.RowsView.{RowsView}

-- a name of a window, 0 for none
abbrev pub or_none : Option ℕ → ℕ
or_none (Some window) = window
or_none None = 0

-- the window that a message of a granted input names, 0 for none
abbrev pub window_named : GIn → ℕ
window_named input = or_none (window_of input)

-- these answers are a message for a window, if there is one
abbrev pub IsTold : List (List ℕ) → ℕ → Option DaemonMsg → Type 0
IsTold answers window None = answers ≡ []
IsTold answers window (Some msg) =
    (answers ≡ daemon_spelling window (daemon_message msg) ∷ []) × DaemonKeepsLengths (daemon_message msg)

-- what a grant does to the rows of a guest, and what it answers
abbrev pub granted_in : RowsView → GIn → List ℕ → Granted
granted_in rows input paste = granted rows.guest rows.rows input paste

-- the rows changed, and the guest was answered, as a granted input with its paste bytes says
pub record Grants {O : Type 0} (takes : O → Post → O → Type 0) (out out' : O) (input : GIn) (paste : List ℕ) (old new : RowsView) : Type 0 where
  pub rows : new ≡ record old { rows = (granted_in old input paste).rows }
  pub told : Leads takes out (replies old.guest (granted_in old input paste).answers) out'
