-- Which scene sessions, layers and a router stand for, and what of it is carried out on the sessions.
use Rattle.std.specs.Prelude.{◌≡◌, ℕ, ◌<◌, true, List, length, map, slice_index_or}
use Rattle.desk_laws.specs.Sizes.{Sizes}
use Rattle.desk_laws.specs.Rows.{id_of, mine}
use Rattle.desk_laws.specs.Layers.{Layers, are_apart}
use Rattle.desk_laws.specs.Following.{LayersFollow}
use Rattle.desk_laws.specs.Scene.{Scene, SceneOutcome, Seat, Post}
use Rattle.desk_laws.specs.Settle.{settle}
use Rattle.io_ports.specs.Posts.{Leads}
use Rattle.clipboard_gate.specs.Kept.{GateView, keeping}
use Rattle.guest_session.specs.SessionView.{SessionView, AreRows}
use Rattle.desk_core.specs.WindowsView.{no_session}
use Rattle.desk_core.specs.Panes.{rows_in}

-- the session at a place, that of nobody behind the last one
abbrev pub session_at : List SessionView → ℕ → SessionView
session_at sessions guest = slice_index_or sessions guest no_session

-- each guest's rows in the scene are those of its session, and each session is that of the guest at its place
pub record HasRowsOf (sessions : List SessionView) (scene : Scene) : Type 0 where
  pub rows : (guest : ℕ) → mine guest scene.rows ≡ rows_in sessions guest
  pub owner : (guest : ℕ) → guest < length sessions → (session_at sessions guest).guest ≡ guest
  pub own : (guest : ℕ) → guest < length sessions → AreRows guest (rows_in sessions guest)

-- as many sessions, which changed in nothing but their rows
pub record KeepSessions (old new : List SessionView) : Type 0 where
  pub count : length new ≡ length old
  pub rest : (guest : ℕ) → session_at new guest ≡ record (session_at old guest) { rows = rows_in new guest }

-- each session takes a paste of all that the clipboard can hold
abbrev pub TakePastes : GateView → List SessionView → Type 0
TakePastes gate sessions = (guest : ℕ) → guest < length sessions → (session_at sessions guest).sizes.clip_limit ≡ gate.limit

-- what comes of a scene was carried out on the sessions: their rows are those of the scene after it, and the outlet took
-- what the guests are told
pub record CarriedOut {O : Type 0} (takes : O → Post → O → Type 0) (out out' : O) (sessions' : List SessionView) (outcome : SceneOutcome) : Type 0 where
  pub rows : HasRowsOf sessions' outcome.scene
  pub posts : Leads takes out outcome.posts out'

-- the same, where this many bytes are the most that the clipboard holds, and it is that of the scene after it
pub record Delivered {O : Type 0} (takes : O → Post → O → Type 0) (out out' : O) (sessions' : List SessionView) (limit : ℕ) (gate' : GateView) (outcome : SceneOutcome) : Type 0 where
  pub carried : CarriedOut takes out out' sessions' outcome
  pub clip : gate' ≡ keeping limit outcome.scene.clip

-- the scene of these sessions, layers and seat, whose layers follow its rows
pub record IsScene (sessions : List SessionView) (layers : Layers) (seat : Seat) (scene : Scene) : Type 0 where
  pub has_rows : HasRowsOf sessions scene
  pub apart : are_apart (map id_of scene.rows) ≡ true
  pub has_layers : scene.layers ≡ layers
  pub has_seat : scene.seat ≡ seat
  pub follow : LayersFollow scene.rows scene.layers

-- focus and hover were told, as on this scene: no session changed, and neither did the clipboard
pub record Settles {O : Type 0} (takes : O → Post → O → Type 0) (out out' : O) (sessions sessions' : List SessionView) (gate gate' : GateView) (seat' : Seat) (sizes : Sizes) (scene : Scene) : Type 0 where
  pub same_sessions : sessions' ≡ sessions
  pub same_gate : gate' ≡ gate
  pub has_seat : seat' ≡ (settle sizes scene).scene.seat
  pub posts : Leads takes out (settle sizes scene).posts out'
