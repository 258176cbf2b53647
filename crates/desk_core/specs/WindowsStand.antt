-- Which state of the definitions the windows of a desk stand for.
use Rattle.std.specs.Prelude.{◌≡◌, ℕ, ◌+◌, ◌-◌, ◌^◌, ◌<◌, ◌≤◌, true, false, List, [], length, map, Option, Some, None, slice_get}
use Rattle.gui_num.specs.declared.Rect.{Rect}
use Rattle.gui_num.specs.Rects.{area}
use Rattle.desk_laws.specs.declared.limits.TheConstants.{MAX_GUESTS}
use Rattle.desk_laws.specs.declared.setup.Setup.{Setup}
use Rattle.desk_laws.specs.Sizes.{sizes_of}
use Rattle.desk_laws.specs.Stream.{front, Wait}
use Rattle.desk_laws.specs.Rows.{id_of, mine}
use Rattle.desk_laws.specs.Layers.{are_apart}
use Rattle.desk_laws.specs.Picture.{label_of}
use Rattle.desk_laws.specs.Frames.{PortState, counted}
use Rattle.desk_laws.specs.Following.{LayersFollow}
use Rattle.desk_laws.specs.Scene.{Post}
use Rattle.desk_laws.specs.State.{DeskState, Session, StepOutcome, session_of}
use Rattle.io_ports.specs.Posts.{Leads}
use Rattle.clipboard_gate.specs.Kept.{keeping}
use Rattle.in_stream.specs.Received.{StandsFor}
use Rattle.guest_session.specs.SessionView.{SessionView, AreRows, opened}
use Rattle.desk_core.specs.declared.summary.Summary.{Summary}
use Rattle.desk_core.specs.WindowsView.{WindowsView, PartView, guests_of, session_in, part_of}
use Rattle.desk_core.specs.DeskPosts.{guest_posts}

-- the numbers and colours are those of the setup
pub record HasNumbers (setup : Setup) (desk : WindowsView) : Type 0 where
  pub width : desk.picture.width ≡ setup.width
  pub height : desk.picture.height ≡ setup.height
  pub background : desk.picture.background ≡ setup.background.0
  pub outputs : desk.picture.outputs ≡ setup.outputs
  pub border : desk.border ≡ setup.border
  pub denied : desk.denied ≡ setup.denied
  pub labels : (guest : ℕ) → guest < length setup.guests → slice_get desk.labels guest ≡ Some (record { 0 = label_of setup guest })
  pub wide : 1 ≤ setup.border
  pub narrow : setup.border ≤ 16
  pub most_columns : setup.width ≤ 8192
  pub most_rows : setup.height ≤ 8192
  pub guests : guests_of desk ≡ length setup.guests
  pub some : 1 ≤ length setup.guests
  pub few : length setup.guests ≤ MAX_GUESTS

-- a session that is open, in the definitions and among the windows, where these bytes are held
pub record IsOpen (held : List ℕ) (view : SessionView) (session : Session) : Type 0 where
  pub greeted : session.greeted ≡ view.stream.greeted
  pub minor : session.minor ≡ view.minor
  pub stream : StandsFor view.stream held

-- one guest's part of the windows stands for a state of the definitions, with a port on which the guest's frames are
-- these, and holds these bytes of the guest while its session is open. Nothing is said of what windows don't keep: the
-- seat, which the desk adds
pub record PartStands (setup : Setup) (guest : ℕ) (held : List ℕ) (part : PartView) (port : PortState) (state : DeskState) : Type 0 where
  pub there : guest < length state.sessions
  pub sizes : part.session.sizes ≡ sizes_of setup
  pub owner : part.session.guest ≡ guest
  pub own : AreRows guest part.session.rows
  pub rows : mine guest state.scene.rows ≡ part.session.rows
  pub apart : are_apart (map id_of state.scene.rows) ≡ true
  pub layers : state.scene.layers ≡ part.layers
  pub followed : LayersFollow state.scene.rows part.layers
  pub gate : part.gate ≡ keeping (sizes_of setup).clip_limit state.scene.clip
  pub ended : (session_of guest state).ended ≡ part.session.ended
  pub opened : part.session.ended ≡ None → IsOpen held part.session (session_of guest state)
  pub frames : (session_of guest state).port ≡ port
  pub messages : state.counts.messages ≡ part.messages
  pub glances : state.counts.glances ≡ part.glances
  pub messages_in_range : part.messages ≤ 2 ^ 64 - 1
  pub glances_in_range : part.glances ≤ 2 ^ 64 - 1

-- the windows stand for a state of the definitions, with a port on which the frames of each guest are these, and
-- these bytes are held of each guest while its session is open; no window is of a guest that isn't there
pub record StandsWith (setup : Setup) (held : ℕ → List ℕ) (desk : WindowsView) (frames : ℕ → PortState) (state : DeskState) : Type 0 where
  pub numbers : HasNumbers setup desk
  pub count : length state.sessions ≡ length setup.guests
  pub parts : (guest : ℕ) → guest < length setup.guests → PartStands setup guest (held guest) (part_of guest desk) (frames guest) state
  pub known : (guest : ℕ) → length setup.guests ≤ guest → mine guest state.scene.rows ≡ []
  pub items : state.counts.items ≡ desk.items

-- the rests of the sessions of a state
abbrev pub rests_of : DeskState → ℕ → List ℕ
rests_of state guest = (session_of guest state).rest

-- the same where every guest is at rest: the bytes that are held are the sessions' rests, in which no whole unit is
pub record AreAtRest (setup : Setup) (desk : WindowsView) (frames : ℕ → PortState) (state : DeskState) : Type 0 where
  pub with_rest : StandsWith setup (rests_of state) desk frames state
  pub waits : (guest : ℕ) → guest < length setup.guests → (session_in guest desk).ended ≡ None
      → front (session_in guest desk).stream.greeted (session_of guest state).rest ≡ Wait

-- a session before any of its bytes
pub record IsFresh (setup : Setup) (guest : ℕ) (session : SessionView) : Type 0 where
  pub new : session ≡ opened guest (sizes_of setup) session.stream
  pub greeted : session.stream.greeted ≡ false
  pub stands : StandsFor session.stream []

-- ---- what a step does to the windows

-- an item more
abbrev pub item_counted : WindowsView → WindowsView
item_counted desk = record desk { items = counted (desk.items + 1) }

-- a part and frames that stand for the state after some steps, and an outlet that took what they told the guests
abbrev pub LeadsTo : {O : Type 0} → (O → Post → O → Type 0) → O → O → Setup → ℕ → List ℕ → PartView → PortState → StepOutcome → Type 0
LeadsTo takes out out' setup guest held part port outcome = PartStands setup guest held part port outcome.desk × Leads takes out (guest_posts outcome.posts) out'

-- a change of frames leaves windows that stand, with every guest at rest, and tells nobody anything
abbrev pub StoresTo : Setup → WindowsView → (ℕ → PortState) → StepOutcome → Type 0
StoresTo setup desk frames outcome = AreAtRest setup desk frames outcome.desk × (outcome.posts ≡ [])

-- how many words were read of an area, one for each pixel
abbrev pub glances_in : Option Rect → ℕ
glances_in None = 0
glances_in (Some read) = area read

-- what the counts are
abbrev pub summary_in : WindowsView → Summary
summary_in desk = record { items = desk.items; messages = desk.messages; glances = desk.glances; painted = desk.picture.painted }
