-- One step of the whole desktop: an item with its piece.
use Rattle.std.specs.Prelude.{ℕ, ◌+◌, List, [], ◌∷◌, ◌++◌, map, length, Option, Some, None, ◌||◌}
use Rattle.gui_num.specs.declared.Rect.{Rect}
use Rattle.gui_wire.specs.AgentMessages as agent
use Rattle.gui_wire.specs.AgentMessages.{AgentMessage, reading}
use Rattle.desk_laws.specs.declared.setup.Setup.{Setup}
use Rattle.desk_laws.specs.Sizes.{sizes_of}
use Rattle.desk_laws.specs.declared.cause.Cause.{Cause}
use Rattle.desk_laws.specs.declared.cause.Cause.TheVariants.{StreamEnded, LinkFailed}
use Rattle.desk_laws.specs.declared.item.Item.{Item}
use Rattle.desk_laws.specs.declared.item.Item.TheVariants as item
use Rattle.desk_laws.specs.Stream.{StreamUnit, Word, Stop, Whole, Cut, cut, is_greeting}
use Rattle.desk_laws.specs.Frames.{store, counted}
use Rattle.desk_laws.specs.Effects.{Effect, effect, changed, Cleared}
use Rattle.desk_laws.specs.Clipboard.{Clip, give, forget}
use Rattle.desk_laws.specs.Rows.{Row}
use Rattle.desk_laws.specs.Layers.{Layers}
use Rattle.desk_laws.specs.Picture.{picture}
use Rattle.desk_laws.specs.Scene.{Scene, SceneOutcome, Counts, Post, Ended, Picture, Summary, Input, Took, Closing, Losing, and_then, with_rows, with_clip, perform, replies}
use Rattle.desk_laws.specs.State.{DeskState, StepOutcome, Session, stays, and_next, on_desk, session_of, with_session, count_item}
use Rattle.desk_laws.specs.Settle.{settle}
use Rattle.desk_laws.specs.Events.{route}
use Rattle.desk_laws.specs.Items.{FedItem}

-- ---- one unit

-- the clipboard, which holds so many bytes, after a message
abbrev pub clip_after : ℕ → ℕ → Option AgentMessage → Clip → Clip
clip_after limit guest (Some (agent.ClipData bytes)) clip = give limit guest bytes clip
clip_after limit guest m clip = clip

-- the clipboard after a unit
abbrev pub clip_of_unit : ℕ → ℕ → StreamUnit → Clip → Clip
clip_of_unit limit guest (Word word) clip = clip
clip_of_unit limit guest (Stop cause) clip = clip
clip_of_unit limit guest (Whole header body) clip = clip_after limit guest (reading header.kind body) clip

-- how many messages a unit counts for
abbrev pub messages_of : StreamUnit → ℕ
messages_of (Word word) = 0
messages_of (Stop cause) = 0
messages_of (Whole header body) = 1

-- what is told of a session's end stands before what is granted
abbrev pub end_told : ℕ → Input → Cause → Scene → SceneOutcome
end_told guest input cause scene = record {
  scene = with_clip (forget guest scene.clip) (with_rows (changed guest Cleared scene.rows) scene);
  posts = Ended guest cause ∷ [];
  inputs = record { guest = guest; input = input } ∷ [];
}

-- a session ends with a cause
abbrev pub ends : Setup → ℕ → Input → Cause → DeskState → StepOutcome
ends setup guest input cause desk =
    on_desk (and_then (end_told guest input cause desk.scene) (settle (sizes_of setup))) []
    (with_session guest (record (session_of guest desk) { rest = []; ended = Some cause }) desk)

-- the scene after a unit, with what is told; the clipboard holds so many bytes
abbrev pub unit_told : ℕ → ℕ → StreamUnit → Effect → Scene → SceneOutcome
unit_told limit guest unit e scene = record {
  scene = with_clip (clip_of_unit limit guest unit scene.clip) (with_rows e.rows scene);
  posts = replies guest e.answers;
  inputs = record { guest = guest; input = Took unit } ∷ [];
}

-- the counts after a unit
abbrev pub counts_after : StreamUnit → Effect → Counts → Counts
counts_after unit e counts = record counts {
  messages = counted (counts.messages + messages_of unit);
  glances = counted (counts.glances + length e.readings);
}

-- the guest's session after a unit
abbrev pub session_after : StreamUnit → Effect → Session → Session
session_after unit e session = record session { greeted = is_greeting unit || session.greeted; minor = e.minor; port = e.port }

-- a unit that ended nothing
abbrev pub went : Setup → ℕ → StreamUnit → Effect → DeskState → StepOutcome
went setup guest unit e desk =
    on_desk (and_then (unit_told (sizes_of setup).clip_limit guest unit e desk.scene) (settle (sizes_of setup))) (map (λ w. record { guest = guest; word = w }) e.readings)
    (with_session guest (session_after unit e (session_of guest desk))
    (record desk { counts = counts_after unit e desk.counts }))

-- a unit, whether it ended the session or not
abbrev pub unit_done : Setup → ℕ → StreamUnit → Effect → Option Cause → DeskState → StepOutcome
unit_done setup guest unit e None desk = went setup guest unit e desk
unit_done setup guest unit e (Some cause) desk = ends setup guest (Took unit) cause desk

-- the effect of a unit on this state
abbrev pub unit_effect : Setup → ℕ → StreamUnit → DeskState → Effect
unit_effect setup guest unit desk =
    effect (sizes_of setup) guest (session_of guest desk).minor desk.scene.rows (session_of guest desk).port unit

-- one unit of a session that hasn't ended
abbrev pub unit_of_open : Setup → ℕ → StreamUnit → Option Cause → DeskState → StepOutcome
unit_of_open setup guest unit (Some cause) desk = stays desk
unit_of_open setup guest unit None desk =
    unit_done setup guest unit (unit_effect setup guest unit desk) (unit_effect setup guest unit desk).cause desk

-- one unit
abbrev pub take_unit : Setup → ℕ → StreamUnit → DeskState → StepOutcome
take_unit setup guest unit desk = unit_of_open setup guest unit (session_of guest desk).ended desk

-- units in order, until one ends the session
abbrev pub take_units : Setup → ℕ → List StreamUnit → DeskState → StepOutcome
take_units setup guest [] desk = stays desk
take_units setup guest (unit ∷ units) desk = and_next (take_unit setup guest unit desk) (take_units setup guest units)

-- ---- items

-- the rest of a session, unless it has ended
abbrev pub rest_of_open : ℕ → List ℕ → Option Cause → DeskState → DeskState
rest_of_open guest rest (Some cause) desk = desk
rest_of_open guest rest None desk = with_session guest (record (session_of guest desk) { rest = rest }) desk

-- the rest of a session that hasn't ended
abbrev pub with_rest : ℕ → List ℕ → DeskState → DeskState
with_rest guest rest desk = rest_of_open guest rest (session_of guest desk).ended desk

-- the units of a cut, and its rest kept
abbrev pub take_cut : Setup → ℕ → Cut → DeskState → StepOutcome
take_cut setup guest c desk = take_units setup guest c.units (with_rest guest c.rest desk)

-- bytes of a session, unless it has ended
abbrev pub bytes_of_open : Setup → ℕ → List ℕ → Option Cause → DeskState → StepOutcome
bytes_of_open setup guest piece (Some cause) desk = stays desk
bytes_of_open setup guest piece None desk =
    take_cut setup guest (cut (session_of guest desk).greeted ((session_of guest desk).rest ++ piece)) desk

-- a session ends, unless it has ended
abbrev pub end_of_open : Setup → ℕ → Input → Cause → Option Cause → DeskState → StepOutcome
end_of_open setup guest input cause (Some ended) desk = stays desk
end_of_open setup guest input cause None desk = ends setup guest input cause desk

-- a session ends
abbrev pub end_session : Setup → ℕ → Input → Cause → DeskState → StepOutcome
end_session setup guest input cause desk = end_of_open setup guest input cause (session_of guest desk).ended desk

-- the bytes of a piece
abbrev pub take_bytes : Setup → ℕ → List ℕ → DeskState → StepOutcome
take_bytes setup guest piece desk = bytes_of_open setup guest piece (session_of guest desk).ended desk

-- a change of a guest's frames, unless its session has ended
abbrev pub store_of_open : ℕ → ℕ → ℕ → ℕ → List ℕ → Option Cause → DeskState → StepOutcome
store_of_open guest delay page offset bytes (Some ended) desk = stays desk
store_of_open guest delay page offset bytes None desk =
    stays (with_session guest (record (session_of guest desk) {
      port = store (session_of guest desk).port delay page offset bytes;
    }) desk)

-- a change of a guest's frames
abbrev pub take_store : ℕ → ℕ → ℕ → ℕ → List ℕ → DeskState → StepOutcome
take_store guest delay page offset bytes desk =
    store_of_open guest delay page offset bytes (session_of guest desk).ended desk

-- the picture of an output
abbrev pub picture_post : Setup → List Row → Layers → Rect → Post
picture_post setup rows layers output = Picture output.w output.h (picture setup rows layers output)

-- the pictures are asked for: one of each output, in the order of the setup
abbrev pub snap : Setup → DeskState → StepOutcome
snap setup desk = record {
  desk = desk;
  posts = map (picture_post setup desk.scene.rows desk.scene.layers) setup.outputs;
  inputs = [];
  readings = [];
}

-- the input's end: the counts
abbrev pub summary : DeskState → StepOutcome
summary desk = record { desk = desk; posts = Summary desk.counts ∷ []; inputs = []; readings = [] }

-- what the user did, settled
abbrev pub event : Setup → Item → DeskState → StepOutcome
event setup i desk = on_desk (and_then (perform setup.denied (route setup i desk.scene) desk.scene) (settle (sizes_of setup))) [] desk

-- an item, its count taken
abbrev pub step_counted : Setup → Item → List ℕ → DeskState → StepOutcome
step_counted setup (item.Bytes guest) piece desk = take_bytes setup guest piece desk
step_counted setup (item.Closed guest) piece desk = end_session setup guest Closing (StreamEnded 0 0) desk
step_counted setup (item.Store guest delay page offset) piece desk = take_store guest delay page offset piece desk
step_counted setup item.Snap piece desk = snap setup desk
step_counted setup item.End piece desk = summary desk
step_counted setup (item.Lost guest) piece desk = end_session setup guest Losing (LinkFailed 0 0) desk
step_counted setup item.Idle piece desk = stays desk
step_counted setup i piece desk = event setup i desk

-- an item counts, but for Idle
abbrev pub count_of : Item → DeskState → DeskState
count_of item.Idle desk = desk
count_of i desk = count_item desk

-- one step
abbrev pub step : Setup → Item → List ℕ → DeskState → StepOutcome
step setup i piece desk = step_counted setup i piece (count_of i desk)

-- a whole run: one step for each item, in order
abbrev pub run : Setup → List FedItem → DeskState → StepOutcome
run setup [] desk = stays desk
run setup (i ∷ items) desk = and_next (step setup i.item i.piece desk) (run setup items)
