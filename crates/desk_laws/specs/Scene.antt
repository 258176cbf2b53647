-- What is on the desktop, as the user sees and touches it, and what is granted there.
use Rattle.std.specs.Prelude.{ℕ, List, [], ◌∷◌, ◌++◌, map, if◌then◌else◌, Option, Some, None, Bool, true, false, is_some}
use Rattle.gui_num.specs.declared.Point.{Point}
use Rattle.desk_laws.specs.declared.row_id.RowId.{RowId}
use Rattle.desk_laws.specs.declared.cause.Cause.{Cause}
use Rattle.desk_laws.specs.declared.input.GIn.{GIn}
use Rattle.desk_laws.specs.declared.setup.Pair.{Pair}
use Rattle.desk_laws.specs.Pairs.{denies}
use Rattle.desk_laws.specs.Stream.{StreamUnit}
use Rattle.desk_laws.specs.Rows.{Row, row_at}
use Rattle.desk_laws.specs.Layers.{Layers, no_layers, followed}
use Rattle.desk_laws.specs.Grants.{Granted, granted}
use Rattle.desk_laws.specs.Clipboard.{Clip, Content, empty_clip, ask, wiped}
use Rattle.desk_laws.specs.declared.input.GIn.TheVariants.{ClipAsk, ClipGive}

-- a grabbed row and the buttons that are held
pub record Grab : Type 0 where
  pub row : RowId
  pub buttons : List ℕ

-- the pointer, the grab and the pressed keys, and the focus and hover that were last told
pub record Seat : Type 0 where
  pub pointer : Option Point
  pub grab : Option Grab
  pub pressed_keys : List ℕ
  pub focus : Option RowId
  pub hover : Option RowId

-- no pointer, no grab, no key, no focus
abbrev pub idle_seat : Seat
idle_seat = record { pointer = None; grab = None; pressed_keys = []; focus = None; hover = None }

-- what is on the desktop: all rows, their layers, the seat and the clipboard
pub record Scene : Type 0 where
  pub rows : List Row
  pub layers : Layers
  pub seat : Seat
  pub clip : Clip

-- nothing is on the desktop
abbrev pub empty_scene : Scene
empty_scene = record { rows = []; layers = no_layers; seat = idle_seat; clip = empty_clip }

-- the rows, and the lists that follow them
abbrev pub with_rows : List Row → Scene → Scene
with_rows rows scene = record scene { rows = rows; layers = followed rows scene.layers }

-- how many items, messages and glances there were
pub record Counts : Type 0 where
  pub items : ℕ
  pub messages : ℕ
  pub glances : ℕ

-- what the desktop writes
pub data Post : Type 0 where
  Reply : (guest : ℕ) (bytes : List ℕ) → Post
  Ended : (guest : ℕ) (cause : Cause) → Post
  Picture : (width height : ℕ) (colours : List ℕ) → Post
  Summary : Counts → Post

-- what reaches one guest's session
pub data Input : Type 0 where
  Took : StreamUnit → Input
  Given : GIn → (paste : List ℕ) → Input
  Closing : Input
  Losing : Input

-- an input with the guest whose session it reached
pub record GuestInput : Type 0 where
  pub guest : ℕ
  pub input : Input

-- answers as posts for a guest
abbrev pub replies : ℕ → List (List ℕ) → List Post
replies guest answers = map (Reply guest) answers

-- a scene with what came out on the way to it
pub record SceneOutcome : Type 0 where
  pub scene : Scene
  pub posts : List Post
  pub inputs : List GuestInput

-- nothing came out
abbrev pub unchanged : Scene → SceneOutcome
unchanged scene = record { scene = scene; posts = []; inputs = [] }

-- what came out before, and then what comes out next
abbrev pub outcome_after : SceneOutcome → SceneOutcome → SceneOutcome
outcome_after before next = record {
  scene = next.scene;
  posts = before.posts ++ next.posts;
  inputs = before.inputs ++ next.inputs;
}

-- what comes out of one thing and then of another
abbrev pub and_then : SceneOutcome → (Scene → SceneOutcome) → SceneOutcome
and_then before step = outcome_after before (step before.scene)

-- ---- grants

-- a granted input with its paste bytes, for the guest of a row
abbrev pub grant_in : RowId → GIn → List ℕ → Granted → Scene → SceneOutcome
grant_in id input paste g scene = record {
  scene = with_rows g.rows scene;
  posts = replies id.guest g.answers;
  inputs = record { guest = id.guest; input = Given input paste } ∷ [];
}

-- a grant where the row is there
abbrev pub grant_where : Bool → RowId → GIn → List ℕ → Scene → SceneOutcome
grant_where false id input paste scene = unchanged scene
grant_where true id input paste scene = grant_in id input paste (granted id.guest scene.rows input paste) scene

-- nothing is granted to a row that is gone
abbrev pub grant : RowId → GIn → List ℕ → Scene → SceneOutcome
grant id input paste scene = grant_where (is_some (row_at id scene.rows)) id input paste scene

-- ---- deliveries

-- what the pointer and the keyboard hand on, each for a row: an input, the question for its guest's clipboard, or a paste
pub data Delivery : Type 0 where
  Grants : RowId → GIn → Delivery
  Asks : RowId → Delivery
  Pastes : RowId → Delivery

-- another clipboard
abbrev pub with_clip : Clip → Scene → Scene
with_clip clip scene = record scene { clip = clip }

-- the held bytes for a row, which are held no longer; where the pair of guests is denied, nothing
abbrev pub pastes : List Pair → RowId → Option Content → Scene → SceneOutcome
pastes denied id None scene = unchanged scene
pastes denied id (Some content) scene =
    if denies denied content.source id.guest then unchanged scene
    else grant id (ClipGive id.window) content.bytes (with_clip (wiped scene.clip) scene)

-- the question for the clipboard of a row's guest
abbrev pub asks : RowId → Scene → SceneOutcome
asks id scene = grant id (ClipAsk id.window) [] (with_clip (ask id.guest scene.clip) scene)

-- one delivery, where no paste goes between these pairs of guests
abbrev pub deliver : List Pair → Delivery → Scene → SceneOutcome
deliver denied (Grants id input) scene = grant id input [] scene
deliver denied (Asks id) scene = asks id scene
deliver denied (Pastes id) scene = pastes denied id scene.clip.content scene

-- deliveries in their order
abbrev pub deliver_all : List Pair → List Delivery → Scene → SceneOutcome
deliver_all denied [] scene = unchanged scene
deliver_all denied (d ∷ deliveries) scene = and_then (deliver denied d scene) (deliver_all denied deliveries)

-- what an event does to the layers and the seat, and what it hands on
pub record InputOutcome : Type 0 where
  pub layers : Layers
  pub seat : Seat
  pub deliveries : List Delivery

-- nothing happens
abbrev pub ignored : Scene → InputOutcome
ignored scene = record { layers = scene.layers; seat = scene.seat; deliveries = [] }

-- another seat, and deliveries
abbrev pub with_deliveries : Scene → Seat → List Delivery → InputOutcome
with_deliveries scene seat deliveries = record { layers = scene.layers; seat = seat; deliveries = deliveries }

-- the scene with the layers and the seat of an outcome
abbrev pub scene_of_input : InputOutcome → Scene → Scene
scene_of_input r scene = record scene { layers = r.layers; seat = r.seat }

-- the deliveries of an outcome, carried out
abbrev pub perform : List Pair → InputOutcome → Scene → SceneOutcome
perform denied r scene = deliver_all denied r.deliveries (scene_of_input r scene)
