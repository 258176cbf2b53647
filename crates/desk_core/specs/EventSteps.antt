-- What an event of the user does to the sessions, to the lists of their windows and to the seat.
use Rattle.std.specs.Prelude.{◌≡◌, ℕ, Bool, true, List, Option}
use Rattle.desk_laws.specs.declared.setup.Setup.{Setup}
use Rattle.desk_laws.specs.declared.row_id.RowId.{RowId}
use Rattle.desk_laws.specs.declared.item.Item.{Item}
use Rattle.desk_laws.specs.declared.item.Item.TheVariants as item
use Rattle.input_router.specs.Routes.{HoldsShown}
use Rattle.desk_laws.specs.Sizes.{Sizes}
use Rattle.desk_laws.specs.Layers.{Layers}
use Rattle.desk_laws.specs.Frames.{PortState}
use Rattle.desk_laws.specs.Scene.{Scene, Seat, Post, SceneOutcome}
use Rattle.desk_laws.specs.Settle.{IsSettled, hover_now}
use Rattle.desk_laws.specs.State.{StepOutcome}
use Rattle.io_ports.specs.Posts.{Leads}
use Rattle.clipboard_gate.specs.Kept.{GateView, keeping}
use Rattle.guest_session.specs.SessionView.{SessionView}
use Rattle.desk_core.specs.DeskPosts.{guest_posts}
use Rattle.desk_core.specs.Scenes.{IsScene, KeepSessions}
use Rattle.desk_core.specs.Settling.{HasSeat}
use Rattle.desk_core.specs.WindowsStand.{StandsWith}
use Rattle.desk_core.specs.WindowsView.{WindowsView}

-- what comes of a scene was carried out: sessions, layers, clipboard and seat are those of the scene after it, the outlet
-- took what the guests are told, and focus and hover are still those last told, where it is answered that they are
pub record Performs {O : Type 0} (takes : O → Post → O → Type 0) (out out' : O) (sessions sessions' : List SessionView) (layers' : Layers) (gate' : GateView) (seat' : Seat) (stays : Bool) (sizes : Sizes) (outcome : SceneOutcome) : Type 0 where
  pub scene : IsScene sessions' layers' seat' outcome.scene
  pub clip : gate' ≡ keeping sizes.clip_limit outcome.scene.clip
  pub posts : Leads takes out outcome.posts out'
  pub kept : KeepSessions sessions sessions'
  pub settled : stays ≡ true → IsSettled sizes outcome.scene

-- a row that is grabbed is shown, and the hover is this row, or none
pub record KnowsHover (sizes : Sizes) (scene : Scene) (hover : Option RowId) : Type 0 where
  pub holds : HoldsShown scene
  pub is : hover ≡ hover_now sizes scene

-- of the scene behind a Move the hover is known; of other events it isn't told
abbrev pub FindsBehind : Item → Sizes → Scene → Option RowId → Type 0
FindsBehind (item.Move x y state) sizes scene hover = KnowsHover sizes scene hover
FindsBehind other sizes scene hover = Unit {0}

-- an event was taken: sessions, layers, clipboard and seat are those of the scene after it, in which focus and hover were
-- told as they are, and the outlet took what the guests are told
pub record EventTakes {O : Type 0} (takes : O → Post → O → Type 0) (out out' : O) (sessions sessions' : List SessionView) (layers' : Layers) (gate' : GateView) (seat' : Seat) (sizes : Sizes) (outcome : SceneOutcome) : Type 0 where
  pub scene : IsScene sessions' layers' seat' outcome.scene
  pub clip : gate' ≡ keeping sizes.clip_limit outcome.scene.clip
  pub settled : IsSettled sizes outcome.scene
  pub posts : Leads takes out outcome.posts out'
  pub kept : KeepSessions sessions sessions'

-- windows and a seat that stand for the state after an event, and an outlet that took what it told the guests
pub record EventsTo {O : Type 0} (takes : O → Post → O → Type 0) (out out' : O) (setup : Setup) (held : ℕ → List ℕ) (windows : WindowsView) (frames : ℕ → PortState) (seat : Seat) (outcome : StepOutcome) : Type 0 where
  pub stands : StandsWith setup held windows frames outcome.desk
  pub seated : HasSeat setup seat outcome.desk
  pub posts : Leads takes out (guest_posts outcome.posts) out'
