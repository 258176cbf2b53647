-- What an item does to a desk.
use Rattle.std.specs.Prelude.{◌≡◌, ℕ, true, List}
use Rattle.desk_laws.specs.declared.item.Item.{Item}
use Rattle.desk_laws.specs.declared.item.Item.TheVariants as items
use Rattle.desk_laws.specs.declared.setup.Setup.{Setup}
use Rattle.desk_laws.specs.Edges.{EdgesStayApart}
use Rattle.desk_laws.specs.Endings.{is_item_of}
use Rattle.desk_laws.specs.Frames.{PortState}
use Rattle.desk_laws.specs.Override.{KeepsLimits}
use Rattle.desk_laws.specs.Scene.{Post}
use Rattle.desk_laws.specs.Sizes.{sizes_of}
use Rattle.desk_laws.specs.State.{DeskState}
use Rattle.desk_laws.specs.Steps.{step}
use Rattle.io_ports.specs.Posts.{Leads}
use Rattle.frame_pool.specs.Ports.{KeepsExtent}
use Rattle.desk_core.specs.DeskView.{DeskView, guests_of, pages_of, picture_of, session_in}
use Rattle.desk_core.specs.DeskPosts.{guest_posts}
use Rattle.desk_core.specs.DeskStands.{IsAtRest, Stands}
use Rattle.desk_core.specs.Painting.{painted_after, plane}

-- a guest's session, with its windows and what was read of them, and its frames are as before
pub record LeavesGuest (guest : ℕ) (old new : DeskView) (port port' : ℕ → PortState) : Type 0 where
  pub session : session_in guest new ≡ session_in guest old
  pub frames : port' guest ≡ port guest

-- an item was taken with its piece: the desk stands for the state after it, with every guest at rest, the outlet took
-- what it tells guests, the picture is drawn at Snap, and nothing of other guests changed
pub record TakesItem {O : Type 0} (takes : O → Post → O → Type 0) (out out' : O) (item : Item) (piece : List ℕ) (old new : DeskView) (frames frames' : ℕ → PortState) : Type 0 where
  pub rests : (setup : Setup) (state : DeskState) → Stands setup old frames state → IsAtRest setup new frames' (step setup item piece state).desk
  pub posts : (setup : Setup) (state : DeskState) → Stands setup old frames state → Leads takes out (guest_posts (step setup item piece state).posts) out'
  pub drawn : item ≡ items.Snap → (setup : Setup) (state : DeskState) → Stands setup old frames state → (picture_of new).pixels ≡ plane setup state.scene.rows state.scene.layers
  pub painted : (setup : Setup) (state : DeskState) → Stands setup old frames state → (picture_of new).painted ≡ painted_after setup item (picture_of old).painted
  pub others : (guest other : ℕ) → is_item_of guest item ≡ true → (other ≡ guest → ⊥) → LeavesGuest other old new frames frames'
  pub sizes : KeepsExtent guests_of pages_of old new

-- what a step by an item does to a desk that stood for this state: the desk stands for the state after it, the outlet
-- took what it tells guests, and at Snap the picture is the composition of all windows in the outputs, which count as drawn whole; no
-- two contents in that composition touch, and the override-redirect windows keep their limits
pub record Steps {O : Type 0} (takes : O → Post → O → Type 0) (out out' : O) (setup : Setup) (item : Item) (piece : List ℕ) (state : DeskState) (old new : DeskView) (frames' : ℕ → PortState) : Type 0 where
  pub stands : Stands setup new frames' (step setup item piece state).desk
  pub posts : Leads takes out (guest_posts (step setup item piece state).posts) out'
  pub drawn : item ≡ items.Snap → (picture_of new).pixels ≡ plane setup state.scene.rows state.scene.layers
  pub painted : (picture_of new).painted ≡ painted_after setup item (picture_of old).painted
  pub edges : EdgesStayApart setup.border state.scene.rows state.scene.layers
  pub limits : KeepsLimits (sizes_of setup) (step setup item piece state).desk.scene.rows
