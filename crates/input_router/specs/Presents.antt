-- The scenes that a desktop's places, a stack and a router are those of, and what of them is carried out.
use Rattle.std.specs.Prelude.{◌≡◌, ℕ, Option}
use Rattle.desk_laws.specs.declared.row_id.RowId.{RowId}
use Rattle.desk_laws.specs.Layers.{Layers}
use Rattle.desk_laws.specs.Scene.{Scene, Seat, Delivery, InputOutcome}
use Rattle.input_router.specs.Deliveries.{Leads}
use Rattle.input_router.specs.Spots.{Spot, Shows}

-- a scene with these rows, layers and this seat
pub record Presents (border : ℕ) (spots : RowId → Option Spot) (layers : Layers) (seat : Seat) (scene : Scene) : Type 0 where
  pub shows : Shows border spots scene
  pub has_layers : scene.layers ≡ layers
  pub has_seat : scene.seat ≡ seat

-- the seat is that of the outcome, and its deliveries lead from the first deliverer to the last
pub record Carries {V : Type 0} (delivers : V → Delivery → V → Type 0) (first last : V) (seat : Seat) (outcome : InputOutcome) : Type 0 where
  pub has_seat : seat ≡ outcome.seat
  pub leads : Leads delivers first outcome.deliveries last
