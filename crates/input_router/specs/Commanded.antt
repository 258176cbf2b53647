-- What keys and commands bring about, by the spots of the rows alone.
use Rattle.std.specs.Prelude.{List, [], ◌∷◌, Option, Some, None, option_map}
use Rattle.gui_num.specs.declared.Rect.{Rect}
use Rattle.desk_laws.specs.declared.row_id.RowId.{RowId}
use Rattle.desk_laws.specs.declared.input.GIn.TheVariants as g
use Rattle.desk_laws.specs.Layers.{Layers, raised}
use Rattle.desk_laws.specs.Scene.{Scene, Seat, Delivery, Grants, empty_scene}
use Rattle.input_router.specs.Spots.{Spot}

-- a scene of this seat alone
abbrev pub seated : Seat → Scene
seated seat = record empty_scene { seat = seat }

-- the layers with a row raised, if there is one
abbrev pub raised_if : Option RowId → Layers → Layers
raised_if None layers = layers
raised_if (Some id) layers = raised id layers

-- Close for a row, if there is one
abbrev pub closing : Option RowId → List Delivery
closing None = []
closing (Some id) = Grants id (g.Close id.window) ∷ []

-- Restored for a row, if there is one
abbrev pub restoring : Option RowId → List Delivery
restoring None = []
restoring (Some id) = Grants id (g.Restored id.window) ∷ []

-- a row with the place of its spot, if it has one
abbrev pub with_place : RowId → Option Spot → Option (RowId × Rect)
with_place id spot = option_map (λ s. (id, s.place)) spot

-- a row with its place, if there is one
abbrev pub place_in : (RowId → Option Spot) → Option RowId → Option (RowId × Rect)
place_in spots None = None
place_in spots (Some id) = with_place id (spots id)

-- another place for a row, if there is one
abbrev pub placing : (Rect → Rect) → Option (RowId × Rect) → List Delivery
placing f None = []
placing f (Some found) = Grants found.0 (g.Place found.0.window (f found.1)) ∷ []
