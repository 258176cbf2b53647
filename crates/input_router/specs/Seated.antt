-- What is known of a router's seat by the spots of the rows alone.
use Rattle.std.specs.Prelude.{Bool, true, false, List, [], ◌∷◌, ◌++◌, Option, Some, None, if◌then◌else◌, pos, ◌-ℤ◌}
use Rattle.gui_num.specs.declared.Point.{Point}
use Rattle.desk_laws.specs.declared.row_id.RowId.{RowId}
use Rattle.desk_laws.specs.declared.input.GIn.TheVariants.{Crossing}
use Rattle.desk_laws.specs.Layers.{Layers}
use Rattle.desk_laws.specs.Scene.{Grab, Delivery, Grants}
use Rattle.desk_laws.specs.Settle.{same_id}
use Rattle.input_router.specs.Spots.{Spot, is_shown_at}
use Rattle.input_router.specs.Walks.{owner_of}

-- a grab, as long as its row is shown
abbrev pub kept_grab : (RowId → Option Spot) → Option Grab → Option Grab
kept_grab spots None = None
kept_grab spots (Some grab) = if is_shown_at (spots grab.row) then Some grab else None

-- the hover: the grabbed row, else the row whose content has the pointer
abbrev pub hover_of : (RowId → Option Spot) → Layers → Option Grab → Option Point → Option RowId
hover_of spots layers (Some grab) pointer = Some grab.row
hover_of spots layers None None = None
hover_of spots layers None (Some p) = owner_of spots layers p

-- the pointer, from the corner of a spot's place
abbrev pub from_spot : Option Spot → Option Point → Point
from_spot None pointer = record { x = pos 0; y = pos 0 }
from_spot (Some spot) None = record { x = pos 0; y = pos 0 }
from_spot (Some spot) (Some p) = record { x = p.x -ℤ spot.place.x; y = p.y -ℤ spot.place.y }

-- Enter or Leave for a row, with this focus and pointer
abbrev pub crossed : (RowId → Option Spot) → Option RowId → Option Point → Bool → Option RowId → List Delivery
crossed spots focus pointer enter None = []
crossed spots focus pointer enter (Some id) =
    Grants id (Crossing id.window enter (from_spot (spots id) pointer).x (from_spot (spots id) pointer).y (same_id (Some id) focus)) ∷ []

-- what is told where the hover is another
abbrev pub hover_moved : (RowId → Option Spot) → Option RowId → Option Point → Option RowId → Option RowId → List Delivery
hover_moved spots focus pointer old new =
    if same_id old new then [] else crossed spots focus pointer false old ++ crossed spots focus pointer true new
