-- What the pointer's events bring about, by the spots of the rows alone.
use Rattle.std.specs.Prelude.{ℕ, Bool, List, [], ◌∷◌, Option, Some, None, option_map, if◌then◌else◌}
use Rattle.gui_num.specs.declared.Point.{Point}
use Rattle.desk_laws.specs.declared.row_id.RowId.{RowId}
use Rattle.desk_laws.specs.declared.input.GIn.TheVariants.{Motion, Button}
use Rattle.desk_laws.specs.Events.{is_among, held, released, grab_left}
use Rattle.desk_laws.specs.Scene.{Grab, Delivery, Grants}
use Rattle.desk_laws.specs.Settle.{same_id}
use Rattle.input_router.specs.Seated.{from_spot}
use Rattle.input_router.specs.Spots.{Spot}

-- a Motion for the row, if there is one
abbrev pub motion_in : (RowId → Option Spot) → Option Point → ℕ → Option RowId → List Delivery
motion_in spots pointer state None = []
motion_in spots pointer state (Some id) =
    Grants id (Motion id.window (from_spot (spots id) pointer).x (from_spot (spots id) pointer).y state) ∷ []

-- a Motion, where the hover is the same before and after
abbrev pub moves_in : (RowId → Option Spot) → Option Point → ℕ → Option RowId → Option RowId → List Delivery
moves_in spots pointer state before after = if same_id before after then motion_in spots pointer state before else []

-- a button for a row
abbrev pub button_in : (RowId → Option Spot) → Option Point → RowId → Bool → ℕ → ℕ → List Delivery
button_in spots pointer id down code state =
    Grants id (Button id.window down (from_spot (spots id) pointer).x (from_spot (spots id) pointer).y state code) ∷ []

-- the grabbed row
abbrev pub grabbed_in : Option Grab → Option RowId
grabbed_in grab = option_map (λ g. g.row) grab

-- the grabbed row, where this button is held
abbrev pub holder_in : ℕ → Option Grab → Option RowId
holder_in code None = None
holder_in code (Some grab) = if is_among code grab.buttons then Some grab.row else None

-- a grab with one button more
abbrev pub more_held : ℕ → Option Grab → Option Grab
more_held code None = None
more_held code (Some grab) = Some (record { row = grab.row; buttons = held code grab.buttons })

-- a grab with one button less
abbrev pub less_held : ℕ → Option Grab → Option Grab
less_held code None = None
less_held code (Some grab) = grab_left grab.row (released code grab.buttons)
