-- What an event of the user leads to.
use Rattle.std.specs.Prelude.{◌≡◌, Bool, true, false, ◌&&◌, not, IsTrue, IfSome, List, [], ◌∷◌, find, Option, Some, None, option_map, if◌then◌else◌}
use Rattle.gui_num.specs.declared.Point.{Point}
use Rattle.desk_laws.specs.declared.row_id.RowId.{RowId}
use Rattle.desk_laws.specs.declared.setup.Setup.{Setup}
use Rattle.desk_laws.specs.declared.item.Item.{Item}
use Rattle.desk_laws.specs.declared.item.Item.TheVariants as item
use Rattle.desk_laws.specs.declared.input.GIn.TheVariants.{Place, Restored}
use Rattle.desk_laws.specs.Sizes.{sizes_of}
use Rattle.desk_laws.specs.Outputs.{is_in_output}
use Rattle.desk_laws.specs.Events.{with_pointer, listed, route}
use Rattle.desk_laws.specs.Layers.{Layers, is_in, raised, topmost, last_that}
use Rattle.desk_laws.specs.Rows.{Row, id_of, row_at, is_shown, is_hidden}
use Rattle.desk_laws.specs.Scene.{Scene, Seat, Grab, Delivery, Grants, InputOutcome}
use Rattle.desk_laws.specs.Settle.{grab_shown, same_id, hover_now}
use Rattle.input_router.specs.declared.router.Routed.{Routed}
use Rattle.input_router.specs.declared.router.Taken.{Taken}
use Rattle.input_router.specs.Presents.{Carries}
use Rattle.input_router.specs.SeatView.{IsPixel}

-- every row of the stack that is there is mapped
abbrev pub AreMapped : Scene → Type 0
AreMapped scene = (id : RowId) → is_in scene.layers.focus id ≡ true → IfSome (row_at id scene.rows) (λ row. row.mapped ≡ true)

-- the pixel of a Move is one that a desktop can have
abbrev pub HasPixel : Item → Type 0
HasPixel (item.Move x y state) = IsPixel (record { x = x; y = y })
HasPixel other = Unit {0}

-- the pixel of a Move is in an output
abbrev pub StaysOn : Setup → Item → Type 0
StaysOn setup (item.Move x y state) = IsTrue (is_in_output setup.outputs (record { x = x; y = y }))
StaysOn setup other = Unit {0}

-- a row that is grabbed is shown
abbrev pub HoldsShown : Scene → Type 0
HoldsShown scene = grab_shown scene.rows scene.seat.grab ≡ scene.seat.grab

-- another focus and hover, as last told
abbrev pub told : Option RowId → Option RowId → Seat → Seat
told focus hover seat = record seat { focus = focus; hover = hover }

-- this listed row was raised, or none and the layers are as they were
abbrev pub Raises : Option RowId → Layers → Layers → Type 0
Raises None before after = after ≡ before
Raises (Some id) before after = IsTrue (is_in before.focus id) × (after ≡ raised id before)

-- the row to which Place or Restored was granted
abbrev pub changed_by : List Delivery → Option RowId
changed_by [] = None
changed_by (Grants id (Place window place) ∷ deliveries) = Some id
changed_by (Grants id (Restored window) ∷ deliveries) = Some id
changed_by (other ∷ deliveries) = changed_by deliveries

-- ---- the row that is raised

-- a row of the normal layer
abbrev pub normal_id : Option Row → Option RowId
normal_id None = None
normal_id (Some row) = if row.over then None else Some (id_of row)

-- the row that a press raises, with this pointer and grab: the normal one that owns the pixel, where none is grabbed
abbrev pub raised_at : Setup → Option Point → Option Grab → Scene → Option RowId
raised_at setup (Some p) None scene = normal_id (topmost setup.border scene.rows scene.layers p)
raised_at setup pointer grab scene = None

-- the row that a button raises as it is pressed
abbrev pub raised_press : Setup → Bool → Scene → Option RowId
raised_press setup true scene = raised_at setup scene.seat.pointer scene.seat.grab scene
raised_press setup false scene = None

-- the row that an event raises
abbrev pub raised_by : Setup → Item → Scene → Option RowId
raised_by setup (item.Press down button state) scene = raised_press setup down scene
raised_by setup item.Next scene = option_map id_of (find (λ row. is_shown row && not row.over) (listed scene))
raised_by setup item.Restore scene = option_map id_of (last_that is_hidden (listed scene))
raised_by setup other scene = None

-- ---- whether focus and hover stay

-- a scene with the pointer at a pixel
abbrev pub pointed : Point → Scene → Scene
pointed p scene = record scene { seat = with_pointer p scene.seat }

-- whether the hover is the same with the pointer at a pixel
abbrev pub hover_stays : Setup → Point → Scene → Bool
hover_stays setup p scene = same_id (hover_now (sizes_of setup) scene) (hover_now (sizes_of setup) (pointed p scene))

-- whether focus and hover stay: a key leaves both as they are, and a move the focus; of other events it isn't said
abbrev pub settled_by : Setup → Item → Scene → Bool
settled_by setup (item.Key down code state) scene = true
settled_by setup (item.Move x y state) scene = hover_stays setup (record { x = x; y = y }) scene
settled_by setup other scene = false

-- ---- the hover that is found

-- for a Move the hover with the pointer at its pixel; of other events it isn't said
abbrev pub FindsHover : Setup → Item → Scene → Option RowId → Type 0
FindsHover setup (item.Move x y state) scene hover = hover ≡ hover_now (sizes_of setup) (pointed (record { x = x; y = y }) scene)
FindsHover setup other scene hover = Unit {0}

-- ---- what is done

-- what a button does and the row that it raises, which is this one: no place is changed
pub record Presses {V : Type 0} (delivers : V → Delivery → V → Type 0) (first last : V) (seat : Seat) (before after : Layers) (result row : Option RowId) (outcome : InputOutcome) : Type 0 where
  pub carries : Carries delivers first last seat outcome
  pub has_layers : after ≡ outcome.layers
  pub raises : Raises result before outcome.layers
  pub raised : result ≡ row
  pub no_place : changed_by outcome.deliveries ≡ None

-- seat, layers and deliveries are those of the event's outcome, and what is answered is the row that it raises, the one
-- whose place or flags it changes, whether focus and hover stay, and the hover that a Move finds
pub record Takes {V : Type 0} (delivers : V → Delivery → V → Type 0) (first last : V) (seat : Seat) (before after : Layers) (taken : Taken) (setup : Setup) (event : Item) (scene : Scene) : Type 0 where
  pub carries : Carries delivers first last seat (route setup event scene)
  pub has_layers : after ≡ (route setup event scene).layers
  pub raises : Raises taken.raised before (route setup event scene).layers
  pub raised : taken.raised ≡ raised_by setup event scene
  pub changes : taken.changed ≡ changed_by (route setup event scene).deliveries
  pub settled : taken.settled ≡ settled_by setup event scene
  pub finds : FindsHover setup event scene taken.hover

-- the same, of which it isn't told whether focus and hover stay, nor what a Move finds
pub record Routes {V : Type 0} (delivers : V → Delivery → V → Type 0) (first last : V) (seat : Seat) (before after : Layers) (routed : Routed) (setup : Setup) (event : Item) (scene : Scene) : Type 0 where
  pub carries : Carries delivers first last seat (route setup event scene)
  pub has_layers : after ≡ (route setup event scene).layers
  pub raises : Raises routed.raised before (route setup event scene).layers
  pub raised : routed.raised ≡ raised_by setup event scene
  pub changes : routed.changed ≡ changed_by (route setup event scene).deliveries
