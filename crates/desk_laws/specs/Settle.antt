-- Focus and hover, and what is granted where they changed.
use Rattle.std.specs.Prelude.{◌≡◌, List, [], ◌∷◌, ◌++◌, Option, Some, None, Bool, true, false, if◌then◌else◌, option_map, pos, ◌-ℤ◌}
use Rattle.gui_num.specs.declared.Point.{Point}
use Rattle.gui_num.specs.Rects.{has}
use Rattle.desk_laws.specs.declared.row_id.RowId.{RowId}
use Rattle.desk_laws.specs.declared.input.GIn.TheVariants.{Crossing, Focus, Keymap}
use Rattle.desk_laws.specs.Sizes.{Sizes}
use Rattle.desk_laws.specs.Rows.{Row, id_of, same_row, row_at, is_shown}
use Rattle.desk_laws.specs.Layers.{topmost, focus_of}
use Rattle.desk_laws.specs.Scene.{Scene, SceneOutcome, Seat, Grab, Delivery, Grants, InputOutcome, with_deliveries, perform}

-- ---- focus and hover

-- the row that has the focus
abbrev pub focus_now : Scene → Option RowId
focus_now scene = option_map id_of (focus_of scene.rows scene.layers)

-- the row at a pixel where its content has it
abbrev pub content_owner : Option Row → Point → Option RowId
content_owner None p = None
content_owner (Some row) p = if has row.place p then Some (id_of row) else None

-- the hover of a grab, or of the pointer alone
abbrev pub hover_by : Sizes → Scene → Option Grab → Option Point → Option RowId
hover_by sizes scene (Some grab) pointer = Some grab.row
hover_by sizes scene None None = None
hover_by sizes scene None (Some p) = content_owner (topmost sizes.border scene.rows scene.layers p) p

-- the hover: the grabbed row, else the topmost row whose content has the pointer
abbrev pub hover_now : Sizes → Scene → Option RowId
hover_now sizes scene = hover_by sizes scene scene.seat.grab scene.seat.pointer

-- whether two ids, or none, are the same
abbrev pub same_id : Option RowId → Option RowId → Bool
same_id None None = true
same_id None (Some b) = false
same_id (Some a) None = false
same_id (Some a) (Some b) = same_row a b

-- ---- settle

-- a grab, as long as its row is shown
abbrev pub grab_shown : List Row → Option Grab → Option Grab
grab_shown rows None = None
grab_shown rows (Some grab) = if is_some_shown (row_at grab.row rows) then Some grab else None
  where
    is_some_shown : Option Row → Bool
    is_some_shown None = false
    is_some_shown (Some row) = is_shown row

-- a grab ends whose row isn't shown
abbrev pub grab_checked : Scene → Scene
grab_checked scene = record scene { seat = record scene.seat { grab = grab_shown scene.rows scene.seat.grab } }

-- the pointer, from the corner of a row's place
abbrev pub from_corner : Option Row → Option Point → Point
from_corner None p = record { x = pos 0; y = pos 0 }
from_corner (Some row) None = record { x = pos 0; y = pos 0 }
from_corner (Some row) (Some p) = record { x = p.x -ℤ row.place.x; y = p.y -ℤ row.place.y }

-- the pointer, from the corner of the row of an id
abbrev pub pointer_in : RowId → Scene → Point
pointer_in id scene = from_corner (row_at id scene.rows) scene.seat.pointer

-- Enter or Leave for a row
abbrev pub crossing : Bool → Option RowId → Scene → List Delivery
crossing enter None scene = []
crossing enter (Some id) scene =
    Grants id (Crossing id.window enter (pointer_in id scene).x (pointer_in id scene).y (same_id (Some id) (focus_now scene))) ∷ []

-- FocusIn or FocusOut for a row
abbrev pub focusing : Bool → Option RowId → List Delivery
focusing gained None = []
focusing gained (Some id) = Grants id (Focus id.window gained) ∷ []

-- the keyboard's state for a row's guest
abbrev pub keymap : Option RowId → List Delivery
keymap None = []
keymap (Some id) = Grants id Keymap ∷ []

-- what is told where the focus is another
abbrev pub focus_told : Option RowId → Option RowId → List Delivery
focus_told old new = if same_id old new then [] else focusing false old ++ focusing true new ++ keymap new

-- what is told where the hover is another
abbrev pub hover_told : Option RowId → Option RowId → Scene → List Delivery
hover_told old new scene = if same_id old new then [] else crossing false old scene ++ crossing true new scene

-- the seat with this focus and hover told; where the focus is another, all noted keys are forgotten
abbrev pub settled_seat : Option RowId → Option RowId → Seat → Seat
settled_seat focus hover seat = record {
  pointer = seat.pointer;
  grab = seat.grab;
  pressed_keys = if same_id seat.focus focus then seat.pressed_keys else [];
  focus = focus;
  hover = hover;
}

-- what is told of the focus and hover of this moment, where they are others than those last told
abbrev pub settled : Sizes → Scene → InputOutcome
settled sizes scene =
    with_deliveries scene (settled_seat (focus_now scene) (hover_now sizes scene) scene.seat)
    (focus_told scene.seat.focus (focus_now scene) ++ hover_told scene.seat.hover (hover_now sizes scene) scene)

-- a grab whose row isn't shown ends; then focus and hover are told, which pastes nothing, whichever pairs are denied
abbrev pub settle : Sizes → Scene → SceneOutcome
settle sizes scene = perform [] (settled sizes (grab_checked scene)) scene

-- focus and hover are those that were last told, and a row that is grabbed is shown
pub record IsSettled (sizes : Sizes) (scene : Scene) : Type 0 where
  pub grab : grab_shown scene.rows scene.seat.grab ≡ scene.seat.grab
  pub focus : scene.seat.focus ≡ focus_now scene
  pub hover : scene.seat.hover ≡ hover_now sizes scene
