-- What the user does: keys, the pointer, and commands.
use Rattle.std.specs.Prelude.{ℕ, ◌/◌, ◌%◌, List, [], ◌∷◌, ◌++◌, filter, filter_map, find, Option, Some, None, Bool, true, false, ◌&&◌, not, ◌==◌, if◌then◌else◌, ℤ}
use Rattle.std.specs.List.{list_any}
use Rattle.gui_num.specs.declared.Rect.{Rect}
use Rattle.gui_num.specs.declared.Point.{Point}
use Rattle.gui_num.specs.Rects.{has}
use Rattle.desk_laws.specs.declared.row_id.RowId.{RowId}
use Rattle.desk_laws.specs.declared.setup.Setup.{Setup}
use Rattle.desk_laws.specs.declared.input.GIn.TheVariants as g
use Rattle.desk_laws.specs.declared.item.Item.{Item}
use Rattle.desk_laws.specs.declared.item.Item.TheVariants as item
use Rattle.desk_laws.specs.Sizes.{Sizes, sizes_of}
use Rattle.desk_laws.specs.Outputs.{is_in_output}
use Rattle.desk_laws.specs.Ranges.{place_in_range, width_in_range, height_in_range, size_of}
use Rattle.desk_laws.specs.Rows.{Row, id_of, row_at, is_shown, is_hidden}
use Rattle.desk_laws.specs.Layers.{Layers, topmost, focus_of, raised, last_that}
use Rattle.desk_laws.specs.Scene.{Scene, Seat, Grab, Delivery, Grants, Asks, Pastes, InputOutcome, with_deliveries, ignored}
use Rattle.desk_laws.specs.Settle.{focus_now, hover_now, same_id, pointer_in}

-- a row on top of its layer and at the end of the focus list
abbrev pub raises : RowId → List Delivery → Scene → InputOutcome
raises id deliveries scene = record { layers = raised id scene.layers; seat = scene.seat; deliveries = deliveries }

-- ---- the pointer

-- the pointer at this pixel
abbrev pub with_pointer : Point → Seat → Seat
with_pointer p seat = record seat { pointer = Some p }

-- a Motion for the row, if there is one
abbrev pub motion : Option RowId → ℕ → Scene → List Delivery
motion None state scene = []
motion (Some id) state scene = Grants id (g.Motion id.window (pointer_in id scene).x (pointer_in id scene).y state) ∷ []

-- a Motion, where the hover is the same before and after
abbrev pub moves : Sizes → ℕ → Option RowId → Scene → List Delivery
moves sizes state before scene = if same_id before (hover_now sizes scene) then motion before state scene else []

-- the pointer moves; in no output nothing happens
abbrev pub move : Setup → Point → ℕ → Scene → InputOutcome
move setup p state scene =
    if is_in_output setup.outputs p
    then with_deliveries scene (with_pointer p scene.seat)
    (moves (sizes_of setup) state (hover_now (sizes_of setup) scene) (record scene { seat = with_pointer p scene.seat }))
    else ignored scene

-- a button for a row
abbrev pub button : RowId → Bool → ℕ → ℕ → Scene → List Delivery
button id down code state scene =
    Grants id (g.Button id.window down (pointer_in id scene).x (pointer_in id scene).y state code) ∷ []

-- whether a code is held
abbrev pub is_among : ℕ → List ℕ → Bool
is_among code codes = list_any (λ c. c == code) codes

-- the codes with one more
abbrev pub held : ℕ → List ℕ → List ℕ
held code codes = if is_among code codes then codes else codes ++ code ∷ []

-- the codes without one
abbrev pub released : ℕ → List ℕ → List ℕ
released code codes = filter (λ c. not (c == code)) codes

-- the row is grabbed while these buttons are held
abbrev pub grabbing : RowId → List ℕ → Seat → Seat
grabbing id buttons seat = record seat { grab = Some (record { row = id; buttons = buttons }) }

-- a press on a row: a normal one is raised, and one whose content has the pointer is grabbed
abbrev pub layers_pressed : Row → Layers → Layers
layers_pressed row layers = if row.over then layers else raised (id_of row) layers

-- a press on a row
abbrev pub press_row : Row → Point → ℕ → ℕ → Scene → InputOutcome
press_row row p code state scene = record {
  layers = layers_pressed row scene.layers;
  seat = if has row.place p then grabbing (id_of row) (code ∷ []) scene.seat else scene.seat;
  deliveries = if has row.place p then button (id_of row) true code state scene else [];
}

-- a press on the owner of the pixel
abbrev pub press_owner : Option Row → Point → ℕ → ℕ → Scene → InputOutcome
press_owner None p code state scene = ignored scene
press_owner (Some row) p code state scene = press_row row p code state scene

-- a press: without a pointer nothing happens, and while a grab is held it goes to the grabbed row
abbrev pub press_by : Setup → Option Point → Option Grab → ℕ → ℕ → Scene → InputOutcome
press_by setup None grab code state scene = ignored scene
press_by setup (Some p) (Some grab) code state scene =
    with_deliveries scene (grabbing grab.row (held code grab.buttons) scene.seat) (button grab.row true code state scene)
press_by setup (Some p) None code state scene =
    press_owner (topmost setup.border scene.rows scene.layers p) p code state scene

-- the grab with the buttons that are still held
abbrev pub grab_left : RowId → List ℕ → Option Grab
grab_left id [] = None
grab_left id (b ∷ buttons) = Some (record { row = id; buttons = b ∷ buttons })

-- a release, which matters where a grab holds the button
abbrev pub release_by : Option Grab → ℕ → ℕ → Scene → InputOutcome
release_by None code state scene = ignored scene
release_by (Some grab) code state scene =
    if is_among code grab.buttons
    then with_deliveries scene (record scene.seat { grab = grab_left grab.row (released code grab.buttons) }) (button grab.row false code state scene)
    else ignored scene

-- a button was pressed or released
abbrev pub press : Setup → Bool → ℕ → ℕ → Scene → InputOutcome
press setup true code state scene = press_by setup scene.seat.pointer scene.seat.grab code state scene
press setup false code state scene = release_by scene.seat.grab code state scene

-- ---- keys

-- both Shift and Control are held
abbrev pub is_chord : ℕ → Bool
is_chord state = state % 2 == 1 && state / 4 % 2 == 1

-- the noted keys changed
abbrev pub with_pressed_keys : (List ℕ → List ℕ) → Seat → Seat
with_pressed_keys f seat = record seat { pressed_keys = f seat.pressed_keys }

-- a key of the focused row: a press is noted, and a release is granted where the press was
abbrev pub plain_key : RowId → Bool → ℕ → ℕ → Scene → InputOutcome
plain_key id true code state scene =
    with_deliveries scene (with_pressed_keys (held code) scene.seat) (Grants id (g.Key id.window true code state) ∷ [])
plain_key id false code state scene =
    if is_among code scene.seat.pressed_keys
    then with_deliveries scene (with_pressed_keys (released code) scene.seat) (Grants id (g.Key id.window false code state) ∷ [])
    else ignored scene

-- with the focus on a row: the copy chord, the paste chord, or a key of the row's
abbrev pub key_to : RowId → Bool → ℕ → ℕ → Scene → InputOutcome
key_to id down code state scene =
    if down && (is_chord state && code == 54) then with_deliveries scene scene.seat (Asks id ∷ [])
    else if down && (is_chord state && code == 55) then with_deliveries scene scene.seat (Pastes id ∷ [])
    else plain_key id down code state scene

-- a key, with the focus on a row or on none
abbrev pub key_by : Option RowId → Bool → ℕ → ℕ → Scene → InputOutcome
key_by None down code state scene = ignored scene
key_by (Some id) down code state scene = key_to id down code state scene

-- ---- commands

-- Close for the focus
abbrev pub close_by : Option RowId → Scene → InputOutcome
close_by None scene = ignored scene
close_by (Some id) scene = with_deliveries scene scene.seat (Grants id (g.Close id.window) ∷ [])

-- another place for the focus
abbrev pub place_by : Option Row → (Rect → Rect) → Scene → InputOutcome
place_by None f scene = ignored scene
place_by (Some row) f scene = with_deliveries scene scene.seat (Grants (id_of row) (g.Place row.window (f row.place)) ∷ [])

-- a place moved to a pixel
abbrev pub move_to : ℤ → ℤ → Rect → Rect
move_to x y place = record place { x = place_in_range x; y = place_in_range y }

-- a place with another size
abbrev pub size_to : ℤ → ℤ → Rect → Rect
size_to w h place = record place { w = width_in_range (size_of w); h = height_in_range (size_of h) }

-- a row raised, if there is one
abbrev pub raise_by : Option Row → Scene → InputOutcome
raise_by None scene = ignored scene
raise_by (Some row) scene = raises (id_of row) [] scene

-- a hidden row shown again, if there is one
abbrev pub restore_by : Option Row → Scene → InputOutcome
restore_by None scene = ignored scene
restore_by (Some row) scene = raises (id_of row) (Grants (id_of row) (g.Restored row.window) ∷ []) scene

-- the members of the focus list, as rows
abbrev pub listed : Scene → List Row
listed scene = filter_map (λ id. row_at id scene.rows) scene.layers.focus

-- ---- all of them

-- what an event of the user does
abbrev pub route : Setup → Item → Scene → InputOutcome
route setup (item.Key down code state) scene = key_by (focus_now scene) down code state scene
route setup (item.Move x y state) scene = move setup (record { x = x; y = y }) state scene
route setup (item.Press down button state) scene = press setup down button state scene
route setup item.Close scene = close_by (focus_now scene) scene
route setup item.Next scene = raise_by (find (λ row. is_shown row && not row.over) (listed scene)) scene
route setup item.Restore scene = restore_by (last_that is_hidden (listed scene)) scene
route setup (item.MoveTo x y) scene = place_by (focus_of scene.rows scene.layers) (move_to x y) scene
route setup (item.SizeTo w h) scene = place_by (focus_of scene.rows scene.layers) (size_to w h) scene
route setup other scene = ignored scene
