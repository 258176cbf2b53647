-- How many deliveries there are at most, so that a deliverer can have room for them.
use Rattle.std.proofs.Common.{◌≤◌, ℕ, Bool, true, false, ◌&&◌, ◌==◌, not, List, [], ◌++◌, length, Option, Some, None, arith, length-append}
use Rattle.std.specs.Prelude.{find, if◌then◌else◌}
use Rattle.gui_num.specs.declared.Point.{Point}
use Rattle.gui_num.specs.declared.Rect.{Rect}
use Rattle.gui_num.specs.Rects.{has}
use Rattle.desk_laws.specs.declared.row_id.RowId.{RowId}
use Rattle.desk_laws.specs.declared.setup.Setup.{Setup}
use Rattle.desk_laws.specs.declared.item.Item.{Item}
use Rattle.desk_laws.specs.declared.item.Item.TheVariants as item
use Rattle.desk_laws.specs.Sizes.{Sizes, sizes_of}
use Rattle.desk_laws.specs.Rows.{Row, is_shown, is_hidden}
use Rattle.desk_laws.specs.Layers.{topmost, focus_of, last_that}
use Rattle.desk_laws.specs.Scene.{Scene, Grab, Delivery, InputOutcome}
use Rattle.desk_laws.specs.Settle.{same_id, focus_now, hover_now, focusing, keymap, crossing, focus_told, hover_told, settled}
use Rattle.desk_laws.specs.Outputs.{is_in_output}
use Rattle.desk_laws.specs.Events.{route, is_among, is_chord, move, motion, with_pointer, button, press_by, press_owner, release_by, key_by, plain_key, close_by, place_by, move_to, size_to, raise_by, restore_by, listed}

-- no more than one
abbrev AtMostOne : List Delivery → Type 0
AtMostOne deliveries = length deliveries ≤ 1

none-or : (b : Bool) (xs : List Delivery) (n : ℕ) → length xs ≤ n → length (if b then xs else []) ≤ n
none-or true xs n few = few
none-or false xs n few = omega arith

or-none : (b : Bool) (xs : List Delivery) (n : ℕ) → length xs ≤ n → length (if b then [] else xs) ≤ n
or-none true xs n few = omega arith
or-none false xs n few = few

-- ---- settling tells five things at most

focusing-few : (gained : Bool) (row : Option RowId) → AtMostOne (focusing gained row)
focusing-few gained None = omega arith
focusing-few gained (Some id) = omega arith

keymap-few : (row : Option RowId) → AtMostOne (keymap row)
keymap-few None = omega arith
keymap-few (Some id) = omega arith

crossing-few : (enter : Bool) (row : Option RowId) (scene : Scene) → AtMostOne (crossing enter row scene)
crossing-few enter None scene = omega arith
crossing-few enter (Some id) scene = omega arith

pub settled-few : (sizes : Sizes) (scene : Scene) → length (settled sizes scene).deliveries ≤ 5
settled-few sizes scene =
    let old_focus = scene.seat.focus in
    let new_focus = focus_now scene in
    let old_hover = scene.seat.hover in
    let new_hover = hover_now sizes scene in
    let focus : length (focus_told old_focus new_focus) ≤ 3 =
    or-none (same_id old_focus new_focus) (focusing false old_focus ++ focusing true new_focus ++ keymap new_focus) 3
    (omega (arith, length-append (focusing false old_focus ++ focusing true new_focus) (keymap new_focus), length-append (focusing false old_focus) (focusing true new_focus), focusing-few false old_focus, focusing-few true new_focus, keymap-few new_focus)) in
    let hover : length (hover_told old_hover new_hover scene) ≤ 2 =
    or-none (same_id old_hover new_hover) (crossing false old_hover scene ++ crossing true new_hover scene) 2
    (omega (arith, length-append (crossing false old_hover scene) (crossing true new_hover scene), crossing-few false old_hover scene, crossing-few true new_hover scene)) in
    omega (arith, length-append (focus_told old_focus new_focus) (hover_told old_hover new_hover scene))

-- ---- an event tells one thing at most

motion-few : (row : Option RowId) (state : ℕ) (scene : Scene) → AtMostOne (motion row state scene)
motion-few None state scene = omega arith
motion-few (Some id) state scene = omega arith

-- one of two outcomes
either-few : (b : Bool) (o p : InputOutcome) → AtMostOne o.deliveries → AtMostOne p.deliveries → AtMostOne (if b then o else p).deliveries
either-few true o p one other = one
either-few false o p one other = other

move-few : (setup : Setup) (p : Point) (state : ℕ) (scene : Scene) → AtMostOne (move setup p state scene).deliveries
move-few setup p state scene =
    let moved : Scene = record scene { seat = with_pointer p scene.seat } in
    let before = hover_now (sizes_of setup) scene in
    either-few (is_in_output setup.outputs p) _ _ (none-or (same_id before (hover_now (sizes_of setup) moved)) (motion before state moved) 1 (motion-few before state moved)) (omega arith)

owner-few : (row : Option Row) (p : Point) (code state : ℕ) (scene : Scene) → AtMostOne (press_owner row p code state scene).deliveries
owner-few None p code state scene = omega arith
owner-few (Some row) p code state scene = by_content (has row.place p)
  where
    at : RowId
    at = record { guest = row.guest; window = row.window }

    by_content : (b : Bool) → AtMostOne (if b then button at true code state scene else [])
    by_content true = omega arith
    by_content false = omega arith

press-few : (setup : Setup) (pointer : Option Point) (grab : Option Grab) (code state : ℕ) (scene : Scene) → AtMostOne (press_by setup pointer grab code state scene).deliveries
press-few setup None grab code state scene = omega arith
press-few setup (Some p) (Some grab) code state scene = omega arith
press-few setup (Some p) None code state scene = owner-few (topmost setup.border scene.rows scene.layers p) p code state scene

release-few : (grab : Option Grab) (code state : ℕ) (scene : Scene) → AtMostOne (release_by grab code state scene).deliveries
release-few None code state scene = omega arith
release-few (Some grab) code state scene = either-few (is_among code grab.buttons) _ _ (omega arith) (omega arith)

plain-few : (id : RowId) (down : Bool) (code state : ℕ) (scene : Scene) → AtMostOne (plain_key id down code state scene).deliveries
plain-few id true code state scene = omega arith
plain-few id false code state scene = either-few (is_among code scene.seat.pressed_keys) _ _ (omega arith) (omega arith)

key-few : (row : Option RowId) (down : Bool) (code state : ℕ) (scene : Scene) → AtMostOne (key_by row down code state scene).deliveries
key-few None down code state scene = omega arith
key-few (Some id) down code state scene =
    either-few (down && (is_chord state && code == 54)) _ _ (omega arith)
    (either-few (down && (is_chord state && code == 55)) _ _ (omega arith) (plain-few id down code state scene))

close-few : (row : Option RowId) (scene : Scene) → AtMostOne (close_by row scene).deliveries
close-few None scene = omega arith
close-few (Some id) scene = omega arith

place-few : (row : Option Row) (f : Rect → Rect) (scene : Scene) → AtMostOne (place_by row f scene).deliveries
place-few None f scene = omega arith
place-few (Some row) f scene = omega arith

raise-few : (row : Option Row) (scene : Scene) → AtMostOne (raise_by row scene).deliveries
raise-few None scene = omega arith
raise-few (Some row) scene = omega arith

restore-few : (row : Option Row) (scene : Scene) → AtMostOne (restore_by row scene).deliveries
restore-few None scene = omega arith
restore-few (Some row) scene = omega arith

pub route-few : (setup : Setup) (event : Item) (scene : Scene) → length (route setup event scene).deliveries ≤ 1
route-few setup (item.Key down code state) scene = key-few (focus_now scene) down code state scene
route-few setup (item.Move x y state) scene = move-few setup (record { x = x; y = y }) state scene
route-few setup (item.Press true code state) scene = press-few setup scene.seat.pointer scene.seat.grab code state scene
route-few setup (item.Press false code state) scene = release-few scene.seat.grab code state scene
route-few setup item.Close scene = close-few (focus_now scene) scene
route-few setup item.Next scene = raise-few (find (λ row. is_shown row && not row.over) (listed scene)) scene
route-few setup item.Restore scene = restore-few (last_that is_hidden (listed scene)) scene
route-few setup (item.MoveTo x y) scene = place-few (focus_of scene.rows scene.layers) (move_to x y) scene
route-few setup (item.SizeTo w h) scene = place-few (focus_of scene.rows scene.layers) (size_to w h) scene
route-few setup other scene = omega arith
