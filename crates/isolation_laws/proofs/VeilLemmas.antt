-- What is read of a scene for the focus, the hover and the user's events doesn't depend on what rows show and are named.
use Rattle.std.proofs.Common.{◌≡◌, ℕ, Bool, true, false, not, ◌&&◌, List, [], ◌∷◌, ◌++◌, map, Option, Some, None, refl, ◌∙◌, ap}
use Rattle.std.specs.Prelude.{if◌then◌else◌, filter_map, find, option_map}
use Rattle.std.specs.List.{cons_option}
use Rattle.gui_num.specs.declared.Rect.{Rect}
use Rattle.gui_num.specs.declared.Point.{Point}
use Rattle.gui_num.specs.Rects.{has}
use Rattle.desk_laws.specs.declared.row_id.RowId.{RowId}
use Rattle.desk_laws.specs.declared.setup.Setup.{Setup}
use Rattle.desk_laws.specs.declared.item.Item.{Item}
use Rattle.desk_laws.specs.declared.item.Item.TheVariants as item
use Rattle.desk_laws.specs.declared.input.GIn.TheVariants as g
use Rattle.desk_laws.specs.Sizes.{Sizes, sizes_of}
use Rattle.desk_laws.specs.Rows.{Row, id_of, row_at, is_row, is_hidden, is_shown, outer}
use Rattle.desk_laws.specs.Layers.{Layers, or_else, last_that, focus_of, topmost, stack}
use Rattle.desk_laws.specs.Clipboard.{Clip}
use Rattle.desk_laws.specs.Scene.{Scene, Grab, Delivery, Grants, InputOutcome, with_deliveries, ignored}
use Rattle.desk_laws.specs.Settle.{focus_now, hover_now, hover_by, content_owner, from_corner, pointer_in, same_id, settled, settled_seat, grab_checked, grab_shown, crossing, focus_told, hover_told}
use Rattle.desk_laws.specs.Outputs.{is_in_output}
use Rattle.desk_laws.specs.Events.{moves, move, released, grab_left, route, is_among, with_pointer, move_to, size_to, motion, button, press_row, press_owner, press_by, release_by, key_by, key_to, close_by, place_by, raise_by, restore_by, listed}
use Rattle.isolation_laws.specs.Masks.{veiled_row}

module _ (hides : Row → Bool) where
  abbrev veil : Row → Row
  veil row = veiled_row (hides row) row

  pub row_at-veil : (id : RowId) (rows : List Row) → row_at id (map veil rows) ≡ option_map veil (row_at id rows)
  row_at-veil id [] = refl
  row_at-veil id (row ∷ rows) = by_row (is_row id.guest id.window row) (row_at-veil id rows)
    where
      by_row : (b : Bool) → row_at id (map veil rows) ≡ option_map veil (row_at id rows)
          → (if b then Some (veil row) else row_at id (map veil rows)) ≡ option_map veil (if b then Some row else row_at id rows)
      by_row true ih = refl
      by_row false ih = ih

  cons-veil : (o : Option Row) (rows : List Row) → cons_option (option_map veil o) (map veil rows) ≡ map veil (cons_option o rows)
  cons-veil None rows = refl
  cons-veil (Some row) rows = refl

  found-veil : (ids : List RowId) (rows : List Row) → filter_map (λ id. row_at id (map veil rows)) ids ≡ map veil (filter_map (λ id. row_at id rows) ids)
  found-veil [] rows = refl
  found-veil (id ∷ ids) rows =
      ap (λ o. cons_option o (filter_map (λ id. row_at id (map veil rows)) ids)) (row_at-veil id rows)
      ∙ ap (cons_option (option_map veil (row_at id rows))) (found-veil ids rows)
      ∙ cons-veil (row_at id rows) (filter_map (λ id. row_at id rows) ids)

  or_else-veil : (a b : Option Row) → or_else (option_map veil a) (option_map veil b) ≡ option_map veil (or_else a b)
  or_else-veil (Some x) b = refl
  or_else-veil None b = refl

  if-veil : (b : Bool) (row : Row) → (if b then Some (veil row) else None) ≡ option_map veil (if b then Some row else None)
  if-veil true row = refl
  if-veil false row = refl

  last-veil : (test : Row → Bool) → ((row : Row) → test (veil row) ≡ test row) → (rows : List Row) → last_that test (map veil rows) ≡ option_map veil (last_that test rows)
  last-veil test same [] = refl
  last-veil test same (row ∷ rows) =
      ap (λ o. or_else o (if test (veil row) then Some (veil row) else None)) (last-veil test same rows)
      ∙ ap (λ b. or_else (option_map veil (last_that test rows)) (if b then Some (veil row) else None)) (same row)
      ∙ ap (or_else (option_map veil (last_that test rows))) (if-veil (test row) row)
      ∙ or_else-veil (last_that test rows) (if test row then Some row else None)

  find-veil : (test : Row → Bool) → ((row : Row) → test (veil row) ≡ test row) → (rows : List Row) → find test (map veil rows) ≡ option_map veil (find test rows)
  find-veil test same [] = refl
  find-veil test same (row ∷ rows) =
      ap (λ b. if b then Some (veil row) else find test (map veil rows)) (same row)
      ∙ by_row (test row) (find-veil test same rows)
    where
      by_row : (b : Bool) → find test (map veil rows) ≡ option_map veil (find test rows)
          → (if b then Some (veil row) else find test (map veil rows)) ≡ option_map veil (if b then Some row else find test rows)
      by_row true ih = refl
      by_row false ih = ih

  topmost-veil : (border : ℕ) (rows : List Row) (layers : Layers) (p : Point) → topmost border (map veil rows) layers p ≡ option_map veil (topmost border rows layers p)
  topmost-veil border rows layers p =
      ap (last_that (λ row. is_shown row && has (outer border row) p)) (found-veil (layers.normal ++ layers.over) rows)
      ∙ last-veil (λ row. is_shown row && has (outer border row) p) (λ row. refl) (stack rows layers)

  focus_of-veil : (rows : List Row) (layers : Layers) → focus_of (map veil rows) layers ≡ option_map veil (focus_of rows layers)
  focus_of-veil rows layers =
      ap (last_that (λ row. is_shown row && not row.over)) (found-veil layers.focus rows)
      ∙ last-veil (λ row. is_shown row && not row.over) (λ row. refl) (filter_map (λ id. row_at id rows) layers.focus)

  id_of-veil : (o : Option Row) → option_map id_of (option_map veil o) ≡ option_map id_of o
  id_of-veil None = refl
  id_of-veil (Some row) = refl

  -- the scene with its rows hidden, and any clipboard
  abbrev pub veiled : Clip → Scene → Scene
  veiled clip scene = record { rows = map veil scene.rows; layers = scene.layers; seat = scene.seat; clip = clip }

  module _ (clip : Clip) where
    pub focus_now-veil : (scene : Scene) → focus_now (veiled clip scene) ≡ focus_now scene
    focus_now-veil scene = ap (option_map id_of) (focus_of-veil scene.rows scene.layers) ∙ id_of-veil (focus_of scene.rows scene.layers)

    owner-veil : (o : Option Row) (p : Point) → content_owner (option_map veil o) p ≡ content_owner o p
    owner-veil None p = refl
    owner-veil (Some row) p = refl

    hover_by-veil : (sizes : Sizes) (scene : Scene) (grab : Option Grab) (p : Option Point) → hover_by sizes (veiled clip scene) grab p ≡ hover_by sizes scene grab p
    hover_by-veil sizes scene (Some grab) p = refl
    hover_by-veil sizes scene None None = refl
    hover_by-veil sizes scene None (Some p) =
        ap (λ o. content_owner o p) (topmost-veil sizes.border scene.rows scene.layers p) ∙ owner-veil (topmost sizes.border scene.rows scene.layers p) p

    hover_now-veil : (sizes : Sizes) (scene : Scene) → hover_now sizes (veiled clip scene) ≡ hover_now sizes scene
    hover_now-veil sizes scene = hover_by-veil sizes scene scene.seat.grab scene.seat.pointer

    corner-veil : (o : Option Row) (p : Option Point) → from_corner (option_map veil o) p ≡ from_corner o p
    corner-veil None p = refl
    corner-veil (Some row) None = refl
    corner-veil (Some row) (Some p) = refl

    pointer_in-veil : (id : RowId) (scene : Scene) → pointer_in id (veiled clip scene) ≡ pointer_in id scene
    pointer_in-veil id scene = ap (λ o. from_corner o scene.seat.pointer) (row_at-veil id scene.rows) ∙ corner-veil (row_at id scene.rows) scene.seat.pointer

    crossing-veil : (enter : Bool) (o : Option RowId) (scene : Scene) → crossing enter o (veiled clip scene) ≡ crossing enter o scene
    crossing-veil enter None scene = refl
    crossing-veil enter (Some id) scene =
        ap (λ (q : Point). Grants id (g.Crossing id.window enter q.x q.y (same_id (Some id) (focus_now (veiled clip scene)))) ∷ []) (pointer_in-veil id scene)
        ∙ ap (λ f. Grants id (g.Crossing id.window enter (pointer_in id scene).x (pointer_in id scene).y (same_id (Some id) f)) ∷ []) (focus_now-veil scene)

    hover_told-veil : (old new : Option RowId) (scene : Scene) → hover_told old new (veiled clip scene) ≡ hover_told old new scene
    hover_told-veil old new scene =
        ap (λ ds. if same_id old new then [] else ds ++ crossing true new (veiled clip scene)) (crossing-veil false old scene)
        ∙ ap (λ ds. if same_id old new then [] else crossing false old scene ++ ds) (crossing-veil true new scene)

    settled-veil : (sizes : Sizes) (scene : Scene) → settled sizes (veiled clip scene) ≡ settled sizes scene
    settled-veil sizes scene =
        let old : Option RowId = scene.seat.hover in
        let Out : Option RowId → Option RowId → List Delivery → InputOutcome = λ f h ds.
        record { layers = scene.layers; seat = settled_seat f h scene.seat; deliveries = focus_told scene.seat.focus f ++ ds } in
        ap (λ f. Out f (hover_now sizes (veiled clip scene)) (hover_told old (hover_now sizes (veiled clip scene)) (veiled clip scene))) (focus_now-veil scene)
        ∙ ap (λ h. Out (focus_now scene) h (hover_told old h (veiled clip scene))) (hover_now-veil sizes scene)
        ∙ ap (Out (focus_now scene) (hover_now sizes scene)) (hover_told-veil old (hover_now sizes scene) scene)

    grab_shown-veil : (rows : List Row) (grab : Option Grab) → grab_shown (map veil rows) grab ≡ grab_shown rows grab
    grab_shown-veil rows None = refl
    grab_shown-veil rows (Some grab) =
        ap (λ o. if elim o [ None ↦ false | Some row ↦ is_shown row ] then Some grab else None) (row_at-veil grab.row rows)
        ∙ by_row (row_at grab.row rows)
      where
        by_row : (o : Option Row) → (if elim (option_map veil o) [ None ↦ false | Some row ↦ is_shown row ] then Some grab else None)
            ≡ (if elim o [ None ↦ false | Some row ↦ is_shown row ] then Some grab else None)
        by_row None = refl
        by_row (Some row) = refl

    -- what settle tells
    pub settles-veil : (sizes : Sizes) (scene : Scene) → settled sizes (grab_checked (veiled clip scene)) ≡ settled sizes (grab_checked scene)
    settles-veil sizes scene =
        ap (λ grab. settled sizes (veiled clip (record scene { seat = record scene.seat { grab = grab } }))) (grab_shown-veil scene.rows scene.seat.grab)
        ∙ settled-veil sizes (grab_checked scene)

    -- ---- events

    motion-veil : (o : Option RowId) (state : ℕ) (scene : Scene) → motion o state (veiled clip scene) ≡ motion o state scene
    motion-veil None state scene = refl
    motion-veil (Some id) state scene = ap (λ (q : Point). Grants id (g.Motion id.window q.x q.y state) ∷ []) (pointer_in-veil id scene)

    moves-veil : (sizes : Sizes) (state : ℕ) (before : Option RowId) (scene : Scene) → moves sizes state before (veiled clip scene) ≡ moves sizes state before scene
    moves-veil sizes state before scene =
        ap (λ h. if same_id before h then motion before state (veiled clip scene) else []) (hover_now-veil sizes scene)
        ∙ ap (λ ds. if same_id before (hover_now sizes scene) then ds else []) (motion-veil before state scene)

    move-veil : (setup : Setup) (p : Point) (state : ℕ) (scene : Scene) → move setup p state (veiled clip scene) ≡ move setup p state scene
    move-veil setup p state scene =
        let sizes : Sizes = sizes_of setup in
        let moved : Scene = record scene { seat = with_pointer p scene.seat } in
        ap (λ h. if is_in_output setup.outputs p then with_deliveries scene (with_pointer p scene.seat) (moves sizes state h (veiled clip moved)) else ignored scene)
        (hover_now-veil sizes scene)
        ∙ ap (λ ds. if is_in_output setup.outputs p then with_deliveries scene (with_pointer p scene.seat) ds else ignored scene)
        (moves-veil sizes state (hover_now sizes scene) moved)

    button-veil : (id : RowId) (down : Bool) (code state : ℕ) (scene : Scene) → button id down code state (veiled clip scene) ≡ button id down code state scene
    button-veil id down code state scene =
        ap (λ (q : Point). Grants id (g.Button id.window down q.x q.y state code) ∷ []) (pointer_in-veil id scene)

    press_owner-veil : (o : Option Row) (p : Point) (code state : ℕ) (scene : Scene)
        → press_owner (option_map veil o) p code state (veiled clip scene) ≡ press_owner o p code state scene
    press_owner-veil None p code state scene = refl
    press_owner-veil (Some row) p code state scene =
        ap (λ ds. record (press_row row p code state scene) { deliveries = if has row.place p then ds else [] }) (button-veil (id_of row) true code state scene)

    press_by-veil : (setup : Setup) (p : Option Point) (grab : Option Grab) (code state : ℕ) (scene : Scene)
        → press_by setup p grab code state (veiled clip scene) ≡ press_by setup p grab code state scene
    press_by-veil setup None grab code state scene = refl
    press_by-veil setup (Some p) (Some grab) code state scene =
        ap (with_deliveries scene (press_by setup (Some p) (Some grab) code state scene).seat) (button-veil grab.row true code state scene)
    press_by-veil setup (Some p) None code state scene =
        ap (λ o. press_owner o p code state (veiled clip scene)) (topmost-veil setup.border scene.rows scene.layers p)
        ∙ press_owner-veil (topmost setup.border scene.rows scene.layers p) p code state scene

    release_by-veil : (grab : Option Grab) (code state : ℕ) (scene : Scene) → release_by grab code state (veiled clip scene) ≡ release_by grab code state scene
    release_by-veil None code state scene = refl
    release_by-veil (Some grab) code state scene =
        ap (λ ds. if is_among code grab.buttons
        then with_deliveries scene (record scene.seat { grab = grab_left grab.row (released code grab.buttons) }) ds
        else ignored scene) (button-veil grab.row false code state scene)

    key_to-veil : (id : RowId) (down : Bool) (code state : ℕ) (scene : Scene) → key_to id down code state (veiled clip scene) ≡ key_to id down code state scene
    key_to-veil id true code state scene = refl
    key_to-veil id false code state scene = refl

    key_by-veil : (o : Option RowId) (down : Bool) (code state : ℕ) (scene : Scene) → key_by o down code state (veiled clip scene) ≡ key_by o down code state scene
    key_by-veil None down code state scene = refl
    key_by-veil (Some id) down code state scene = key_to-veil id down code state scene

    close_by-veil : (o : Option RowId) (scene : Scene) → close_by o (veiled clip scene) ≡ close_by o scene
    close_by-veil None scene = refl
    close_by-veil (Some id) scene = refl

    place_by-veil : (o : Option Row) (f : Rect → Rect) (scene : Scene) → place_by (option_map veil o) f (veiled clip scene) ≡ place_by o f scene
    place_by-veil None f scene = refl
    place_by-veil (Some row) f scene = refl

    raise_by-veil : (o : Option Row) (scene : Scene) → raise_by (option_map veil o) (veiled clip scene) ≡ raise_by o scene
    raise_by-veil None scene = refl
    raise_by-veil (Some row) scene = refl

    restore_by-veil : (o : Option Row) (scene : Scene) → restore_by (option_map veil o) (veiled clip scene) ≡ restore_by o scene
    restore_by-veil None scene = refl
    restore_by-veil (Some row) scene = refl

    -- what an event does to the layers and the seat, and what it hands on
    pub route-veil : (setup : Setup) (i : Item) (scene : Scene) → route setup i (veiled clip scene) ≡ route setup i scene
    route-veil setup (item.Key down code state) scene =
        ap (λ o. key_by o down code state (veiled clip scene)) (focus_now-veil scene) ∙ key_by-veil (focus_now scene) down code state scene
    route-veil setup (item.Move x y state) scene = move-veil setup (record { x = x; y = y }) state scene
    route-veil setup (item.Press true code state) scene = press_by-veil setup scene.seat.pointer scene.seat.grab code state scene
    route-veil setup (item.Press false code state) scene = release_by-veil scene.seat.grab code state scene
    route-veil setup item.Close scene = ap (λ o. close_by o (veiled clip scene)) (focus_now-veil scene) ∙ close_by-veil (focus_now scene) scene
    route-veil setup item.Next scene =
        ap (λ rs. raise_by (find (λ row. is_shown row && not row.over) rs) (veiled clip scene)) (found-veil scene.layers.focus scene.rows)
        ∙ ap (λ o. raise_by o (veiled clip scene)) (find-veil (λ row. is_shown row && not row.over) (λ row. refl) (listed scene))
        ∙ raise_by-veil (find (λ row. is_shown row && not row.over) (listed scene)) scene
    route-veil setup item.Restore scene =
        ap (λ rs. restore_by (last_that is_hidden rs) (veiled clip scene)) (found-veil scene.layers.focus scene.rows)
        ∙ ap (λ o. restore_by o (veiled clip scene)) (last-veil is_hidden (λ row. refl) (listed scene))
        ∙ restore_by-veil (last_that is_hidden (listed scene)) scene
    route-veil setup (item.MoveTo x y) scene =
        ap (λ o. place_by o (move_to x y) (veiled clip scene)) (focus_of-veil scene.rows scene.layers)
        ∙ place_by-veil (focus_of scene.rows scene.layers) (move_to x y) scene
    route-veil setup (item.SizeTo w h) scene =
        ap (λ o. place_by o (size_to w h) (veiled clip scene)) (focus_of-veil scene.rows scene.layers)
        ∙ place_by-veil (focus_of scene.rows scene.layers) (size_to w h) scene
    route-veil setup i scene = refl
