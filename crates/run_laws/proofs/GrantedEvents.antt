-- What is handed on by the user's events.
use Rattle.std.proofs.Common.{◌≡◌, ℕ, ℤ, Bool, true, false, not, ◌&&◌, ◌==◌, List, [], ◌∷◌, Option, Some, None, refl, ◌∙◌, ap, subst}
use Rattle.std.specs.Prelude.{if◌then◌else◌, filter_map, find}
use Rattle.std.specs.List.{cons_option}
use Rattle.std.proofs.lemmas.Bool.{and_parts, eqb-true}
use Rattle.gui_num.specs.declared.Rect.{Rect}
use Rattle.gui_num.specs.declared.Point.{Point}
use Rattle.gui_num.specs.Rects.{has}
use Rattle.desk_laws.specs.declared.row_id.RowId.{RowId}
use Rattle.desk_laws.specs.declared.setup.Setup.{Setup}
use Rattle.desk_laws.specs.declared.item.Item.{Item}
use Rattle.desk_laws.specs.declared.item.Item.TheVariants as item
use Rattle.desk_laws.specs.declared.input.GIn.TheVariants as g
use Rattle.desk_laws.specs.Sizes.{sizes_of}
use Rattle.desk_laws.specs.Outputs.{is_in_output}
use Rattle.desk_laws.specs.Rows.{Row, id_of, row_at, is_row, is_hidden, is_shown}
use Rattle.desk_laws.specs.Layers.{or_else, last_that, focus_of, topmost}
use Rattle.desk_laws.specs.Scene.{Scene, Grab, Grants, Asks, Pastes, InputOutcome, with_deliveries, ignored}
use Rattle.desk_laws.specs.Settle.{focus_now, hover_now, same_id}
use Rattle.desk_laws.specs.Events.{moves, released, with_pressed_keys, grab_left, route, is_chord, is_among, with_pointer, move_to, size_to, motion, button, press_row, press_owner, press_by, release_by, key_by, key_to, plain_key, close_by, place_by, raise_by, restore_by, listed}
use Rattle.run_laws.specs.GrantedContent.{row_of, pointed_at, IsPlaceBy, IsChordFor}
use Rattle.run_laws.proofs.GrantLemmas.{FitsOne}

-- a row that is found has the id that was looked for
found-is : (id : RowId) (rows : List Row) (row : Row) → row_at id rows ≡ Some row → is_row id.guest id.window row ≡ true
found-is id [] row e = cc
found-is id (first ∷ rows) row e = by_row (is_row id.guest id.window first) refl e (found-is id rows row)
  where
    by_row : (b : Bool) → is_row id.guest id.window first ≡ b → (if b then Some first else row_at id rows) ≡ Some row
        → (row_at id rows ≡ Some row → is_row id.guest id.window row ≡ true) → is_row id.guest id.window row ≡ true
    by_row true here e ih = let is : first ≡ row = cc in subst (λ r. is_row id.guest id.window r ≡ true) is here
    by_row false other e ih = ih e

-- so it stands where its own id is looked for
found-at : (id : RowId) (rows : List Row) (row : Row) → row_at id rows ≡ Some row → row_at (id_of row) rows ≡ Some row
found-at id rows row e =
    let is = and_parts (row.guest == id.guest) (row.window == id.window) (found-is id rows row e) in
    ap (λ n. row_at (row_of n row.window) rows) (eqb-true row.guest id.guest is.0)
    ∙ ap (λ n. row_at (row_of id.guest n) rows) (eqb-true row.window id.window is.1)
    ∙ e

-- the last row of a list of ids that passes a test stands where its own id is looked for
pub found-last : (test : Row → Bool) (ids : List RowId) (rows : List Row) (row : Row) → last_that test (filter_map (λ id. row_at id rows) ids) ≡ Some row
    → row_at (id_of row) rows ≡ Some row
found-last test [] rows row e = cc
found-last test (id ∷ ids) rows row e = by_found (row_at id rows) refl e (found-last test ids rows row)
  where
    others : Option Row
    others = last_that test (filter_map (λ id. row_at id rows) ids)

    by_last : (r : Row) → row_at id rows ≡ Some r → (o : Option Row) → others ≡ o
        → (b : Bool) → or_else o (if b then Some r else None) ≡ Some row
        → (others ≡ Some row → row_at (id_of row) rows ≡ Some row) → row_at (id_of row) rows ≡ Some row
    by_last r at (Some x) last b e ih = ih (last ∙ e)
    by_last r at None last true e ih = found-at id rows row (at ∙ e)
    by_last r at None last false e ih = cc

    by_found : (o : Option Row) → row_at id rows ≡ o → last_that test (cons_option o (filter_map (λ id. row_at id rows) ids)) ≡ Some row
        → (others ≡ Some row → row_at (id_of row) rows ≡ Some row) → row_at (id_of row) rows ≡ Some row
    by_found None at e ih = ih e
    by_found (Some r) at e ih = by_last r at others refl (test r) e ih

module _ (setup : Setup) (at : Scene) where
  -- what an outcome hands on carries no more than it may
  abbrev Fits : Item → InputOutcome → Type 0
  Fits i r = FitsOne setup.denied i at r.deliveries

  -- a key with the focus on a row
  fits-key_to : (id : RowId) (down : Bool) (code state : ℕ) → focus_now at ≡ Some id → Fits (item.Key down code state) (key_to id down code state at)
  fits-key_to id false code state focus = by_noted (is_among code at.seat.pressed_keys)
    where
      by_noted : (b : Bool) → Fits (item.Key false code state)
          (if b then with_deliveries at (with_pressed_keys (released code) at.seat) (Grants id (g.Key id.window false code state) ∷ []) else ignored at)
      by_noted true = ((refl, focus), refl, λ window e. cc)
      by_noted false = tt
  fits-key_to id true code state focus = by_copy (is_chord state && code == 54) refl
    where
      chord : (key : ℕ) → (is_chord state && code == key) ≡ true → IsChordFor (item.Key true code state) key at id
      chord key e =
          let parts = and_parts (is_chord state) (code == key) e in
          record { state = state; key = ap (λ n. item.Key true n state) (eqb-true code key parts.1); chord = parts.0; focus = focus }

      by_paste : (b : Bool) → (is_chord state && code == 55) ≡ b
          → Fits (item.Key true code state) (if b then with_deliveries at at.seat (Pastes id ∷ []) else plain_key id true code state at)
      by_paste true e = chord 55 e
      by_paste false e = ((refl, focus), refl, λ window e. cc)

      by_copy : (b : Bool) → (is_chord state && code == 54) ≡ b
          → Fits (item.Key true code state) (if b then with_deliveries at at.seat (Asks id ∷ [])
          else if is_chord state && code == 55 then with_deliveries at at.seat (Pastes id ∷ []) else plain_key id true code state at)
      by_copy true e = chord 54 e
      by_copy false e = by_paste (is_chord state && code == 55) refl

  -- a key
  fits-key_by : (o : Option RowId) (down : Bool) (code state : ℕ) → focus_now at ≡ o → Fits (item.Key down code state) (key_by o down code state at)
  fits-key_by None down code state focus = tt
  fits-key_by (Some id) down code state focus = fits-key_to id down code state focus

  -- the pointer moved, to a pixel of an output or not
  fits-move : (x y : ℤ) (state : ℕ) (b : Bool) → Fits (item.Move x y state)
      (if b then with_deliveries at (with_pointer (record { x = x; y = y }) at.seat) (moves (sizes_of setup) state (hover_now (sizes_of setup) at) (pointed_at x y at)) else ignored at)
  fits-move x y state false = tt
  fits-move x y state true = by_same (same_id (hover_now (sizes_of setup) at) (hover_now (sizes_of setup) (pointed_at x y at)))
    where
      by_before : (o : Option RowId) → FitsOne setup.denied (item.Move x y state) at (motion o state (pointed_at x y at))
      by_before None = tt
      by_before (Some id) = ((x, y, refl, record { x_is = refl; y_is = refl }), refl, λ window e. cc)

      by_same : (b : Bool) → FitsOne setup.denied (item.Move x y state) at (if b then motion (hover_now (sizes_of setup) at) state (pointed_at x y at) else [])
      by_same true = by_before (hover_now (sizes_of setup) at)
      by_same false = tt

  -- a button for a row
  fits-button : (id : RowId) (down : Bool) (code state : ℕ) → FitsOne setup.denied (item.Press down code state) at (button id down code state at)
  fits-button id down code state = ((refl, record { x_is = refl; y_is = refl }), refl, λ window e. cc)

  -- a press on a row
  fits-press_row : (row : Row) (p : Point) (code state : ℕ) → Fits (item.Press true code state) (press_row row p code state at)
  fits-press_row row p code state = by_has (has row.place p)
    where
      by_has : (b : Bool) → FitsOne setup.denied (item.Press true code state) at (if b then button (id_of row) true code state at else [])
      by_has true = fits-button (id_of row) true code state
      by_has false = tt

  -- a press on the owner of the pixel, if it has one
  fits-press_owner : (o : Option Row) (p : Point) (code state : ℕ) → Fits (item.Press true code state) (press_owner o p code state at)
  fits-press_owner None p code state = tt
  fits-press_owner (Some row) p code state = fits-press_row row p code state

  -- a press
  fits-press_by : (p : Option Point) (grab : Option Grab) (code state : ℕ) → Fits (item.Press true code state) (press_by setup p grab code state at)
  fits-press_by None grab code state = tt
  fits-press_by (Some p) (Some grab) code state = fits-button grab.row true code state
  fits-press_by (Some p) None code state = fits-press_owner (topmost setup.border at.rows at.layers p) p code state

  -- a release
  fits-release_by : (grab : Option Grab) (code state : ℕ) → Fits (item.Press false code state) (release_by grab code state at)
  fits-release_by None code state = tt
  fits-release_by (Some grab) code state = by_held (is_among code grab.buttons)
    where
      by_held : (b : Bool) → Fits (item.Press false code state)
          (if b then with_deliveries at (record at.seat { grab = grab_left grab.row (released code grab.buttons) }) (button grab.row false code state at) else ignored at)
      by_held true = fits-button grab.row false code state
      by_held false = tt

  -- Close for the focus
  fits-close : (o : Option RowId) → focus_now at ≡ o → Fits item.Close (close_by o at)
  fits-close None focus = tt
  fits-close (Some id) focus = ((refl, focus), refl, λ window e. cc)

  -- another place for the focus
  fits-place : (i : Item) (f : Rect → Rect) → ((old : Rect) → IsPlaceBy i old (f old)) → (o : Option Row) → focus_of at.rows at.layers ≡ o → Fits i (place_by o f at)
  fits-place i f is None focus = tt
  fits-place i f is (Some row) focus =
      ((row, found-last (λ r. is_shown r && not r.over) at.layers.focus at.rows row focus, is row.place), refl, λ window e. cc)

  -- a row raised, if there is one
  fits-raise : (o : Option Row) → Fits item.Next (raise_by o at)
  fits-raise None = tt
  fits-raise (Some row) = tt

  -- a hidden row restored, if there is one
  fits-restore : (o : Option Row) → Fits item.Restore (restore_by o at)
  fits-restore None = tt
  fits-restore (Some row) = (refl, refl, λ window e. cc)

  -- each event of the user hands on one input at most, which carries no more than it may
  pub fits-route : (i : Item) → Fits i (route setup i at)
  fits-route (item.Key down code state) = fits-key_by (focus_now at) down code state refl
  fits-route (item.Move x y state) = fits-move x y state (is_in_output setup.outputs (record { x = x; y = y }))
  fits-route (item.Press true code state) = fits-press_by at.seat.pointer at.seat.grab code state
  fits-route (item.Press false code state) = fits-release_by at.seat.grab code state
  fits-route item.Close = fits-close (focus_now at) refl
  fits-route item.Next = fits-raise (find (λ row. is_shown row && not row.over) (listed at))
  fits-route item.Restore = fits-restore (last_that is_hidden (listed at))
  fits-route (item.MoveTo x y) = fits-place (item.MoveTo x y) (move_to x y) (λ old. refl) (focus_of at.rows at.layers) refl
  fits-route (item.SizeTo w h) = fits-place (item.SizeTo w h) (size_to w h) (λ old. refl) (focus_of at.rows at.layers) refl
  fits-route i = tt
