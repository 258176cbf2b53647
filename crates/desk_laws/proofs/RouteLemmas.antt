-- What the user does changes the lists by a raise at most, and but for Place and Restored no row.
use Rattle.std.proofs.Common.{◌≡◌, ℕ, Bool, true, false, List, [], ◌∷◌, Option, Some, None, refl, sym, ◌∙◌, ap, subst}
use Rattle.std.specs.Prelude.{◌&&◌, ◌==◌, not, if◌then◌else◌, filter_map}
use Rattle.std.specs.List.{All, cons_option}
use Rattle.std.proofs.lemmas.Bool.{and_parts, not-true}
use Rattle.std.proofs.lemmas.List.Elements.{All-nil, All-cons, All-head, All-tail}
use Rattle.gui_num.specs.declared.Point.{Point}
use Rattle.gui_num.specs.Rects.{has}
use Rattle.desk_laws.specs.declared.row_id.RowId.{RowId}
use Rattle.desk_laws.specs.declared.setup.Setup.{Setup}
use Rattle.desk_laws.specs.declared.input.GIn.TheVariants as g
use Rattle.desk_laws.specs.Sizes.{Sizes, sizes_of}
use Rattle.desk_laws.specs.Rows.{Row, id_of, row_at, is_row, is_shown}
use Rattle.desk_laws.specs.Layers.{Layers, last_that, or_else, topmost, focus_of, raised}
use Rattle.desk_laws.specs.Following.{LayersFollow}
use Rattle.desk_laws.specs.Scene.{Scene, Seat, Grab, Delivery, Grants, Asks, Pastes, InputOutcome, with_deliveries, ignored}
use Rattle.desk_laws.specs.Settle.{hover_now, same_id, pointer_in}
use Rattle.desk_laws.specs.Outputs.{is_in_output}
use Rattle.desk_laws.specs.Events.{with_pointer, motion, moves, move, button, is_among, layers_pressed, press_row, press_owner, press_by, grabbing, held, release_by, grab_left, released, press, plain_key, with_pressed_keys, is_chord, key_to, key_by, close_by, raise_by}
use Rattle.desk_laws.proofs.EdgeLemmas.{last-passes}
use Rattle.desk_laws.proofs.FollowLemmas.{is_row-same}
use Rattle.desk_laws.proofs.IdLemmas.{same_row-is}
use Rattle.desk_laws.proofs.RaiseLemmas.{raised-follow}
use Rattle.desk_laws.proofs.SettleLemmas.{IsQuiet}

-- ---- events that change no row

-- what an event does where it changes no row: its lists follow the rows
pub record IsCalm (scene : Scene) (r : InputOutcome) : Type 0 where
  pub follow : LayersFollow scene.rows r.layers
  pub quiet : All IsQuiet r.deliveries

none-quiet : All IsQuiet []
none-quiet = All-nil IsQuiet

one-quiet : (d : Delivery) → IsQuiet d → All IsQuiet (d ∷ [])
one-quiet d quiet = All-cons IsQuiet d [] quiet (All-nil IsQuiet)

motion-quiet : (o : Option RowId) (state : ℕ) (scene : Scene) → All IsQuiet (motion o state scene)
motion-quiet None state scene = none-quiet
motion-quiet (Some id) state scene =
    one-quiet (Grants id (g.Motion id.window (pointer_in id scene).x (pointer_in id scene).y state)) (λ row. refl)

moves-quiet : (sizes : Sizes) (state : ℕ) (before : Option RowId) (scene : Scene) → All IsQuiet (moves sizes state before scene)
moves-quiet sizes state before scene = by_same (same_id before (hover_now sizes scene))
  where
    by_same : (b : Bool) → All IsQuiet (if b then motion before state scene else [])
    by_same true = motion-quiet before state scene
    by_same false = none-quiet

button-quiet : (id : RowId) (down : Bool) (code state : ℕ) (scene : Scene) → All IsQuiet (button id down code state scene)
button-quiet id down code state scene =
    one-quiet (Grants id (g.Button id.window down (pointer_in id scene).x (pointer_in id scene).y state code)) (λ row. refl)

module _ (scene : Scene) (follow : LayersFollow scene.rows scene.layers) where
  pub calm-ignored : IsCalm scene (ignored scene)
  calm-ignored = record { follow = follow; quiet = none-quiet }

  calm-with : (seat : Seat) (ds : List Delivery) → All IsQuiet ds → IsCalm scene (with_deliveries scene seat ds)
  calm-with seat ds quiet = record { follow = follow; quiet = quiet }

  calm-one : (seat : Seat) (d : Delivery) → IsQuiet d → IsCalm scene (with_deliveries scene seat (d ∷ []))
  calm-one seat d quiet = calm-with seat (d ∷ []) (one-quiet d quiet)

  -- the pointer moves
  pub calm-move : (setup : Setup) (p : Point) (state : ℕ) → IsCalm scene (move setup p state scene)
  calm-move setup p state = by_place (is_in_output setup.outputs p)
    where
      by_place : (b : Bool) → IsCalm scene (if b then with_deliveries scene (with_pointer p scene.seat)
          (moves (sizes_of setup) state (hover_now (sizes_of setup) scene) (record scene { seat = with_pointer p scene.seat })) else ignored scene)
      by_place true =
          calm-with (with_pointer p scene.seat) _ (moves-quiet (sizes_of setup) state (hover_now (sizes_of setup) scene) (record scene { seat = with_pointer p scene.seat }))
      by_place false = calm-ignored

  -- a button was pressed
  pressed-follow : (row : Row) → LayersFollow scene.rows (layers_pressed row scene.layers)
  pressed-follow row = by_over row.over
    where
      by_over : (b : Bool) → LayersFollow scene.rows (if b then scene.layers else raised (id_of row) scene.layers)
      by_over true = follow
      by_over false = raised-follow (id_of row) scene.rows scene.layers follow

  pressed-quiet : (row : Row) (p : Point) (code state : ℕ) → All IsQuiet (press_row row p code state scene).deliveries
  pressed-quiet row p code state = by_has (has row.place p)
    where
      by_has : (b : Bool) → All IsQuiet (if b then button (id_of row) true code state scene else [])
      by_has true = button-quiet (id_of row) true code state scene
      by_has false = none-quiet

  calm-owner : (o : Option Row) (p : Point) (code state : ℕ) → IsCalm scene (press_owner o p code state scene)
  calm-owner None p code state = calm-ignored
  calm-owner (Some row) p code state = record { follow = pressed-follow row; quiet = pressed-quiet row p code state }

  calm-pressed : (setup : Setup) (pointer : Option Point) (grab : Option Grab) (code state : ℕ) → IsCalm scene (press_by setup pointer grab code state scene)
  calm-pressed setup None grab code state = calm-ignored
  calm-pressed setup (Some p) (Some grab) code state =
      calm-with (grabbing grab.row (held code grab.buttons) scene.seat) (button grab.row true code state scene) (button-quiet grab.row true code state scene)
  calm-pressed setup (Some p) None code state = calm-owner (topmost setup.border scene.rows scene.layers p) p code state

  -- and released
  calm-released : (o : Option Grab) (code state : ℕ) → IsCalm scene (release_by o code state scene)
  calm-released None code state = calm-ignored
  calm-released (Some grab) code state = by_held (is_among code grab.buttons)
    where
      by_held : (b : Bool) → IsCalm scene (if b
          then with_deliveries scene (record scene.seat { grab = grab_left grab.row (released code grab.buttons) }) (button grab.row false code state scene)
          else ignored scene)
      by_held true =
          calm-with (record scene.seat { grab = grab_left grab.row (released code grab.buttons) }) (button grab.row false code state scene)
          (button-quiet grab.row false code state scene)
      by_held false = calm-ignored

  pub calm-press : (setup : Setup) (down : Bool) (code state : ℕ) → IsCalm scene (press setup down code state scene)
  calm-press setup true code state = calm-pressed setup scene.seat.pointer scene.seat.grab code state
  calm-press setup false code state = calm-released scene.seat.grab code state

  -- a key
  calm-plain : (id : RowId) (down : Bool) (code state : ℕ) → IsCalm scene (plain_key id down code state scene)
  calm-plain id true code state =
      calm-one (with_pressed_keys (held code) scene.seat) (Grants id (g.Key id.window true code state)) (λ row. refl)
  calm-plain id false code state = by_noted (is_among code scene.seat.pressed_keys)
    where
      by_noted : (b : Bool) → IsCalm scene (if b
          then with_deliveries scene (with_pressed_keys (released code) scene.seat) (Grants id (g.Key id.window false code state) ∷ [])
          else ignored scene)
      by_noted true = calm-one (with_pressed_keys (released code) scene.seat) (Grants id (g.Key id.window false code state)) (λ row. refl)
      by_noted false = calm-ignored

  calm-key_to : (id : RowId) (down : Bool) (code state : ℕ) → IsCalm scene (key_to id down code state scene)
  calm-key_to id down code state = by_chord (down && (is_chord state && code == 54)) (down && (is_chord state && code == 55))
    where
      by_chord : (a b : Bool) → IsCalm scene (if a then with_deliveries scene scene.seat (Asks id ∷ [])
          else if b then with_deliveries scene scene.seat (Pastes id ∷ []) else plain_key id down code state scene)
      by_chord true b = calm-one scene.seat (Asks id) tt
      by_chord false true = calm-one scene.seat (Pastes id) tt
      by_chord false false = calm-plain id down code state

  pub calm-key : (o : Option RowId) (down : Bool) (code state : ℕ) → IsCalm scene (key_by o down code state scene)
  calm-key None down code state = calm-ignored
  calm-key (Some id) down code state = calm-key_to id down code state

  -- a row is asked to close
  pub calm-close : (o : Option RowId) → IsCalm scene (close_by o scene)
  calm-close None = calm-ignored
  calm-close (Some id) = calm-one scene.seat (Grants id (g.Close id.window)) (λ row. refl)

  -- a row is raised
  pub calm-raise : (o : Option Row) → IsCalm scene (raise_by o scene)
  calm-raise None = calm-ignored
  calm-raise (Some row) = record { follow = raised-follow (id_of row) scene.rows scene.layers follow; quiet = none-quiet }

-- ---- the row of the focus

-- the row that is found has the id
pub row_at-id : (id : RowId) (rows : List Row) (row : Row) → row_at id rows ≡ Some row → id_of row ≡ id
row_at-id id [] row is = cc
row_at-id id (r ∷ rows) row is = by_test (is_row id.guest id.window r) refl is (λ h. row_at-id id rows row h)
  where
    by_test : (b : Bool) → is_row id.guest id.window r ≡ b → (if b then Some r else row_at id rows) ≡ Some row
        → (row_at id rows ≡ Some row → id_of row ≡ id) → id_of row ≡ id
    by_test true e h further = let same : r ≡ row = cc in ap id_of (sym same) ∙ sym (same_row-is id (id_of r) (sym (is_row-same id r) ∙ e))
    by_test false e h further = further h

-- the row is found by its own id
abbrev pub IsFound : List Row → Row → Type 0
IsFound rows row = row_at (id_of row) rows ≡ Some row

found-all : (rows : List Row) (ids : List RowId) → All (IsFound rows) (filter_map (λ id. row_at id rows) ids)
found-all rows [] = All-nil (IsFound rows)
found-all rows (id ∷ ids) = by_row (row_at id rows) refl (found-all rows ids)
  where
    by_row : (o : Option Row) → row_at id rows ≡ o → All (IsFound rows) (filter_map (λ x. row_at x rows) ids)
        → All (IsFound rows) (cons_option o (filter_map (λ x. row_at x rows) ids))
    by_row None is all = all
    by_row (Some row) is all =
        All-cons (IsFound rows) row (filter_map (λ x. row_at x rows) ids) (ap (λ x. row_at x rows) (row_at-id id rows row is) ∙ is) all

-- what is known of all members is known of the last one that passes
last-of_all : (P : Row → Type 0) (test : Row → Bool) (xs : List Row) (a : Row) → All P xs → last_that test xs ≡ Some a → P a
last-of_all P test [] a all is = absurd (cc)
last-of_all P test (x ∷ xs) a all is =
    by_rest (last_that test xs) (test x) is (last-of_all P test xs a (All-tail P x xs all))
  where
    by_rest : (o : Option Row) (b : Bool) → or_else o (if b then Some x else None) ≡ Some a → (o ≡ Some a → P a) → P a
    by_rest (Some y) b h further = further h
    by_rest None true h further = let same : x ≡ a = cc in subst P same (All-head P x xs all)
    by_rest None false h further = absurd (cc)

-- the focus is a row in the normal layer, and is found by its own id
pub focus-found : (rows : List Row) (layers : Layers) (row : Row) → focus_of rows layers ≡ Some row → (row.over ≡ false) × IsFound rows row
focus-found rows layers row is =
    let test : Row → Bool = λ r. is_shown r && not r.over in
    let listed : List Row = filter_map (λ id. row_at id rows) layers.focus in (
      not-true row.over (and_parts (is_shown row) (not row.over) (last-passes test listed row is)).1,
      last-of_all (IsFound rows) test listed row (found-all rows layers.focus) is,
    )
