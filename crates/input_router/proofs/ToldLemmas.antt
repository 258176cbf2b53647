-- What an event does is the same whatever focus and hover were last told.
use Rattle.std.proofs.Common.{◌≡◌, ℕ, Bool, true, false, List, [], ◌∷◌, Option, Some, None, refl, sym, ◌∙◌, ap, subst}
use Rattle.std.specs.Prelude.{◌&&◌, ◌==◌, not, find, if◌then◌else◌}
use Rattle.gui_num.specs.declared.Point.{Point}
use Rattle.gui_num.specs.declared.Rect.{Rect}
use Rattle.gui_num.specs.Rects.{has}
use Rattle.desk_laws.specs.declared.item.Item.{Item}
use Rattle.desk_laws.specs.declared.item.Item.TheVariants as item
use Rattle.desk_laws.specs.declared.input.GIn.TheVariants as g
use Rattle.desk_laws.specs.declared.row_id.RowId.{RowId}
use Rattle.desk_laws.specs.declared.setup.Setup.{Setup}
use Rattle.desk_laws.specs.Events.{button, close_by, grab_left, grabbing, is_among, is_chord, key_by, layers_pressed, listed, move_to, motion, moves, place_by, plain_key, press_by, press_owner, raise_by, release_by, released, restore_by, route, size_to, with_pointer, with_pressed_keys}
use Rattle.desk_laws.specs.Layers.{Layers, focus_of, last_that, topmost}
use Rattle.desk_laws.specs.Outputs.{is_in_output}
use Rattle.desk_laws.specs.Rows.{Row, id_of, is_hidden, is_shown}
use Rattle.desk_laws.specs.Scene.{Asks, Delivery, Grab, Grants, InputOutcome, Pastes, Scene, Seat, ignored, with_deliveries}
use Rattle.desk_laws.specs.Settle.{IsSettled, focus_now, hover_by, hover_now, same_id}
use Rattle.desk_laws.specs.Sizes.{Sizes, sizes_of}
use Rattle.input_router.specs.Deliveries.{Leads}
use Rattle.input_router.specs.Presents.{Presents}
use Rattle.input_router.specs.Routes.{HoldsShown, Raises, Routes, Takes, changed_by, raised_at, raised_by, told}
use Rattle.input_router.specs.Seated.{hover_of}
use Rattle.input_router.specs.Spots.{Spot}
use Rattle.input_router.specs.Walks.{last_wanted}
use Rattle.input_router.specs.declared.router.Taken.{Taken}
use Rattle.input_router.specs.declared.walks.Wanted.TheVariants.{Normal}
use Rattle.input_router.proofs.SettleLemmas.{hover-same}
use Rattle.input_router.proofs.SceneLemmas.{focus-id}

module _ (focus hover : Option RowId) where
  -- a scene, and an outcome, with this focus and hover as last told
  abbrev pub told_in : Scene → Scene
  told_in scene = record scene { seat = told focus hover scene.seat }

  abbrev pub told_of : InputOutcome → InputOutcome
  told_of outcome = record outcome { seat = told focus hover outcome.seat }

  told-plain : (id : RowId) (down : Bool) (code state : ℕ) (scene : Scene) → plain_key id down code state (told_in scene) ≡ told_of (plain_key id down code state scene)
  told-plain id true code state scene = refl
  told-plain id false code state scene = by_held (is_among code scene.seat.pressed_keys)
    where
      by_held : (b : Bool) → (if b then with_deliveries (told_in scene) (with_pressed_keys (released code) (told_in scene).seat) (Grants id (g.Key id.window false code state) ∷ []) else ignored (told_in scene))
          ≡ told_of (if b then with_deliveries scene (with_pressed_keys (released code) scene.seat) (Grants id (g.Key id.window false code state) ∷ []) else ignored scene)
      by_held true = refl
      by_held false = refl

  told-key : (row : Option RowId) (down : Bool) (code state : ℕ) (scene : Scene) → key_by row down code state (told_in scene) ≡ told_of (key_by row down code state scene)
  told-key None down code state scene = refl
  told-key (Some id) down code state scene = by_chord (down && (is_chord state && code == 54)) (down && (is_chord state && code == 55))
    where
      by_chord : (copy paste : Bool)
          → (if copy then with_deliveries (told_in scene) (told_in scene).seat (Asks id ∷ []) else if paste then with_deliveries (told_in scene) (told_in scene).seat (Pastes id ∷ []) else plain_key id down code state (told_in scene))
          ≡ told_of (if copy then with_deliveries scene scene.seat (Asks id ∷ []) else if paste then with_deliveries scene scene.seat (Pastes id ∷ []) else plain_key id down code state scene)
      by_chord true paste = refl
      by_chord false true = refl
      by_chord false false = told-plain id down code state scene

  told-row : (row : Row) (code state : ℕ) (scene : Scene) (b : Bool)
      → record { layers = layers_pressed row (told_in scene).layers; seat = if b then grabbing (id_of row) (code ∷ []) (told_in scene).seat else (told_in scene).seat; deliveries = if b then button (id_of row) true code state (told_in scene) else [] }
      ≡ told_of (record { layers = layers_pressed row scene.layers; seat = if b then grabbing (id_of row) (code ∷ []) scene.seat else scene.seat; deliveries = if b then button (id_of row) true code state scene else [] })
  told-row row code state scene true = refl
  told-row row code state scene false = refl

  told-owner : (owner : Option Row) (p : Point) (code state : ℕ) (scene : Scene) → press_owner owner p code state (told_in scene) ≡ told_of (press_owner owner p code state scene)
  told-owner None p code state scene = refl
  told-owner (Some row) p code state scene = told-row row code state scene (has row.place p)

  told-press : (setup : Setup) (pointer : Option Point) (grab : Option Grab) (code state : ℕ) (scene : Scene) → press_by setup pointer grab code state (told_in scene) ≡ told_of (press_by setup pointer grab code state scene)
  told-press setup None grab code state scene = refl
  told-press setup (Some p) (Some grab) code state scene = refl
  told-press setup (Some p) None code state scene = told-owner (topmost setup.border scene.rows scene.layers p) p code state scene

  told-release : (grab : Option Grab) (code state : ℕ) (scene : Scene) → release_by grab code state (told_in scene) ≡ told_of (release_by grab code state scene)
  told-release None code state scene = refl
  told-release (Some grab) code state scene = by_held (is_among code grab.buttons)
    where
      by_held : (b : Bool)
          → (if b then with_deliveries (told_in scene) (record (told_in scene).seat { grab = grab_left grab.row (released code grab.buttons) }) (button grab.row false code state (told_in scene)) else ignored (told_in scene))
          ≡ told_of (if b then with_deliveries scene (record scene.seat { grab = grab_left grab.row (released code grab.buttons) }) (button grab.row false code state scene) else ignored scene)
      by_held true = refl
      by_held false = refl

  hover-told : (sizes : Sizes) (grab : Option Grab) (pointer : Option Point) (scene : Scene) → hover_by sizes (told_in scene) grab pointer ≡ hover_by sizes scene grab pointer
  hover-told sizes (Some grab) pointer scene = refl
  hover-told sizes None None scene = refl
  hover-told sizes None (Some p) scene = refl

  motion-told : (row : Option RowId) (state : ℕ) (scene : Scene) → motion row state (told_in scene) ≡ motion row state scene
  motion-told None state scene = refl
  motion-told (Some id) state scene = refl

  moves-told : (sizes : Sizes) (state : ℕ) (before : Option RowId) (scene : Scene) → moves sizes state before (told_in scene) ≡ moves sizes state before scene
  moves-told sizes state before scene =
      ap (λ h. if same_id before h then motion before state (told_in scene) else []) (hover-told sizes scene.seat.grab scene.seat.pointer scene)
      ∙ ap (λ ds. if same_id before (hover_now sizes scene) then ds else []) (motion-told before state scene)

  told-move : (setup : Setup) (p : Point) (state : ℕ) (scene : Scene) (b : Bool)
      → (if b then with_deliveries (told_in scene) (with_pointer p (told_in scene).seat) (moves (sizes_of setup) state (hover_now (sizes_of setup) (told_in scene)) (record (told_in scene) { seat = with_pointer p (told_in scene).seat })) else ignored (told_in scene))
      ≡ told_of (if b then with_deliveries scene (with_pointer p scene.seat) (moves (sizes_of setup) state (hover_now (sizes_of setup) scene) (record scene { seat = with_pointer p scene.seat })) else ignored scene)
  told-move setup p state scene true =
      let sizes = sizes_of setup in
      let there : Scene = record scene { seat = with_pointer p scene.seat } in
      let moved : List Delivery → InputOutcome = λ ds. with_deliveries (told_in scene) (with_pointer p (told_in scene).seat) ds in
      ap (λ h. moved (moves sizes state h (told_in there))) (hover-told sizes scene.seat.grab scene.seat.pointer scene)
      ∙ ap moved (moves-told sizes state (hover_now sizes scene) there)
  told-move setup p state scene false = refl

  told-close : (row : Option RowId) (scene : Scene) → close_by row (told_in scene) ≡ told_of (close_by row scene)
  told-close None scene = refl
  told-close (Some id) scene = refl

  told-raise : (row : Option Row) (scene : Scene) → raise_by row (told_in scene) ≡ told_of (raise_by row scene)
  told-raise None scene = refl
  told-raise (Some row) scene = refl

  told-restore : (row : Option Row) (scene : Scene) → restore_by row (told_in scene) ≡ told_of (restore_by row scene)
  told-restore None scene = refl
  told-restore (Some row) scene = refl

  told-place : (row : Option Row) (f : Rect → Rect) (scene : Scene) → place_by row f (told_in scene) ≡ told_of (place_by row f scene)
  told-place None f scene = refl
  told-place (Some row) f scene = refl

  -- what an event does with them is what it does without, and it leaves them
  pub route-told : (setup : Setup) (event : Item) (scene : Scene) → route setup event (told_in scene) ≡ told_of (route setup event scene)
  route-told setup (item.Bytes guest) scene = refl
  route-told setup (item.Closed guest) scene = refl
  route-told setup (item.Store guest delay page offset) scene = refl
  route-told setup (item.Key down code state) scene = told-key (focus_now scene) down code state scene
  route-told setup (item.Move x y state) scene = told-move setup (record { x = x; y = y }) state scene (is_in_output setup.outputs (record { x = x; y = y }))
  route-told setup (item.Press true code state) scene = told-press setup scene.seat.pointer scene.seat.grab code state scene
  route-told setup (item.Press false code state) scene = told-release scene.seat.grab code state scene
  route-told setup item.Close scene = told-close (focus_now scene) scene
  route-told setup item.Next scene = told-raise (find (λ row. is_shown row && not row.over) (listed scene)) scene
  route-told setup item.Restore scene = told-restore (last_that is_hidden (listed scene)) scene
  route-told setup (item.MoveTo x y) scene = told-place (focus_of scene.rows scene.layers) (move_to x y) scene
  route-told setup (item.SizeTo w h) scene = told-place (focus_of scene.rows scene.layers) (size_to w h) scene
  route-told setup item.Snap scene = refl
  route-told setup item.End scene = refl
  route-told setup (item.Lost guest) scene = refl
  route-told setup item.Idle scene = refl

  raised-at : (setup : Setup) (pointer : Option Point) (grab : Option Grab) (scene : Scene) → raised_at setup pointer grab (told_in scene) ≡ raised_at setup pointer grab scene
  raised-at setup None grab scene = refl
  raised-at setup (Some p) None scene = refl
  raised-at setup (Some p) (Some grab) scene = refl

  -- so is the row that it raises
  pub raised-told : (setup : Setup) (event : Item) (scene : Scene) → raised_by setup event (told_in scene) ≡ raised_by setup event scene
  raised-told setup (item.Press true code state) scene = raised-at setup scene.seat.pointer scene.seat.grab scene
  raised-told setup (item.Press false code state) scene = refl
  raised-told setup item.Next scene = refl
  raised-told setup item.Restore scene = refl
  raised-told setup (item.Bytes guest) scene = refl
  raised-told setup (item.Closed guest) scene = refl
  raised-told setup (item.Store guest delay page offset) scene = refl
  raised-told setup (item.Key down code state) scene = refl
  raised-told setup (item.Move x y state) scene = refl
  raised-told setup item.Close scene = refl
  raised-told setup (item.MoveTo x y) scene = refl
  raised-told setup (item.SizeTo w h) scene = refl
  raised-told setup item.Snap scene = refl
  raised-told setup item.End scene = refl
  raised-told setup (item.Lost guest) scene = refl
  raised-told setup item.Idle scene = refl

-- an event that was taken with the focus and the hover of this moment noted, and with those last told noted again
pub routes-noted : {V : Type 0} (delivers : V → Delivery → V → Type 0) (a b : V) (setup : Setup) (spots : RowId → Option Spot) (before after : Layers) (seat noted moved last : Seat) (focus hover : Option RowId) (taken : Taken) (event : Item) (scene : Scene)
    → Presents setup.border spots before seat scene → HoldsShown scene
    → focus ≡ last_wanted Normal spots before → hover ≡ hover_of spots before seat.grab seat.pointer
    → noted ≡ told focus hover seat
    → (Presents setup.border spots before noted (told_in focus hover scene) → IsSettled (sizes_of setup) (told_in focus hover scene) → Takes delivers a b moved before after taken setup event (told_in focus hover scene))
    → last ≡ told seat.focus seat.hover moved
    → Routes delivers a b last before after (record { raised = taken.raised; changed = taken.changed }) setup event scene
routes-noted {V = V} delivers a b setup spots before after seat noted moved last focus hover taken event scene p holds is_focus is_hover is_noted takes is_last =
    let here : Scene = told_in focus hover scene in
    let sizes = sizes_of setup in
    let at : InputOutcome = route setup event here in
    let plain : InputOutcome = route setup event scene in
    let same : at ≡ told_of focus hover plain = route-told focus hover setup event scene in
    let done = takes
    (record { shows = p.shows; has_layers = p.has_layers; has_seat = ap (told focus hover) p.has_seat ∙ sym is_noted })
    (record {
      grab = holds;
      focus = is_focus ∙ ap (last_wanted Normal spots) (sym p.has_layers) ∙ sym (focus-id setup.border spots scene p.shows);
      hover =
          is_hover ∙ ap (λ (l : Layers). hover_of spots l seat.grab seat.pointer) (sym p.has_layers)
          ∙ ap (λ (s : Seat). hover_of spots scene.layers s.grab s.pointer) (sym p.has_seat)
          ∙ hover-same setup.border spots scene p.shows sizes refl scene.seat.grab scene.seat.pointer;
    }) in
    let left : plain.seat ≡ told scene.seat.focus scene.seat.hover plain.seat = ap (λ (o : InputOutcome). o.seat) (route-told scene.seat.focus scene.seat.hover setup event scene) in
    let seats : moved ≡ told focus hover plain.seat = done.carries.has_seat ∙ ap (λ (o : InputOutcome). o.seat) same in
    let layers : at.layers ≡ plain.layers = ap (λ (o : InputOutcome). o.layers) same in
    let handed : at.deliveries ≡ plain.deliveries = ap (λ (o : InputOutcome). o.deliveries) same in
    record {
      carries = record {
        has_seat =
            is_last ∙ ap (told seat.focus seat.hover) seats ∙ ap (λ (s : Seat). told s.focus s.hover plain.seat) (sym p.has_seat) ∙ sym left;
        leads = subst (λ ds. Leads delivers a ds b) handed done.carries.leads;
      };
      has_layers = done.has_layers ∙ layers;
      raises = subst (λ (l : Layers). Raises taken.raised before l) layers done.raises;
      raised = done.raised ∙ raised-told focus hover setup event scene;
      changes = done.changes ∙ ap changed_by handed;
    }
