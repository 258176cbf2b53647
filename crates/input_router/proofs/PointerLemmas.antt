-- What moves and buttons bring about is what the definitions say of every scene with these spots.
use Rattle.std.proofs.Common.{◌≡◌, ℕ, Bool, true, false, List, [], ◌∷◌, Option, Some, None, IsTrue, refl, sym, ◌∙◌, ap, subst}
use Rattle.std.specs.Prelude.{option_map, option_and_then, if◌then◌else◌}
use Rattle.gui_num.specs.declared.Point.{Point}
use Rattle.gui_num.specs.Rects.{has}
use Rattle.desk_laws.specs.declared.row_id.RowId.{RowId}
use Rattle.desk_laws.specs.declared.setup.Setup.{Setup}
use Rattle.desk_laws.specs.declared.input.GIn.TheVariants.{Motion, Button}
use Rattle.desk_laws.specs.Sizes.{sizes_of}
use Rattle.desk_laws.specs.Rows.{Row, id_of, row_at}
use Rattle.desk_laws.specs.Layers.{Layers, is_in, raised, topmost}
use Rattle.desk_laws.specs.Scene.{Scene, Seat, Delivery, Grants, InputOutcome, with_deliveries, ignored}
use Rattle.desk_laws.specs.declared.item.Item.TheVariants.{Move}
use Rattle.desk_laws.specs.Settle.{same_id, hover_now, IsSettled}
use Rattle.desk_laws.specs.Outputs.{is_in_output}
use Rattle.desk_laws.specs.Events.{with_pointer, motion, moves, move, button, grabbing, layers_pressed, press_owner}
use Rattle.input_router.specs.Deliveries.{Leads}
use Rattle.input_router.specs.Pointed.{motion_in, moves_in, button_in}
use Rattle.input_router.specs.Presents.{Presents, Carries}
use Rattle.input_router.specs.Routes.{Raises, changed_by, normal_id, pointed, hover_stays, Presses, Takes}
use Rattle.input_router.specs.Seated.{hover_of}
use Rattle.input_router.specs.Spots.{Spot, spot_of, Shows, has_content, is_over_at}
use Rattle.input_router.specs.Walks.{top_of}
use Rattle.input_router.proofs.SceneLemmas.{row-id, top-row, top-there}
use Rattle.input_router.proofs.SettleLemmas.{pointer-in, hover-same}

module _ (border : ℕ) (spots : RowId → Option Spot) (scene : Scene) (shows : Shows border spots scene) where
  motion-same : (state : ℕ) (row : Option RowId) → motion_in spots scene.seat.pointer state row ≡ motion row state scene
  motion-same state None = refl
  motion-same state (Some id) =
      ap (λ (at : Point). Grants id (Motion id.window at.x at.y state) ∷ []) (pointer-in border spots scene shows id scene.seat.pointer)

  pub button-same : (id : RowId) (down : Bool) (code state : ℕ) → button_in spots scene.seat.pointer id down code state ≡ button id down code state scene
  button-same id down code state =
      ap (λ (at : Point). Grants id (Button id.window down at.x at.y state code) ∷ []) (pointer-in border spots scene shows id scene.seat.pointer)

-- ---- a move

module _ {V : Type 0} (delivers : V → Delivery → V → Type 0) (a b : V) (setup : Setup) (spots : RowId → Option Spot) (layers : Layers) (seat : Seat) (p : Point) (scene : Scene)
    (is : Presents setup.border spots layers seat scene) (still : IsSettled (sizes_of setup) scene) where
  -- the hover last told is the one before the move
  hover-before : seat.hover ≡ hover_now (sizes_of setup) scene
  hover-before = ap (λ (s : Seat). s.hover) (sym is.has_seat) ∙ still.hover

  hover-after : hover_of spots layers seat.grab (Some p) ≡ hover_now (sizes_of setup) (pointed p scene)
  hover-after =
      ap (λ (l : Layers). hover_of spots l seat.grab (Some p)) (sym is.has_layers)
      ∙ ap (λ (s : Seat). hover_of spots scene.layers s.grab (Some p)) (sym is.has_seat)
      ∙ hover-same setup.border spots (pointed p scene) is.shows (sizes_of setup) refl scene.seat.grab (Some p)

  told-after : (state : ℕ) → moves_in spots (Some p) state seat.hover (hover_of spots layers seat.grab (Some p))
      ≡ moves (sizes_of setup) state (hover_now (sizes_of setup) scene) (pointed p scene)
  told-after state =
      ap (λ (h : Option RowId). moves_in spots (Some p) state h (hover_of spots layers seat.grab (Some p))) hover-before
      ∙ ap (moves_in spots (Some p) state (hover_now (sizes_of setup) scene)) hover-after
      ∙ ap (λ (xs : List Delivery). if hover_stays setup p scene then xs else []) (motion-same setup.border spots (pointed p scene) is.shows state (hover_now (sizes_of setup) scene))

  -- a pixel of an output, where the pointer comes
  pub route-move : (last : Seat) (state : ℕ) (found : Option RowId) → is_in_output setup.outputs p ≡ true
      → last ≡ with_pointer p seat
      → Leads delivers a (moves_in spots (Some p) state seat.hover (hover_of spots layers seat.grab (Some p))) b
      → found ≡ hover_of spots layers seat.grab (Some p)
      → Takes delivers a b last layers layers (record { raised = None; changed = None; settled = same_id last.hover found; hover = found }) setup (Move p.x p.y state) scene
  route-move last state found inside is_last told is_found =
      let outcome : InputOutcome = with_deliveries scene (with_pointer p scene.seat) (moves (sizes_of setup) state (hover_now (sizes_of setup) scene) (pointed p scene)) in
      let here : outcome ≡ move setup p state scene = sym (ap (λ (v : Bool). if v then outcome else ignored scene) inside) in
      let found' : found ≡ hover_now (sizes_of setup) (pointed p scene) = is_found ∙ hover-after in
      let stays : same_id last.hover found ≡ hover_stays setup p scene =
      ap (λ (s : Seat). same_id s.hover found) is_last ∙ ap (λ (h : Option RowId). same_id h found) hover-before
      ∙ ap (same_id (hover_now (sizes_of setup) scene)) found' in
      record {
        carries = subst (λ (o : InputOutcome). Carries delivers a b last o) here
            (record { has_seat = is_last ∙ ap (with_pointer p) (sym is.has_seat); leads = subst (λ (xs : List Delivery). Leads delivers a xs b) (told-after state) told });
        has_layers = sym is.has_layers ∙ ap (λ (o : InputOutcome). o.layers) here;
        raises = sym (ap (λ (o : InputOutcome). o.layers) here) ∙ is.has_layers;
        raised = refl;
        changes = sym (no-place (hover_stays setup p scene) (hover_now (sizes_of setup) scene)) ∙ ap (λ (o : InputOutcome). changed_by o.deliveries) here;
        settled = stays;
        finds = found';
      }
    where
      no-place : (v : Bool) (row : Option RowId) → changed_by (if v then motion row state (pointed p scene) else []) ≡ None
      no-place true None = refl
      no-place true (Some id) = refl
      no-place false row = refl

-- ---- a press

-- on a row
pub press-row : {V : Type 0} (delivers : V → Delivery → V → Type 0) (a b : V) (setup : Setup) (spots : RowId → Option Spot) (layers new : Layers) (seat last : Seat) (p : Point) (code state : ℕ) (id : RowId) (raised_row : Option RowId) (scene : Scene)
    → Presents setup.border spots layers seat scene → top_of spots layers p ≡ Some id → is_in layers.focus id ≡ true
    → last ≡ (if has_content p (spots id) then grabbing id (code ∷ []) seat else seat)
    → Leads delivers a (if has_content p (spots id) then button_in spots seat.pointer id true code state else []) b
    → new ≡ (if is_over_at (spots id) then layers else raised id layers)
    → raised_row ≡ (if is_over_at (spots id) then None else Some id)
    → Presses delivers a b last layers new raised_row (normal_id (topmost setup.border scene.rows scene.layers p)) (press_owner (topmost setup.border scene.rows scene.layers p) p code state scene)
press-row {V = V} delivers a b setup spots layers new seat last p code state id raised_row scene is top listed is_last told is_new is_raised =
    let border = setup.border in
    let top' : top_of spots scene.layers p ≡ Some id = ap (λ (l : Layers). top_of spots l p) is.has_layers ∙ top in
    let there = top-there border spots scene is.shows p id top' in
    let row : Row = there.0 in
    let owner : topmost border scene.rows scene.layers p ≡ Some row =
    top-row border spots scene is.shows p ∙ ap (option_and_then (λ i. row_at i scene.rows)) top' ∙ there.1 in
    let here : id_of row ≡ id = row-id id scene.rows row there.1 in
    let spot : spots id ≡ Some (spot_of border row) = is.shows id ∙ ap (option_map (spot_of border)) there.1 in
    let last' : last ≡ (if has row.place p then grabbing (id_of row) (code ∷ []) scene.seat else scene.seat) =
    is_last ∙ ap (λ (s : Option Spot). if has_content p s then grabbing id (code ∷ []) seat else seat) spot
    ∙ ap (λ (i : RowId). if has row.place p then grabbing i (code ∷ []) seat else seat) (sym here)
    ∙ ap (λ (s : Seat). if has row.place p then grabbing (id_of row) (code ∷ []) s else s) (sym is.has_seat) in
    let told' : (if has_content p (spots id) then button_in spots seat.pointer id true code state else []) ≡ (if has row.place p then button (id_of row) true code state scene else []) =
    ap (λ (s : Option Spot). if has_content p s then button_in spots seat.pointer id true code state else []) spot
    ∙ ap (λ (i : RowId). if has row.place p then button_in spots seat.pointer i true code state else []) (sym here)
    ∙ ap (λ (s : Seat). if has row.place p then button_in spots s.pointer (id_of row) true code state else []) (sym is.has_seat)
    ∙ ap (λ (xs : List Delivery). if has row.place p then xs else []) (button-same border spots scene is.shows (id_of row) true code state) in
    let new' : new ≡ layers_pressed row scene.layers =
    is_new ∙ ap (λ (s : Option Spot). if is_over_at s then layers else raised id layers) spot
    ∙ ap (λ (i : RowId). if row.over then layers else raised i layers) (sym here)
    ∙ ap (λ (l : Layers). if row.over then l else raised (id_of row) l) (sym is.has_layers) in
    let raised' : raised_row ≡ (if row.over then None else Some (id_of row)) =
    is_raised ∙ ap (λ (s : Option Spot). if is_over_at s then None else Some id) spot
    ∙ ap (λ (i : RowId). if row.over then None else Some i) (sym here) in
    let by_over : (o : Bool) → Raises (if o then None else Some (id_of row)) layers (if o then scene.layers else raised (id_of row) scene.layers) =
    elim [ true ↦ is.has_layers | false ↦ (subst (λ (i : RowId). IsTrue (is_in layers.focus i)) (sym here) listed, ap (raised (id_of row)) is.has_layers) ] in
    let by_content : (v : Bool) → changed_by (if v then button (id_of row) true code state scene else []) ≡ None =
    elim [ true ↦ refl | false ↦ refl ] in
    subst (λ (o : Option Row). Presses delivers a b last layers new raised_row (normal_id o) (press_owner o p code state scene)) (sym owner)
    (record {
      carries = record { has_seat = last'; leads = subst (λ (xs : List Delivery). Leads delivers a xs b) told' told };
      has_layers = new';
      raises = subst (λ (r : Option RowId). Raises r layers (layers_pressed row scene.layers)) (sym raised') (by_over row.over);
      raised = raised';
      no_place = by_content (has row.place p);
    })

-- on no row
pub press-nothing : {V : Type 0} (delivers : V → Delivery → V → Type 0) (a b : V) (setup : Setup) (spots : RowId → Option Spot) (layers : Layers) (seat : Seat) (p : Point) (code state : ℕ) (scene : Scene)
    → Presents setup.border spots layers seat scene → top_of spots layers p ≡ None → a ≡ b
    → Presses delivers a b seat layers layers None (normal_id (topmost setup.border scene.rows scene.layers p)) (press_owner (topmost setup.border scene.rows scene.layers p) p code state scene)
press-nothing {V = V} delivers a b setup spots layers seat p code state scene is top same =
    let owner : topmost setup.border scene.rows scene.layers p ≡ None =
    top-row setup.border spots scene is.shows p ∙ ap (option_and_then (λ i. row_at i scene.rows)) (ap (λ (l : Layers). top_of spots l p) is.has_layers ∙ top) in
    subst (λ (o : Option Row). Presses delivers a b seat layers layers None (normal_id o) (press_owner o p code state scene)) (sym owner)
    (record {
      carries = record { has_seat = sym is.has_seat; leads = same };
      has_layers = sym is.has_layers;
      raises = is.has_layers;
      raised = refl;
      no_place = refl;
    })
