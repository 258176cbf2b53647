-- What is told of focus and hover is what the definitions tell of every scene with these spots.
use Rattle.std.proofs.Common.{◌≡◌, ℕ, Bool, true, false, List, [], ◌∷◌, ◌++◌, Option, Some, None, refl, sym, ◌∙◌, ap, subst}
use Rattle.std.specs.Prelude.{option_map, option_and_then, if◌then◌else◌}
use Rattle.gui_num.specs.declared.Point.{Point}
use Rattle.gui_num.specs.Rects.{has}
use Rattle.desk_laws.specs.declared.row_id.RowId.{RowId}
use Rattle.desk_laws.specs.declared.input.GIn.TheVariants.{Crossing}
use Rattle.desk_laws.specs.Sizes.{Sizes}
use Rattle.desk_laws.specs.Rows.{Row, row_at, is_shown}
use Rattle.desk_laws.specs.Layers.{Layers, topmost}
use Rattle.desk_laws.specs.Scene.{Scene, Seat, Grab, Delivery, Grants}
use Rattle.desk_laws.specs.Settle.{focus_now, hover_now, hover_by, content_owner, grab_shown, grab_checked, from_corner, pointer_in, crossing, same_id, focus_told, hover_told, settled, settled_seat}
use Rattle.input_router.specs.declared.walks.Wanted.TheVariants.{Normal}
use Rattle.input_router.specs.Deliveries.{Leads}
use Rattle.input_router.specs.Presents.{Presents, Carries}
use Rattle.input_router.specs.Routes.{HoldsShown}
use Rattle.input_router.specs.Seated.{kept_grab, hover_of, from_spot, crossed, hover_moved}
use Rattle.input_router.specs.Spots.{Spot, spot_of, Shows, has_content, is_shown_at}
use Rattle.input_router.specs.Walks.{passing, top_of, owner_of, last_wanted}
use Rattle.input_router.proofs.SceneLemmas.{row-id, top-row, focus-id}

-- deliveries one behind the other
pub leads-both : {V : Type 0} (delivers : V → Delivery → V → Type 0) (a m b : V) (xs ys : List Delivery) → Leads delivers a xs m → Leads delivers m ys b → Leads delivers a (xs ++ ys) b
leads-both {V = V} delivers a m b [] ys first next = subst (λ (v : V). Leads delivers v ys b) (sym first) next
leads-both delivers a m b (x ∷ xs) ys first next = (first.0, first.1, leads-both delivers first.0 m b xs ys first.2 next)

module _ (border : ℕ) (spots : RowId → Option Spot) (scene : Scene) (shows : Shows border spots scene) where
  -- the pointer in a row
  pub pointer-in : (id : RowId) (pointer : Option Point) → from_spot (spots id) pointer ≡ from_corner (row_at id scene.rows) pointer
  pointer-in id pointer = ap (λ s. from_spot s pointer) (shows id) ∙ by_row (row_at id scene.rows) pointer
    where
      by_row : (o : Option Row) (p : Option Point) → from_spot (option_map (spot_of border) o) p ≡ from_corner o p
      by_row None None = refl
      by_row None (Some p) = refl
      by_row (Some row) None = refl
      by_row (Some row) (Some p) = refl

  -- the row whose content has the pixel
  pub owner-same : (p : Point) → owner_of spots scene.layers p ≡ content_owner (topmost border scene.rows scene.layers p) p
  owner-same p = by_top (top_of spots scene.layers p) ∙ sym (ap (λ o. content_owner o p) (top-row border spots scene shows p))
    where
      by_row : (id : RowId) (o : Option Row) → row_at id scene.rows ≡ o → (if has_content p (option_map (spot_of border) o) then Some id else None) ≡ content_owner o p
      by_row id None e = refl
      by_row id (Some row) e = ap (λ i. if has row.place p then Some i else None) (sym (row-id id scene.rows row e))

      by_top : (o : Option RowId) → passing (λ id. has_content p (spots id)) o ≡ content_owner (option_and_then (λ id. row_at id scene.rows) o) p
      by_top None = refl
      by_top (Some id) = ap (λ s. if has_content p s then Some id else None) (shows id) ∙ by_row id (row_at id scene.rows) refl

  pub hover-same : (sizes : Sizes) → sizes.border ≡ border → (grab : Option Grab) (pointer : Option Point) → hover_of spots scene.layers grab pointer ≡ hover_by sizes scene grab pointer
  hover-same sizes e (Some grab) pointer = refl
  hover-same sizes e None None = refl
  hover-same sizes e None (Some p) = owner-same p ∙ ap (λ n. content_owner (topmost n scene.rows scene.layers p) p) (sym e)

  pub grab-same : (grab : Option Grab) → kept_grab spots grab ≡ grab_shown scene.rows grab
  grab-same None = refl
  grab-same (Some grab) =
      ap (λ s. if is_shown_at s then Some grab else None) (shows grab.row) ∙ by_row (row_at grab.row scene.rows)
    where
      by_row : (o : Option Row) → (if is_shown_at (option_map (spot_of border) o) then Some grab else None)
          ≡ (if (elim o as (λ x. Bool) [ None ↦ false | Some row ↦ is_shown row ]) then Some grab else None)
      by_row None = refl
      by_row (Some row) = refl

  pub crossed-same : (focus : Option RowId) (enter : Bool) (row : Option RowId) → focus ≡ focus_now scene → crossed spots focus scene.seat.pointer enter row ≡ crossing enter row scene
  crossed-same focus enter None e = refl
  crossed-same focus enter (Some id) e =
      ap (λ (at : Point). Grants id (Crossing id.window enter at.x at.y (same_id (Some id) focus)) ∷ []) (pointer-in id scene.seat.pointer)
      ∙ ap (λ f. Grants id (Crossing id.window enter (pointer_in id scene).x (pointer_in id scene).y (same_id (Some id) f)) ∷ []) e

  pub hover-told : (focus old new : Option RowId) → focus ≡ focus_now scene → hover_moved spots focus scene.seat.pointer old new ≡ hover_told old new scene
  hover-told focus old new e =
      ap (λ xs. if same_id old new then [] else xs ++ crossed spots focus scene.seat.pointer true new) (crossed-same focus false old e)
      ∙ ap (λ xs. if same_id old new then [] else crossing false old scene ++ xs) (crossed-same focus true new e)

-- focus and hover of a scene whose grab was checked were told, and then noted
told-done : {V : Type 0} (delivers : V → Delivery → V → Type 0) (a b : V) (sizes : Sizes) (spots : RowId → Option Spot) (layers : Layers) (kept last : Seat) (focus hover : Option RowId) (scene : Scene)
    → Shows sizes.border spots scene → scene.layers ≡ layers
    → kept ≡ (grab_checked scene).seat
    → focus ≡ last_wanted Normal spots layers
    → hover ≡ hover_now sizes (grab_checked scene)
    → last ≡ settled_seat focus hover kept
    → Leads delivers a (focus_told kept.focus focus ++ hover_moved spots focus kept.pointer kept.hover hover) b
    → Carries delivers a b last (settled sizes (grab_checked scene))
told-done {V = V} delivers a b sizes spots layers kept last focus hover scene shows has_layers is_kept is_focus is_hover is_last told =
    let checked : Scene = grab_checked scene in
    let border = sizes.border in
    let focus' : focus ≡ focus_now checked =
    is_focus ∙ ap (last_wanted Normal spots) (sym has_layers) ∙ sym (focus-id border spots checked shows) in
    let told_focus : focus_told kept.focus focus ≡ focus_told checked.seat.focus (focus_now checked) =
    ap (λ (s : Seat). focus_told s.focus focus) is_kept ∙ ap (focus_told checked.seat.focus) focus' in
    let told_hover : hover_moved spots focus kept.pointer kept.hover hover ≡ hover_told checked.seat.hover (hover_now sizes checked) checked =
    ap (λ (s : Seat). hover_moved spots focus s.pointer s.hover hover) is_kept
    ∙ hover-told border spots checked shows focus checked.seat.hover hover focus'
    ∙ ap (λ (h : Option RowId). hover_told checked.seat.hover h checked) is_hover in
    record {
      has_seat =
          is_last ∙ ap (λ (s : Seat). settled_seat focus hover s) is_kept ∙ ap (λ (f : Option RowId). settled_seat f hover checked.seat) focus'
          ∙ ap (λ (h : Option RowId). settled_seat (focus_now checked) h checked.seat) is_hover;
      leads =
          subst (λ (xs : List Delivery). Leads delivers a xs b)
          (ap (λ (xs : List Delivery). xs ++ hover_moved spots focus kept.pointer kept.hover hover) told_focus
          ∙ ap (λ (xs : List Delivery). focus_told checked.seat.focus (focus_now checked) ++ xs) told_hover) told;
    }

-- a grab was checked, and focus and hover were looked for
pub settle-done : {V : Type 0} (delivers : V → Delivery → V → Type 0) (a b : V) (sizes : Sizes) (spots : RowId → Option Spot) (layers : Layers) (seat kept last : Seat) (focus hover : Option RowId) (scene : Scene)
    → Presents sizes.border spots layers seat scene
    → kept ≡ record seat { grab = kept_grab spots seat.grab }
    → focus ≡ last_wanted Normal spots layers
    → hover ≡ hover_of spots layers kept.grab kept.pointer
    → last ≡ settled_seat focus hover kept
    → Leads delivers a (focus_told kept.focus focus ++ hover_moved spots focus kept.pointer kept.hover hover) b
    → Carries delivers a b last (settled sizes (grab_checked scene))
settle-done delivers a b sizes spots layers seat kept last focus hover scene p is_kept is_focus is_hover is_last told =
    let checked : Scene = grab_checked scene in
    let border = sizes.border in
    let kept' : kept ≡ checked.seat =
    is_kept ∙ ap (λ (s : Seat). record s { grab = kept_grab spots s.grab }) (sym p.has_seat)
    ∙ ap (λ (grab : Option Grab). record scene.seat { grab = grab }) (grab-same border spots scene p.shows scene.seat.grab) in
    let hover' : hover ≡ hover_now sizes checked =
    is_hover ∙ ap (λ (l : Layers). hover_of spots l kept.grab kept.pointer) (sym p.has_layers)
    ∙ ap (λ (s : Seat). hover_of spots scene.layers s.grab s.pointer) kept'
    ∙ hover-same border spots checked p.shows sizes refl checked.seat.grab checked.seat.pointer in
    told-done delivers a b sizes spots layers kept last focus hover scene p.shows p.has_layers kept' is_focus hover' is_last told

-- a row that is grabbed is shown, the hover was known, and the focus was looked for
pub settle-at-done : {V : Type 0} (delivers : V → Delivery → V → Type 0) (a b : V) (sizes : Sizes) (spots : RowId → Option Spot) (layers : Layers) (seat last : Seat) (focus hover : Option RowId) (scene : Scene)
    → Presents sizes.border spots layers seat scene → HoldsShown scene
    → focus ≡ last_wanted Normal spots layers
    → hover ≡ hover_now sizes scene
    → last ≡ settled_seat focus hover seat
    → Leads delivers a (focus_told seat.focus focus ++ hover_moved spots focus seat.pointer seat.hover hover) b
    → Carries delivers a b last (settled sizes (grab_checked scene))
settle-at-done delivers a b sizes spots layers seat last focus hover scene p holds is_focus is_hover is_last told =
    let same : scene ≡ grab_checked scene = ap (λ (grab : Option Grab). record scene { seat = record scene.seat { grab = grab } }) (sym holds) in
    told-done delivers a b sizes spots layers seat last focus hover scene p.shows p.has_layers
    (sym p.has_seat ∙ ap (λ (s : Scene). s.seat) same) is_focus (is_hover ∙ ap (hover_now sizes) same) is_last told
