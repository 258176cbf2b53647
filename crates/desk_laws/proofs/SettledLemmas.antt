-- Where focus and hover were told, and what leaves it so: settle then tells nothing.
use Rattle.std.proofs.Common.{◌≡◌, ℕ, Bool, true, false, ◌&&◌, ◌==◌, not, List, [], ◌∷◌, ◌++◌, map, Option, Some, None, refl, sym, ◌∙◌, ap, subst}
use Rattle.std.specs.Prelude.{ℤ, option_map, filter_map, if◌then◌else◌}
use Rattle.std.specs.List.{cons_option}
use Rattle.std.proofs.lemmas.Bool.{and_parts, eqb-true}
use Rattle.std.proofs.lemmas.List.{append-nil}
use Rattle.gui_num.specs.declared.Rect.{Rect}
use Rattle.gui_num.specs.declared.Point.{Point}
use Rattle.gui_num.specs.Rects.{has, grown}
use Rattle.desk_laws.specs.declared.row_id.RowId.{RowId}
use Rattle.desk_laws.specs.declared.setup.Setup.{Setup}
use Rattle.desk_laws.specs.declared.item.Item.TheVariants as item
use Rattle.desk_laws.specs.declared.input.GIn.TheVariants as g
use Rattle.desk_laws.specs.Sizes.{Sizes, sizes_of}
use Rattle.desk_laws.specs.Stream.{StreamUnit}
use Rattle.desk_laws.specs.Rows.{Row, id_of, is_row, mine, row_with, row_at, is_shown}
use Rattle.desk_laws.specs.Layers.{Layers, is_in, are_apart, followed, or_else, last_that, topmost, focus_of}
use Rattle.desk_laws.specs.Following.{LayersFollow}
use Rattle.desk_laws.specs.Effects.{Area, Verdict, Reads, Replaced, changed, verdict, of_guest, drawn_row, frame_places, points}
use Rattle.desk_laws.specs.Frames.{load_all}
use Rattle.desk_laws.specs.Scene.{Scene, Seat, Grab, Delivery, Grants, Asks, Pastes, InputOutcome, SceneOutcome, Post, GuestInput, outcome_after, and_then, unchanged, perform, scene_of_input, with_rows, with_deliveries, ignored}
use Rattle.desk_laws.specs.State.{DeskState, opening, session_of}
use Rattle.desk_laws.specs.Settle.{focus_now, hover_now, hover_by, content_owner, same_id, grab_shown, grab_checked, focusing, keymap, crossing, focus_told, hover_told, settled_seat, settled, settle, IsSettled}
use Rattle.desk_laws.specs.declared.setup.Pair.{Pair}
use Rattle.desk_laws.specs.Outputs.{is_in_output}
use Rattle.desk_laws.specs.Events.{with_pointer, moves, move, is_among, is_chord, held, released, with_pressed_keys, plain_key, key_by, route}
use Rattle.desk_laws.specs.Steps.{unit_told, unit_effect}
use Rattle.desk_laws.proofs.ChangeLemmas.{found-window, window_of_unit, of_unit, IsOfOne}
use Rattle.desk_laws.proofs.FollowChanges.{the, row_with-mine, replaced-ids, replaced-other, followed-same}
use Rattle.desk_laws.proofs.FollowLemmas.{Test, passes, ids_where, ids-have, is_normal, is_over, layer-normal, layer-over}
use Rattle.desk_laws.proofs.IdLemmas.{same_row-is}
use Rattle.desk_laws.proofs.ListedLemmas.{AreListed}
use Rattle.desk_laws.proofs.RouteLemmas.{IsCalm, calm-move, calm-key, row_at-id}
use Rattle.desk_laws.proofs.RowLemmas.{same_row-itself}
use Rattle.desk_laws.proofs.SettleLemmas.{all-rows, all-layers, all-seat, settle-rows, settle-layers, settle-seat}
use Rattle.desk_laws.proofs.UnitLemmas.{effect_of}

-- ---- rows as focus, hover and layers see them

-- all that is asked of a row for them
pub record Sight : Type 0 where
  pub id : RowId
  pub place : Rect
  pub mapped : Bool
  pub shown : Bool
  pub over : Bool

-- a row as it is seen
abbrev pub sight_of : Row → Sight
sight_of row = record { id = id_of row; place = row.place; mapped = row.mapped; shown = is_shown row; over = row.over }

-- the row of an id as it is seen
abbrev pub sight_at : List Row → RowId → Option Sight
sight_at rows id = option_map sight_of (row_at id rows)

-- each id shows the same in both
abbrev pub LookSame : List Row → List Row → Type 0
LookSame rows rows' = (id : RowId) → sight_at rows' id ≡ sight_at rows id

-- the rows of these ids as they are seen
abbrev sights : List Row → List RowId → List Sight
sights rows ids = filter_map (sight_at rows) ids

-- rows that look the same are seen the same
sights-same : (rows rows' : List Row) → LookSame rows rows' → (ids : List RowId) → sights rows' ids ≡ sights rows ids
sights-same rows rows' same [] = refl
sights-same rows rows' same (id ∷ ids) =
    ap (λ o. cons_option o (sights rows' ids)) (same id) ∙ ap (cons_option (sight_at rows id)) (sights-same rows rows' same ids)

-- the last row that passes, as it is seen
last-sight : (p : Sight → Bool) (rows : List Row) (ids : List RowId)
    → option_map sight_of (last_that (λ row. p (sight_of row)) (filter_map (λ id. row_at id rows) ids)) ≡ last_that p (sights rows ids)
last-sight p rows [] = refl
last-sight p rows (id ∷ ids) = by_row (row_at id rows) (last-sight p rows ids)
  where
    found : List Row
    found = filter_map (λ x. row_at x rows) ids

    either : (o : Option Row) (row : Row) (b : Bool)
        → option_map sight_of (or_else o (if b then Some row else None)) ≡ or_else (option_map sight_of o) (if b then Some (sight_of row) else None)
    either None row true = refl
    either None row false = refl
    either (Some r) row b = refl

    by_row : (o : Option Row) → option_map sight_of (last_that (λ row. p (sight_of row)) found) ≡ last_that p (sights rows ids)
        → option_map sight_of (last_that (λ row. p (sight_of row)) (cons_option o found)) ≡ last_that p (cons_option (option_map sight_of o) (sights rows ids))
    by_row None ih = ih
    by_row (Some row) ih =
        either (last_that (λ r. p (sight_of r)) found) row (p (sight_of row)) ∙ ap (λ o. or_else o (if p (sight_of row) then Some (sight_of row) else None)) ih

-- the last one that passes looks the same
last-same : (p : Sight → Bool) (rows rows' : List Row) → LookSame rows rows' → (ids : List RowId)
    → option_map sight_of (last_that (λ row. p (sight_of row)) (filter_map (λ id. row_at id rows') ids))
    ≡ option_map sight_of (last_that (λ row. p (sight_of row)) (filter_map (λ id. row_at id rows) ids))
last-same p rows rows' same ids = last-sight p rows' ids ∙ ap (last_that p) (sights-same rows rows' same ids) ∙ sym (last-sight p rows ids)

-- ---- focus, hover, grab and layers by what is seen

module _ (rows rows' : List Row) (same : LookSame rows rows') where
  -- the focus is the same
  focus-looks : (layers : Layers) → option_map id_of (focus_of rows' layers) ≡ option_map id_of (focus_of rows layers)
  focus-looks layers =
      seen (focus_of rows' layers) ∙ ap (option_map (λ s. s.id)) (last-same (λ s. s.shown && not s.over) rows rows' same layers.focus)
      ∙ sym (seen (focus_of rows layers))
    where
      seen : (o : Option Row) → option_map id_of o ≡ option_map (λ (s : Sight). s.id) (option_map sight_of o)
      seen None = refl
      seen (Some row) = refl

  -- so is the row whose content has a pixel
  owner-looks : (border : ℕ) (layers : Layers) (p : Point) → content_owner (topmost border rows' layers p) p ≡ content_owner (topmost border rows layers p) p
  owner-looks border layers p =
      seen (topmost border rows' layers p)
      ∙ ap owner_seen (last-same (λ s. s.shown && has (grown s.place border) p) rows rows' same (layers.normal ++ layers.over))
      ∙ sym (seen (topmost border rows layers p))
    where
      owner_seen : Option Sight → Option RowId
      owner_seen None = None
      owner_seen (Some s) = if has s.place p then Some s.id else None

      seen : (o : Option Row) → content_owner o p ≡ owner_seen (option_map sight_of o)
      seen None = refl
      seen (Some row) = refl

  -- a grab ends in both or in neither
  grab-looks : (grab : Option Grab) → grab_shown rows' grab ≡ grab_shown rows grab
  grab-looks None = refl
  grab-looks (Some grab) = seen (row_at grab.row rows') ∙ ap grab_seen (same grab.row) ∙ sym (seen (row_at grab.row rows))
    where
      grab_seen : Option Sight → Option Grab
      grab_seen None = None
      grab_seen (Some s) = if s.shown then Some grab else None

      seen : (o : Option Row) → (if (elim o as (λ x. Bool) [ None ↦ false | Some row ↦ is_shown row ]) then Some grab else None) ≡ grab_seen (option_map sight_of o)
      seen None = refl
      seen (Some row) = refl

  -- the same ids are mapped, and in the same layer
  passes-looks : (test : Test) (id : RowId) → passes test (row_at id rows') ≡ passes test (row_at id rows)
  passes-looks test id = seen (row_at id rows') ∙ ap passes_seen (same id) ∙ sym (seen (row_at id rows))
    where
      passes_seen : Option Sight → Bool
      passes_seen None = false
      passes_seen (Some s) = test s.mapped s.over

      seen : (o : Option Row) → passes test o ≡ passes_seen (option_map sight_of o)
      seen None = refl
      seen (Some row) = refl

  -- lists that follow the rows follow those that look the same
  layers-look : (layers : Layers) → are_apart (map id_of rows) ≡ true → are_apart (map id_of rows') ≡ true → LayersFollow rows layers → LayersFollow rows' layers
  layers-look layers apart apart' follow = record {
    once = follow.once;
    normal = λ id.
        follow.normal id ∙ ap (λ ids. is_in ids id) (layer-normal rows) ∙ sym (ids-look is_normal id) ∙ sym (ap (λ ids. is_in ids id) (layer-normal rows'));
    over = λ id.
        follow.over id ∙ ap (λ ids. is_in ids id) (layer-over rows) ∙ sym (ids-look is_over id) ∙ sym (ap (λ ids. is_in ids id) (layer-over rows'));
  }
    where
      ids-look : (test : Test) (id : RowId) → is_in (ids_where test rows') id ≡ is_in (ids_where test rows) id
      ids-look test id = ids-have test rows' id apart' ∙ passes-looks test id ∙ sym (ids-have test rows id apart)

-- ---- scenes that look the same

-- the rows look the same, the layers are the same, and the seat but for its pressed keys
pub record LooksSame (scene after : Scene) : Type 0 where
  pub rows : LookSame scene.rows after.rows
  pub layers : after.layers ≡ scene.layers
  pub pointer : after.seat.pointer ≡ scene.seat.pointer
  pub grab : after.seat.grab ≡ scene.seat.grab
  pub focus : after.seat.focus ≡ scene.seat.focus
  pub hover : after.seat.hover ≡ scene.seat.hover

module _ (sizes : Sizes) (scene after : Scene) (is : LooksSame scene after) where
  -- the focus is the same
  focus-now : focus_now after ≡ focus_now scene
  focus-now = ap (λ (l : Layers). option_map id_of (focus_of after.rows l)) is.layers ∙ focus-looks scene.rows after.rows is.rows scene.layers

  -- the hover is the same
  hover-now : hover_now sizes after ≡ hover_now sizes scene
  hover-now =
      ap (λ (held_row : Option Grab). hover_by sizes after held_row after.seat.pointer) is.grab
      ∙ ap (hover_by sizes after scene.seat.grab) is.pointer
      ∙ by_seat scene.seat.grab scene.seat.pointer
    where
      by_seat : (grab : Option Grab) (pointer : Option Point) → hover_by sizes after grab pointer ≡ hover_by sizes scene grab pointer
      by_seat (Some grab) pointer = refl
      by_seat None None = refl
      by_seat None (Some p) =
          ap (λ (l : Layers). content_owner (topmost sizes.border after.rows l p) p) is.layers
          ∙ owner-looks scene.rows after.rows is.rows sizes.border scene.layers p

  -- where the one is settled, so is the other
  pub alike-settled : IsSettled sizes scene → IsSettled sizes after
  alike-settled still = record {
    grab = ap (grab_shown after.rows) is.grab ∙ grab-looks scene.rows after.rows is.rows scene.seat.grab ∙ still.grab ∙ sym is.grab;
    focus = is.focus ∙ still.focus ∙ sym focus-now;
    hover = is.hover ∙ still.hover ∙ sym hover-now;
  }

-- the same rows
rows-look : (rows rows' : List Row) → rows' ≡ rows → LookSame rows rows'
rows-look rows rows' same = λ id. ap (λ rs. sight_at rs id) same

-- the same rows, layers and seat
same-settled : (sizes : Sizes) (scene after : Scene) → after.rows ≡ scene.rows → after.layers ≡ scene.layers → after.seat ≡ scene.seat
    → IsSettled sizes scene → IsSettled sizes after
same-settled sizes scene after rows layers seat still =
    alike-settled sizes scene after
    (record {
      rows = rows-look scene.rows after.rows rows;
      layers = layers;
      pointer = ap (λ (s : Seat). s.pointer) seat;
      grab = ap (λ (s : Seat). s.grab) seat;
      focus = ap (λ (s : Seat). s.focus) seat;
      hover = ap (λ (s : Seat). s.hover) seat;
    }) still

-- ---- settling

-- an id, or none, is the same as itself
same_id-itself : (o : Option RowId) → same_id o o ≡ true
same_id-itself None = refl
same_id-itself (Some id) = same_row-itself id

-- ids that are the same are equal
pub same_id-is : (a b : Option RowId) → same_id a b ≡ true → a ≡ b
same_id-is None None h = refl
same_id-is None (Some b) h = cc
same_id-is (Some a) None h = cc
same_id-is (Some a) (Some b) h = ap Some (same_row-is a b h)

-- a grab that was checked holds
grab-checked_twice : (rows : List Row) (grab : Option Grab) → grab_shown rows (grab_shown rows grab) ≡ grab_shown rows grab
grab-checked_twice rows None = refl
grab-checked_twice rows (Some grab) = by_row (elim (row_at grab.row rows) as (λ x. Bool) [ None ↦ false | Some row ↦ is_shown row ]) refl
  where
    by_row : (b : Bool) → (elim (row_at grab.row rows) as (λ x. Bool) [ None ↦ false | Some row ↦ is_shown row ]) ≡ b
        → grab_shown rows (if b then Some grab else None) ≡ (if b then Some grab else None)
    by_row true e = ap (λ (v : Bool). if v then Some grab else None) e
    by_row false e = refl

-- a scene of this seat
abbrev in_seat : Seat → Scene → Scene
in_seat seat scene = record scene { seat = seat }

-- the hover asks nothing else of the seat than the grab and the pointer
hover-seated : (sizes : Sizes) (scene : Scene) (seat : Seat) (grab : Option Grab) (pointer : Option Point)
    → hover_by sizes (in_seat seat scene) grab pointer ≡ hover_by sizes scene grab pointer
hover-seated sizes scene seat (Some grab) pointer = refl
hover-seated sizes scene seat None None = refl
hover-seated sizes scene seat None (Some p) = refl

-- once focus and hover are told, they are those that were last told
pub settle-settles : (sizes : Sizes) (scene : Scene) → LayersFollow scene.rows scene.layers → IsSettled sizes (settle sizes scene).scene
settle-settles sizes scene follow =
    let checked : Scene = grab_checked scene in
    let last : Seat = settled_seat (focus_now scene) (hover_now sizes checked) checked.seat in
    same-settled sizes (in_seat last scene) (settle sizes scene).scene
    (settle-rows sizes scene) (settle-layers sizes scene follow) (settle-seat sizes scene)
    (record {
      grab = grab-checked_twice scene.rows scene.seat.grab;
      focus = refl;
      hover =
          hover-seated sizes scene checked.seat checked.seat.grab scene.seat.pointer
          ∙ sym (hover-seated sizes scene last checked.seat.grab scene.seat.pointer);
    })

-- there is nothing to tell, and nothing changes
pub settled-silent : (sizes : Sizes) (scene : Scene) → IsSettled sizes scene → settle sizes scene ≡ unchanged scene
settled-silent sizes scene is =
    ap (λ (s : Scene). perform [] (settled sizes s) scene) checked ∙ ap (λ (r : InputOutcome). perform [] r scene) nothing
  where
    checked : grab_checked scene ≡ scene
    checked = ap (λ (kept : Option Grab). in_seat (record scene.seat { grab = kept }) scene) is.grab

    -- what is told of this focus and hover
    told : Option RowId → Option RowId → InputOutcome
    told focus hover =
        with_deliveries scene (settled_seat focus hover scene.seat) (focus_told scene.seat.focus focus ++ hover_told scene.seat.hover hover scene)

    -- what is told where the focus is another or not, and the hover
    told_where : Bool → Bool → InputOutcome
    told_where focus hover =
        with_deliveries scene (record scene.seat { pressed_keys = if focus then scene.seat.pressed_keys else [] })
        ((if focus then [] else focusing false scene.seat.focus ++ focusing true scene.seat.focus ++ keymap scene.seat.focus)
        ++ (if hover then [] else crossing false scene.seat.hover scene ++ crossing true scene.seat.hover scene))

    nothing : settled sizes scene ≡ ignored scene
    nothing =
        ap (λ (f : Option RowId). told f (hover_now sizes scene)) (sym is.focus)
        ∙ ap (told scene.seat.focus) (sym is.hover)
        ∙ ap (λ (b : Bool). told_where b (same_id scene.seat.hover scene.seat.hover)) (same_id-itself scene.seat.focus)
        ∙ ap (told_where true) (same_id-itself scene.seat.hover)

-- so settle may be left out of an outcome
pub settled-outcome : (sizes : Sizes) (before : SceneOutcome) → IsSettled sizes before.scene → and_then before (settle sizes) ≡ before
settled-outcome sizes before is =
    ap (outcome_after before) (settled-silent sizes before.scene is)
    ∙ ap (λ (posts : List Post). record before { posts = posts; inputs = before.inputs ++ [] }) (append-nil before.posts)
    ∙ ap (λ (inputs : List GuestInput). record before { inputs = inputs }) (append-nil before.inputs)

-- nothing is there, and nothing was told
pub opening-settled : (setup : Setup) → IsSettled (sizes_of setup) (opening setup).scene
opening-settled setup = record { grab = refl; focus = refl; hover = refl }

-- ---- a row's contents

-- a row in the place of one that looks the same
replaced-looks : (guest : ℕ) (row new : Row) (rows : List Row) → row_at (the guest new.window) rows ≡ Some row → sight_of (of_guest guest new) ≡ sight_of row
    → LookSame rows (changed guest (Replaced new) rows)
replaced-looks guest row new [] here alike id = refl
replaced-looks guest row new (r ∷ rows) here alike id =
    by_row (is_row guest new.window r) refl here (λ h. replaced-looks guest row new rows h alike id)
  where
    after : List Row
    after = changed guest (Replaced new) rows

    -- the row here has the guest and window of the new one
    same-id : is_row guest new.window r ≡ true → is_row id.guest id.window (of_guest guest new) ≡ is_row id.guest id.window r
    same-id k =
        let parts = and_parts (r.guest == guest) (r.window == new.window) k in
        ap (λ n. n == id.guest && new.window == id.window) (sym (eqb-true r.guest guest parts.0))
        ∙ ap (λ n. r.guest == id.guest && n == id.window) (sym (eqb-true r.window new.window parts.1))

    -- where the new row comes here, no other comes behind it
    by_id : (b : Bool) → is_row id.guest id.window (of_guest guest new) ≡ b → r ≡ row
        → option_map sight_of (if b then Some (of_guest guest new) else row_at id after) ≡ option_map sight_of (if b then Some r else row_at id rows)
    by_id true e is = ap Some (alike ∙ ap sight_of (sym is))
    by_id false e is = ap (option_map sight_of) (replaced-other guest new rows id e)

    by_row : (b : Bool) → is_row guest new.window r ≡ b → (if b then Some r else row_at (the guest new.window) rows) ≡ Some row
        → (row_at (the guest new.window) rows ≡ Some row → sight_at after id ≡ sight_at rows id)
        → sight_at ((if b then of_guest guest new else r) ∷ after) id ≡ sight_at (r ∷ rows) id
    by_row true e h ih =
        let is : r ≡ row = cc in
        by_id (is_row id.guest id.window (of_guest guest new)) refl is
        ∙ ap (λ (b : Bool). option_map sight_of (if b then Some r else row_at id rows)) (same-id e)
    by_row false e h ih = by_test (is_row id.guest id.window r) (ih h)
      where
        by_test : (b : Bool) → sight_at after id ≡ sight_at rows id
            → option_map sight_of (if b then Some r else row_at id after) ≡ option_map sight_of (if b then Some r else row_at id rows)
        by_test true same = refl
        by_test false same = same

-- another row of the same guest and window, which looks the same, leaves a scene settled and its layers as they are
module _ (sizes : Sizes) (scene : Scene) (guest : ℕ) (row new : Row) (is : AreListed scene)
    (here : row_with row.window (mine guest scene.rows) ≡ Some row) (alike : sight_of (of_guest guest new) ≡ sight_of row) where
  -- the rows look the same
  looks : LookSame scene.rows (changed guest (Replaced new) scene.rows)
  looks =
      replaced-looks guest row new scene.rows
      (ap (λ w. row_at (the guest w) scene.rows) (ap (λ (s : Sight). s.id.window) alike) ∙ sym (row_with-mine guest row.window scene.rows) ∙ here) alike

  -- the layers stay
  pub redrawn-layers : followed (changed guest (Replaced new) scene.rows) scene.layers ≡ scene.layers
  redrawn-layers =
      followed-same (changed guest (Replaced new) scene.rows) scene.layers
      (layers-look scene.rows (changed guest (Replaced new) scene.rows) looks scene.layers is.apart
      (ap are_apart (replaced-ids guest new scene.rows) ∙ is.apart) is.lists)

  -- what was settled stays so
  pub settled-redrawn : IsSettled sizes scene → IsSettled sizes (with_rows (changed guest (Replaced new) scene.rows) scene)
  settled-redrawn still =
      alike-settled sizes scene (with_rows (changed guest (Replaced new) scene.rows) scene)
      (record { rows = looks; layers = redrawn-layers; pointer = refl; grab = refl; focus = refl; hover = refl }) still

-- the row that is found is the guest's
found-guest : (window guest : ℕ) (rows : List Row) (row : Row) → row_with window (mine guest rows) ≡ Some row → row.guest ≡ guest
found-guest window guest rows row is = ap (λ (id : RowId). id.guest) (row_at-id (the guest window) rows row (sym (row_with-mine guest window rows) ∙ is))

-- a unit that reads pixels of a row leaves the scene settled, and its layers as they are
module _ (setup : Setup) (guest : ℕ) (unit : StreamUnit) (desk : DeskState) (row : Row) (area : Area) (is : AreListed desk.scene)
    (reads : verdict (sizes_of setup) guest (session_of guest desk).minor (mine guest desk.scene.rows) unit ≡ Reads row area) where
  -- the row is the one of the unit's window
  own : row_with (window_of_unit unit) (mine guest desk.scene.rows) ≡ Some row
  own =
      subst (IsOfOne (window_of_unit unit) (mine guest desk.scene.rows)) reads
      (of_unit (sizes_of setup) guest (session_of guest desk).minor (mine guest desk.scene.rows) unit)

  -- it is found by its own window
  here : row_with row.window (mine guest desk.scene.rows) ≡ Some row
  here = ap (λ w. row_with w (mine guest desk.scene.rows)) (found-window (window_of_unit unit) (mine guest desk.scene.rows) row own) ∙ own

  -- the row as it is drawn
  abbrev drawn : Row
  drawn = drawn_row row area (load_all (session_of guest desk).port (frame_places row.dump (points area))).words

  -- it looks the same
  looks-drawn : sight_of (of_guest guest drawn) ≡ sight_of row
  looks-drawn = ap (λ n. sight_of (of_guest n row)) (sym (found-guest row.window guest desk.scene.rows row here))

  -- what becomes of the scene, by the effect
  told-by : (v : Verdict) → verdict (sizes_of setup) guest (session_of guest desk).minor (mine guest desk.scene.rows) unit ≡ v
      → (unit_told (sizes_of setup).clip_limit guest unit (unit_effect setup guest unit desk) desk.scene).scene ≡ (unit_told (sizes_of setup).clip_limit guest unit (effect_of guest desk v) desk.scene).scene
  told-by v e = ap (λ (w : Verdict). (unit_told (sizes_of setup).clip_limit guest unit (effect_of guest desk w) desk.scene).scene) e

  -- the layers stay
  pub read-layers : (unit_told (sizes_of setup).clip_limit guest unit (unit_effect setup guest unit desk) desk.scene).scene.layers ≡ desk.scene.layers
  read-layers = ap (λ (s : Scene). s.layers) (told-by (Reads row area) reads) ∙ redrawn-layers (sizes_of setup) desk.scene guest row drawn is here looks-drawn

  -- what was settled stays so
  pub settled-read : IsSettled (sizes_of setup) desk.scene → IsSettled (sizes_of setup) (unit_told (sizes_of setup).clip_limit guest unit (unit_effect setup guest unit desk) desk.scene).scene
  settled-read still =
      let after : Scene = with_rows (changed guest (Replaced drawn) desk.scene.rows) desk.scene in
      let drawn-settled : IsSettled (sizes_of setup) after = settled-redrawn (sizes_of setup) desk.scene guest row drawn is here looks-drawn still in
      let clip : IsSettled (sizes_of setup) (unit_told (sizes_of setup).clip_limit guest unit (effect_of guest desk (Reads row area)) desk.scene).scene =
      same-settled (sizes_of setup) after (unit_told (sizes_of setup).clip_limit guest unit (effect_of guest desk (Reads row area)) desk.scene).scene refl refl refl drawn-settled in
      subst (λ (s : Scene). IsSettled (sizes_of setup) s) (sym (told-by (Reads row area) reads)) clip

-- ---- what the user does

-- an event that changes no row, and the layers and the seat no more than this
module _ (denied : List Pair) (sizes : Sizes) (scene : Scene) (r : InputOutcome) (calm : IsCalm scene r) where
  -- the scene is settled where it is so before the deliveries
  calm-settled : IsSettled sizes (scene_of_input r scene) → IsSettled sizes (perform denied r scene).scene
  calm-settled still =
      same-settled sizes (scene_of_input r scene) (perform denied r scene).scene
      (all-rows denied r.deliveries (scene_of_input r scene) calm.quiet)
      (all-layers denied r.deliveries (scene_of_input r scene) calm.quiet calm.follow)
      (all-seat denied r.deliveries (scene_of_input r scene)) still

-- the same layers, and the same seat but for its pressed keys
record LeavesSeat (scene : Scene) (r : InputOutcome) : Type 0 where
  layers : r.layers ≡ scene.layers
  pointer : r.seat.pointer ≡ scene.seat.pointer
  grab : r.seat.grab ≡ scene.seat.grab
  focus : r.seat.focus ≡ scene.seat.focus
  hover : r.seat.hover ≡ scene.seat.hover

-- what was settled stays so
leaves-seat : (sizes : Sizes) (scene : Scene) (r : InputOutcome) → LeavesSeat scene r → IsSettled sizes scene → IsSettled sizes (scene_of_input r scene)
leaves-seat sizes scene r same still =
    alike-settled sizes scene (scene_of_input r scene)
    (record { rows = λ id. refl; layers = same.layers; pointer = same.pointer; grab = same.grab; focus = same.focus; hover = same.hover }) still

-- a key changes the pressed keys alone
key-leaves : (scene : Scene) (o : Option RowId) (down : Bool) (code state : ℕ) → LeavesSeat scene (key_by o down code state scene)
key-leaves scene None down code state = record { layers = refl; pointer = refl; grab = refl; focus = refl; hover = refl }
key-leaves scene (Some id) down code state = by_chord (down && (is_chord state && code == 54)) (down && (is_chord state && code == 55))
  where
    same : (keys : List ℕ) (ds : List Delivery) → LeavesSeat scene (with_deliveries scene (record scene.seat { pressed_keys = keys }) ds)
    same keys ds = record { layers = refl; pointer = refl; grab = refl; focus = refl; hover = refl }

    by_noted : (b : Bool) → LeavesSeat scene (if b
        then with_deliveries scene (with_pressed_keys (released code) scene.seat) (Grants id (g.Key id.window false code state) ∷ [])
        else ignored scene)
    by_noted true = same (released code scene.seat.pressed_keys) (Grants id (g.Key id.window false code state) ∷ [])
    by_noted false = same scene.seat.pressed_keys []

    by_down : (b : Bool) → LeavesSeat scene (plain_key id b code state scene)
    by_down true = same (held code scene.seat.pressed_keys) (Grants id (g.Key id.window true code state) ∷ [])
    by_down false = by_noted (is_among code scene.seat.pressed_keys)

    by_chord : (a b : Bool) → LeavesSeat scene (if a then with_deliveries scene scene.seat (Asks id ∷ [])
        else if b then with_deliveries scene scene.seat (Pastes id ∷ []) else plain_key id down code state scene)
    by_chord true b = same scene.seat.pressed_keys (Asks id ∷ [])
    by_chord false true = same scene.seat.pressed_keys (Pastes id ∷ [])
    by_chord false false = by_down down

module _ (setup : Setup) (scene : Scene) (follow : LayersFollow scene.rows scene.layers) (still : IsSettled (sizes_of setup) scene) where
  -- a key leaves a scene settled
  pub key-settled : (down : Bool) (code state : ℕ) → IsSettled (sizes_of setup) (perform setup.denied (route setup (item.Key down code state) scene) scene).scene
  key-settled down code state =
      calm-settled setup.denied (sizes_of setup) scene (key_by (focus_now scene) down code state scene) (calm-key scene follow (focus_now scene) down code state)
      (leaves-seat (sizes_of setup) scene (key_by (focus_now scene) down code state scene) (key-leaves scene (focus_now scene) down code state) still)

  -- so does a move in which the hover stays
  pub moved-settled : (x y : ℤ) (state : ℕ)
      → same_id (hover_now (sizes_of setup) scene) (hover_now (sizes_of setup) (record scene { seat = with_pointer (record { x = x; y = y }) scene.seat })) ≡ true
      → IsSettled (sizes_of setup) (perform setup.denied (route setup (item.Move x y state) scene) scene).scene
  moved-settled x y state stays =
      calm-settled setup.denied (sizes_of setup) scene (move setup p state scene) (calm-move scene follow setup p state) (by_place (is_in_output setup.outputs p))
    where
      p : Point
      p = record { x = x; y = y }

      there : Scene
      there = in_seat (with_pointer p scene.seat) scene

      by_place : (b : Bool) → IsSettled (sizes_of setup) (scene_of_input (if b
          then with_deliveries scene (with_pointer p scene.seat) (moves (sizes_of setup) state (hover_now (sizes_of setup) scene) there)
          else ignored scene) scene)
      by_place true = record {
        grab = still.grab;
        focus = still.focus;
        hover = still.hover ∙ same_id-is (hover_now (sizes_of setup) scene) (hover_now (sizes_of setup) there) stays;
      }
      by_place false = still
