-- The painted panes of a desk are the picture of its rows.
use Rattle.std.proofs.Common.{◌≡◌, ℕ, zero, suc, ◌⊎◌, ◌<◌, ◌≤◌, Bool, true, false, ◌&&◌, ◌||◌, ◌==◌, List, [], ◌∷◌, ◌++◌, length, map, Option, Some, None, refl, sym, ◌∙◌, ap, subst, arith, inl, inr}
use Rattle.std.specs.List.{cons_option, find}
use Rattle.std.specs.Option.{option_or}
use Rattle.std.specs.Prelude.{filter_map, flat_map, option_map, reverse, slice_get, if◌then◌else◌, ◌-ℤ◌}
use Rattle.std.proofs.lemmas.Bool.{and_parts, cases_order, eqb-true}
use Rattle.std.proofs.lemmas.List.{get_or_past, map-append, reverse-append}
use Rattle.std.proofs.lemmas.List.Elements.{filter_map-append}
use Rattle.std.proofs.lemmas.List.Folds.{find-append, list_any-append}
use Rattle.std.proofs.lemmas.List.Sorted.{IsPermutation-reverse, list_any-IsPermutation}
use Rattle.std.proofs.lemmas.Option.{get_or_from_slice_get, none-some, slice_get_within}
use Rattle.gui_num.specs.declared.Point.{Point}
use Rattle.gui_num.specs.declared.Colour.{Colour}
use Rattle.gui_num.specs.declared.Rect.{Rect}
use Rattle.gui_num.specs.Rects as rects
use Rattle.gui_num.specs.Rects.{has, grown}
use Rattle.compositor.specs.Composed.{Pane, all_pixels, at_pixel, columns, pane_colour, shown_at}
use Rattle.compositor.specs.Composed as panes
use Rattle.desk_laws.specs.declared.row_id.RowId.{RowId}
use Rattle.desk_laws.specs.declared.setup.Setup.{Setup}
use Rattle.desk_laws.specs.Rows.{Row, content_at, is_row, is_shown, mine, outer, row_at, row_with, same_row, span}
use Rattle.desk_laws.specs.Layers.{Layers, id_from_top, is_in, last_that, or_else}
use Rattle.desk_laws.specs.Outputs.{is_in_output}
use Rattle.desk_laws.specs.Picture.{colour_by, colour_read, content_under, label_of, pixels}
use Rattle.desk_laws.specs.Frames.{PortState}
use Rattle.desk_laws.specs.State.{DeskState}
use Rattle.desk_laws.proofs.FollowChanges.{row_with-mine}
use Rattle.desk_laws.proofs.IdLemmas.{is_in-first, is_in-further}
use Rattle.desk_laws.proofs.FollowLemmas.{is_normal, is_over as is_override, normal-has, over-has, passes}
use Rattle.guest_session.specs.Reading.{content_in}
use Rattle.guest_session.specs.SessionView.{SessionView}
use Rattle.desk_core.specs.WindowsStand.{StandsWith}
use Rattle.desk_core.specs.WindowsView.{WindowsView, no_session}
use Rattle.desk_core.specs.ShownView.{ShownView}
use Rattle.desk_core.specs.Painting.{colour_in, plane}
use Rattle.desk_core.specs.Panes.{bordered, label_in, pane_of, rows_in, shown_row, shown_with, shown_of}

-- ---- all pixels

columns-span : (a n : ℕ) → columns a n ≡ span a n
columns-span a zero = refl
columns-span a (suc n) = ap (λ xs. a ∷ xs) (columns-span (suc a) n)

-- both lists of all pixels are one
same-pixels : (w h : ℕ) → all_pixels w h ≡ pixels 0 0 w h
same-pixels w h =
    ap (λ (ys : List ℕ). flat_map (λ j. map (λ i. at_pixel i j) (columns 0 w)) ys) (columns-span 0 h)
    ∙ ap (λ (xs : List ℕ). flat_map (λ j. map (λ i. at_pixel i j) xs) (span 0 h)) (columns-span 0 w)

map-agree : {X : Type 0} (f g : X → ℕ) → ((x : X) → f x ≡ g x) → (xs : List X) → map f xs ≡ map g xs
map-agree f g same [] = refl
map-agree f g same (x ∷ xs) = ap (λ y. y ∷ map f xs) (same x) ∙ ap (λ ys. g x ∷ ys) (map-agree f g same xs)

-- ---- one window

or-grey : (o : Option ℕ) → panes.colour_or 0x808080 (option_map (λ c. record { 0 = c }) o) ≡ colour_read o
or-grey None = refl
or-grey (Some c) = refl

-- a row that is found under an id is of its guest
found-guest : (id : RowId) (rows : List Row) (row : Row) → row_at id rows ≡ Some row → row.guest ≡ id.guest
found-guest id [] row found = absurd (cc)
found-guest id (x ∷ rows) row found = by_test (is_row id.guest id.window x) refl (λ f. found-guest id rows row f) found
  where
    by_test : (b : Bool) → is_row id.guest id.window x ≡ b → (row_at id rows ≡ Some row → row.guest ≡ id.guest) → (if b then Some x else row_at id rows) ≡ Some row → row.guest ≡ id.guest
    by_test true e others f =
        let first : x ≡ row = cc in
        ap (λ (r : Row). r.guest) (sym first) ∙ eqb-true x.guest id.guest (and_parts (x.guest == id.guest) (x.window == id.window) e).0
    by_test false e others f = others f

-- a pane and a row have the same colour at a pixel, or both are none
abbrev Agree : Setup → Point → Option Pane → Option Row → Type 0
Agree setup p None None = Unit {0}
Agree setup p None (Some row) = ⊥
Agree setup p (Some pane) None = ⊥
Agree setup p (Some pane) (Some row) = pane_colour pane p ≡ colour_by setup (Some row) p

agree-or : (setup : Setup) (p : Point) (a b : Option Pane) (c d : Option Row) → Agree setup p a c → Agree setup p b d → Agree setup p (option_or a b) (or_else c d)
agree-or setup p None b None d one two = two
agree-or setup p None b (Some row) d one two = absurd one
agree-or setup p (Some pane) b None d one two = absurd one
agree-or setup p (Some pane) b (Some row) d one two = one

agree-colour : (setup : Setup) (p : Point) (a : Option Pane) (c : Option Row) → Agree setup p a c → panes.colour_by setup.background.0 a p ≡ colour_by setup c p
agree-colour setup p None None is = refl
agree-colour setup p None (Some row) is = absurd is
agree-colour setup p (Some pane) None is = absurd is
agree-colour setup p (Some pane) (Some row) is = is

-- ---- the stack

or-none : {X : Type 0} (o : Option X) → o ≡ or_else o None
or-none None = refl
or-none (Some x) = refl

-- a member more below the others
last-first : {X : Type 0} (test : X → Bool) (o : Option X) (xs : List X) → last_that test (cons_option o xs) ≡ or_else (last_that test xs) (last_that test (cons_option o []))
last-first test None xs = or-none (last_that test xs)
last-first test (Some x) xs = refl

-- whether a pane has the pixel
abbrev takes : Point → Pane → Bool
takes p pane = has pane.view.outer p

-- whether a row is shown and has the pixel
abbrev is_over : Setup → Point → Row → Bool
is_over setup p row = is_shown row && has (outer setup.border row) p

module _ (setup : Setup) (border : ℕ) (labels : List Colour) (sessions : List SessionView) (rows : List Row) (wide : border ≡ setup.border)
    (same : (id : RowId) → row_with id.window (rows_in sessions id.guest) ≡ row_at id rows)
    (told : (id : RowId) (row : Row) → row_at id rows ≡ Some row → label_in labels id.guest ≡ record { 0 = label_of setup id.guest }) where
  -- the shown window of an id, and its pane
  abbrev shown : RowId → Option ShownView
  shown = shown_with border labels sessions

  abbrev pane : ShownView → Pane
  pane = pane_of sessions

  -- the colour of a shown window
  window-colour : (id : RowId) (row : Row) (p : Point) → row_at id rows ≡ Some row
      → pane_colour (pane (bordered border (label_in labels id.guest) id row.place)) p ≡ colour_by setup (Some row) p
  window-colour id row p found =
      let x = p.x -ℤ row.place.x in
      let y = p.y -ℤ row.place.y in
      let content : panes.content_under (pane (bordered border (label_in labels id.guest) id row.place)) p ≡ colour_read (content_under row p) =
      ap (λ o. panes.colour_or 0x808080 (option_map (λ c. record { 0 = c }) (content_in o (rects.nat_of x) (rects.nat_of y)))) (same id ∙ found)
      ∙ or-grey (content_at row (rects.nat_of x) (rects.nat_of y)) in
      let ring : (label_in labels id.guest).0 ≡ label_of setup row.guest =
      ap (λ (c : Colour). c.0) (told id row found) ∙ ap (label_of setup) (sym (found-guest id rows row found)) in
      ap (λ c. if has row.place p then c else (label_in labels id.guest).0) content
      ∙ ap (λ c. if has row.place p then colour_read (content_under row p) else c) ring

  -- one id
  one-agrees : (id : RowId) (p : Point) (o : Option Row) → row_at id rows ≡ o
      → Agree setup p (find (takes p) (map pane (cons_option (shown_row border (label_in labels id.guest) id o) []))) (last_that (is_over setup p) (cons_option o []))
  one-agrees id p None found = tt
  one-agrees id p (Some row) found = by_shown (is_shown row)
    where
      view : ShownView
      view = bordered border (label_in labels id.guest) id row.place

      by_has : (h k : Bool) → h ≡ k → Agree setup p (if h then Some (pane view) else None) (if k then Some row else None)
      by_has true true e = window-colour id row p found
      by_has false false e = tt
      by_has true false e = absurd (cc)
      by_has false true e = absurd (cc)

      by_shown : (s : Bool) → Agree setup p (find (takes p) (map pane (cons_option (if s then Some view else None) []))) (if s && has (grown row.place setup.border) p then Some row else None)
      by_shown false = tt
      by_shown true = by_has (has (grown row.place border) p) (has (grown row.place setup.border) p) (ap (λ b. has (grown row.place b) p) wide)

  -- all ids
  agree : (p : Point) (ids : List RowId) → Agree setup p (find (takes p) (map pane (filter_map shown (reverse ids)))) (last_that (is_over setup p) (filter_map (λ id. row_at id rows) ids))
  agree p [] = tt
  agree p (id ∷ ids) =
      let above = find (takes p) (map pane (filter_map shown (reverse ids))) in
      let over = last_that (is_over setup p) (filter_map (λ i. row_at i rows) ids) in
      let pane-last : find (takes p) (map pane (filter_map shown (reverse (id ∷ ids)))) ≡ option_or above (find (takes p) (map pane (cons_option (shown id) []))) =
      ap (λ is. find (takes p) (map pane (filter_map shown is))) (reverse-append (id ∷ []) ids)
      ∙ ap (λ vs. find (takes p) (map pane vs)) (filter_map-append shown (reverse ids) (id ∷ []))
      ∙ ap (find (takes p)) (map-append pane (filter_map shown (reverse ids)) (cons_option (shown id) []))
      ∙ find-append (takes p) (map pane (filter_map shown (reverse ids))) (map pane (cons_option (shown id) [])) in
      let one : Agree setup p (find (takes p) (map pane (cons_option (shown id) []))) (last_that (is_over setup p) (cons_option (row_at id rows) [])) =
      subst (λ o. Agree setup p (find (takes p) (map pane (cons_option (shown_row border (label_in labels id.guest) id o) []))) (last_that (is_over setup p) (cons_option (row_at id rows) [])))
      (sym (same id)) (one-agrees id p (row_at id rows) refl) in
      subst (λ a. Agree setup p a (last_that (is_over setup p) (filter_map (λ i. row_at i rows) (id ∷ ids)))) (sym pane-last)
      (subst (λ c. Agree setup p (option_or above (find (takes p) (map pane (cons_option (shown id) [])))) c)
      (sym (last-first (is_over setup p) (row_at id rows) (filter_map (λ i. row_at i rows) ids)))
      (agree-or setup p above _ over _ (agree p ids) one))

  pub painted-is : (layers : Layers) (w h : ℕ)
      → map (shown_at setup.background.0 (map pane (shown_of border labels sessions layers)) setup.outputs) (all_pixels w h) ≡ map (colour_in setup rows layers) (pixels 0 0 w h)
  painted-is layers w h =
      map-agree _ _ (λ p. ap (λ (c : ℕ). if is_in_output setup.outputs p then c else 0) (agree-colour setup p _ _ (agree p (layers.normal ++ layers.over)))) (all_pixels w h)
      ∙ ap (map (colour_in setup rows layers)) (same-pixels w h)

-- ---- a desk that stands for a state

or-past : (g n : ℕ) → (g < n) ⊎ (n ≤ g)
or-past g n = elim (cases_order g n) [
  | inl e ↦ inr (omega arith)
  | inr (inl lt) ↦ inl lt
  | inr (inr gt) ↦ inr (omega arith)
]

in-at : (ids : List RowId) (k : ℕ) (id : RowId) → slice_get ids k ≡ Some id → is_in ids id ≡ true
in-at [] k id at = absurd (none-some id at)
in-at (x ∷ ids) zero id at = let first : x ≡ id = cc in ap (λ i. same_row id i || is_in ids id) first ∙ is_in-first id ids
in-at (x ∷ ids) (suc k) id at = is_in-further x id ids (in-at ids k id at)

module _ (setup : Setup) (held : ℕ → List ℕ) (desk : WindowsView) (frames : ℕ → PortState) (state : DeskState) (stands : StandsWith setup held desk frames state) where
  abbrev rows : List Row
  rows = state.scene.rows

  mine-at : (id : RowId) → row_with id.window (mine id.guest rows) ≡ row_at id rows
  mine-at id = row_with-mine id.guest id.window rows

  -- a window of a session is a row of its guest
  same-row : (id : RowId) → row_with id.window (rows_in desk.sessions id.guest) ≡ row_at id rows
  same-row id = elim (or-past id.guest (length setup.guests)) [
    | inl below ↦ ap (row_with id.window) (sym (stands.parts id.guest below).rows) ∙ mine-at id
    | inr past ↦
        let long : length desk.sessions ≤ id.guest = omega (arith, stands.numbers.guests, past) in
        ap (λ (s : SessionView). row_with id.window s.rows) (get_or_past desk.sessions id.guest no_session long)
        ∙ sym (ap (row_with id.window) (stands.known id.guest past)) ∙ mine-at id
  ]

  -- a row is of a guest that is there
  row-there : (id : RowId) (row : Row) → row_at id rows ≡ Some row → id.guest < length setup.guests
  row-there id row found = elim (or-past id.guest (length setup.guests)) [
    | inl below ↦ below
    | inr past ↦ absurd (none-some row (sym (ap (row_with id.window) (stands.known id.guest past)) ∙ mine-at id ∙ found))
  ]

  -- and has its label colour
  label-told : (id : RowId) (row : Row) → row_at id rows ≡ Some row → label_in desk.labels id.guest ≡ record { 0 = label_of setup id.guest }
  label-told id row found =
      get_or_from_slice_get desk.labels id.guest (record { 0 = label_of setup id.guest }) (record { 0 = 0 }) (stands.numbers.labels id.guest (row-there id row found))

  -- an id of the layers has a row, so it is of a guest that is there
  pub layer-there : (k : ℕ) (id : RowId) → id_from_top desk.layers k ≡ Some id → id.guest < length setup.guests
  layer-there k id at =
      let normal = desk.layers.normal in
      let over = desk.layers.over in
      let part = stands.parts 0 (omega (arith, stands.numbers.some)) in
      let here : (is_in normal id || is_in over id) ≡ true =
      sym (list_any-append (same_row id) normal over)
      ∙ list_any-IsPermutation (same_row id) (normal ++ over) (reverse (normal ++ over)) (IsPermutation-reverse (normal ++ over))
      ∙ in-at (reverse (normal ++ over)) k id at in
      by_row (row_at id rows) refl
      (sym (ap (λ b. b || is_in over id) (normal-has rows desk.layers part.apart part.followed id)
      ∙ ap (λ b. passes is_normal (row_at id rows) || b) (over-has rows desk.layers part.apart part.followed id)) ∙ here)
    where
      by_row : (o : Option Row) → row_at id rows ≡ o → (passes is_normal o || passes is_override o) ≡ true → id.guest < length setup.guests
      by_row None found here = absurd (cc)
      by_row (Some row) found here = row-there id row found

  -- and has a label
  pub label-there : (k : ℕ) (id : RowId) → id_from_top desk.layers k ≡ Some id → id.guest < length desk.labels
  label-there k id at =
      slice_get_within desk.labels id.guest (record { 0 = label_of setup id.guest }) (stands.numbers.labels id.guest (layer-there k id at))

  -- what is painted is the plane
  pub desk-painted : (colours : List ℕ)
      → colours ≡ map (shown_at desk.picture.background (map (pane_of desk.sessions) (shown_of desk.border desk.labels desk.sessions desk.layers)) desk.picture.outputs) (all_pixels desk.picture.width desk.picture.height)
      → colours ≡ plane setup rows state.scene.layers
  desk-painted colours is =
      let w = desk.picture.width in
      let h = desk.picture.height in
      let panes = map (pane_of desk.sessions) (shown_of desk.border desk.labels desk.sessions desk.layers) in
      let part = stands.parts 0 (omega (arith, stands.numbers.some)) in
      is
      ∙ ap (λ b. map (shown_at b panes desk.picture.outputs) (all_pixels w h)) stands.numbers.background
      ∙ ap (λ (os : List Rect). map (shown_at setup.background.0 panes os) (all_pixels w h)) stands.numbers.outputs
      ∙ painted-is setup desk.border desk.labels desk.sessions rows stands.numbers.border same-row label-told desk.layers w h
      ∙ ap (λ (l : Layers). map (colour_in setup rows l) (pixels 0 0 w h)) (sym part.layers)
      ∙ ap (λ n. map (colour_in setup rows state.scene.layers) (pixels 0 0 n h)) stands.numbers.width
      ∙ ap (λ n. map (colour_in setup rows state.scene.layers) (pixels 0 0 setup.width n)) stands.numbers.height
