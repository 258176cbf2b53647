-- The rows of a scene that are found by the spots alone.
use Rattle.std.proofs.Common.{◌≡◌, ℕ, Bool, true, false, ◌&&◌, not, ◌==◌, List, [], ◌∷◌, ◌++◌, map, Option, Some, None, refl, sym, ◌∙◌, ap}
use Rattle.std.specs.Prelude.{filter_map, find, option_map, option_and_then, IfSome, if◌then◌else◌}
use Rattle.std.specs.List.{cons_option}
use Rattle.std.proofs.lemmas.Bool.{and_parts, eqb-true}
use Rattle.gui_num.specs.declared.Point.{Point}
use Rattle.gui_num.specs.Rects.{has}
use Rattle.desk_laws.specs.declared.row_id.RowId.{RowId}
use Rattle.desk_laws.specs.Rows.{Row, id_of, is_row, row_at, is_shown, is_hidden, outer}
use Rattle.desk_laws.specs.Layers.{are_apart, or_else, last_that, topmost, focus_of}
use Rattle.desk_laws.specs.Events.{listed}
use Rattle.desk_laws.specs.Following.{LayersFollow}
use Rattle.desk_laws.specs.Scene.{Scene}
use Rattle.desk_laws.proofs.FollowLemmas.{focus-has, is_listed, passes as is_there}
use Rattle.input_router.specs.declared.walks.Wanted.TheVariants.{Normal, Hidden}
use Rattle.input_router.specs.Commanded.{with_place, place_in}
use Rattle.input_router.specs.Routes.{AreMapped}
use Rattle.input_router.specs.Spots.{Spot, spot_of, Shows, is_under}
use Rattle.input_router.specs.Walks.{is_wanted, top_of, last_wanted, first_wanted}
use Rattle.input_router.proofs.WalkLemmas.{last-reverse, last-same}

-- whether a row is there and passes
abbrev pub passes : (Row → Bool) → Option Row → Bool
passes test None = false
passes test (Some row) = test row

-- a row that is found under an id has it
pub row-id : (id : RowId) (rows : List Row) (row : Row) → row_at id rows ≡ Some row → id_of row ≡ id
row-id id [] row found = absurd (cc)
row-id id (x ∷ rows) row found = by_test (is_row id.guest id.window x) refl (λ f. row-id id rows row f) found
  where
    at : ℕ → ℕ → RowId
    at guest window = record { guest = guest; window = window }

    by_test : (b : Bool) → is_row id.guest id.window x ≡ b → (row_at id rows ≡ Some row → id_of row ≡ id) → (if b then Some x else row_at id rows) ≡ Some row → id_of row ≡ id
    by_test true e others f =
        let first : x ≡ row = cc in
        let parts = and_parts (x.guest == id.guest) (x.window == id.window) e in
        ap id_of (sym first) ∙ ap (λ g. at g x.window) (eqb-true x.guest id.guest parts.0) ∙ ap (λ w. at id.guest w) (eqb-true x.window id.window parts.1)
    by_test false e others f = others f

-- ---- searches over the rows of a list of ids

module _ (rows : List Row) (test : Row → Bool) (q : RowId → Bool) (same : (id : RowId) → q id ≡ passes test (row_at id rows)) where
  -- the row of an id, where it passes
  one : (id : RowId) (o : Option Row) → row_at id rows ≡ o
      → option_and_then (λ i. row_at i rows) (if q id then Some id else None) ≡ last_that test (cons_option o [])
  one id None e = ap (λ b. option_and_then (λ i. row_at i rows) (if b then Some id else None)) (same id ∙ ap (passes test) e)
  one id (Some row) e =
      ap (λ b. option_and_then (λ i. row_at i rows) (if b then Some id else None)) (same id ∙ ap (passes test) e)
      ∙ by_test (test row)
    where
      by_test : (b : Bool) → option_and_then (λ i. row_at i rows) (if b then Some id else None) ≡ (if b then Some row else None)
      by_test true = e
      by_test false = refl

  -- one row in front
  front : (o : Option Row) (found : List Row) → last_that test (cons_option o found) ≡ or_else (last_that test found) (last_that test (cons_option o []))
  front None found = or_none (last_that test found)
    where
      or_none : (r : Option Row) → r ≡ or_else r None
      or_none None = refl
      or_none (Some r) = refl
  front (Some row) found = refl

  -- the first of two ids that are there
  either : (a b : Option RowId) → ((id : RowId) → a ≡ Some id → (row : Row) × (row_at id rows ≡ Some row))
      → option_and_then (λ i. row_at i rows) (or_else a b) ≡ or_else (option_and_then (λ i. row_at i rows) a) (option_and_then (λ i. row_at i rows) b)
  either None b there = refl
  either (Some id) b there =
      let at = there id refl in
      at.1 ∙ sym (ap (λ o. or_else o (option_and_then (λ i. row_at i rows) b)) at.1)

  -- an id that passes has a row
  pub has-row : (id : RowId) → q id ≡ true → (row : Row) × (row_at id rows ≡ Some row)
  has-row id is = by_row (row_at id rows) refl (sym (same id) ∙ is)
    where
      by_row : (o : Option Row) → row_at id rows ≡ o → passes test o ≡ true → (row : Row) × (row_at id rows ≡ Some row)
      by_row None e h = absurd (cc)
      by_row (Some row) e h = (row, e)

  -- the last id passes
  pub last-passes : (ids : List RowId) (id : RowId) → last_that q ids ≡ Some id → q id ≡ true
  last-passes [] id e = absurd (cc)
  last-passes (x ∷ ids) id e = by_rest (last_that q ids) (q x) refl (λ h. last-passes ids id h) e
    where
      by_rest : (o : Option RowId) (b : Bool) → q x ≡ b → (o ≡ Some id → q id ≡ true) → or_else o (if b then Some x else None) ≡ Some id → q id ≡ true
      by_rest (Some y) b t rest h = rest h
      by_rest None true t rest h = let first : x ≡ id = cc in sym (ap q first) ∙ t
      by_rest None false t rest h = absurd (cc)

  -- the last row that passes is the row of the last id that passes
  pub last-row : (ids : List RowId) → last_that test (filter_map (λ id. row_at id rows) ids) ≡ option_and_then (λ id. row_at id rows) (last_that q ids)
  last-row [] = refl
  last-row (id ∷ ids) =
      front (row_at id rows) (filter_map (λ i. row_at i rows) ids)
      ∙ ap (λ o. or_else o (last_that test (cons_option (row_at id rows) []))) (last-row ids)
      ∙ ap (or_else (option_and_then (λ i. row_at i rows) (last_that q ids))) (sym (one id (row_at id rows) refl))
      ∙ sym (either (last_that q ids) (if q id then Some id else None) (λ i e. has-row i (last-passes ids i e)))

  -- and so has this id
  pub last-id : (ids : List RowId) → option_map id_of (last_that test (filter_map (λ id. row_at id rows) ids)) ≡ last_that q ids
  last-id ids = ap (option_map id_of) (last-row ids) ∙ by_found (last_that q ids) (λ id e. has-row id (last-passes ids id e))
    where
      by_found : (o : Option RowId) → ((id : RowId) → o ≡ Some id → (row : Row) × (row_at id rows ≡ Some row)) → option_map id_of (option_and_then (λ id. row_at id rows) o) ≡ o
      by_found None there = refl
      by_found (Some id) there =
          let at = there id refl in
          ap (option_map id_of) at.1 ∙ ap Some (row-id id rows at.0 at.1)

  -- the first row that passes has the first id that passes
  pub first-id : (ids : List RowId) → option_map id_of (find test (filter_map (λ id. row_at id rows) ids)) ≡ find q ids
  first-id [] = refl
  first-id (id ∷ ids) = by_row (row_at id rows) refl (first-id ids)
    where
      rest : List Row
      rest = filter_map (λ i. row_at i rows) ids

      by_row : (o : Option Row) → row_at id rows ≡ o → option_map id_of (find test rest) ≡ find q ids
          → option_map id_of (find test (cons_option o rest)) ≡ (if q id then Some id else find q ids)
      by_row None e ih = ih ∙ sym (ap (λ b. if b then Some id else find q ids) (same id ∙ ap (passes test) e))
      by_row (Some row) e ih =
          by_test (test row) ∙ sym (ap (λ b. if b then Some id else find q ids) (same id ∙ ap (passes test) e))
        where
          by_test : (b : Bool) → option_map id_of (if b then Some row else find test rest) ≡ (if b then Some id else find q ids)
          by_test true = ap Some (row-id id rows row e)
          by_test false = ih

-- ---- the stack and the focus list of a scene

module _ (border : ℕ) (spots : RowId → Option Spot) (scene : Scene) (shows : Shows border spots scene) where
  under-same : (p : Point) (id : RowId) → is_under p (spots id) ≡ passes (λ row. is_shown row && has (outer border row) p) (row_at id scene.rows)
  under-same p id = ap (is_under p) (shows id) ∙ by_row (row_at id scene.rows)
    where
      by_row : (o : Option Row) → is_under p (option_map (spot_of border) o) ≡ passes (λ row. is_shown row && has (outer border row) p) o
      by_row None = refl
      by_row (Some row) = refl

  normal-same : (id : RowId) → is_wanted Normal (spots id) ≡ passes (λ row. is_shown row && not row.over) (row_at id scene.rows)
  normal-same id = ap (is_wanted Normal) (shows id) ∙ by_row (row_at id scene.rows)
    where
      by_row : (o : Option Row) → is_wanted Normal (option_map (spot_of border) o) ≡ passes (λ row. is_shown row && not row.over) o
      by_row None = refl
      by_row (Some row) = refl

  -- the topmost row
  pub top-row : (p : Point) → topmost border scene.rows scene.layers p ≡ option_and_then (λ id. row_at id scene.rows) (top_of spots scene.layers p)
  top-row p =
      last-row scene.rows (λ row. is_shown row && has (outer border row) p) (λ id. is_under p (spots id)) (under-same p) (scene.layers.normal ++ scene.layers.over)
      ∙ ap (option_and_then (λ id. row_at id scene.rows)) (last-reverse (λ id. is_under p (spots id)) (scene.layers.normal ++ scene.layers.over))

  -- the row that has the focus
  pub focus-row : focus_of scene.rows scene.layers ≡ option_and_then (λ id. row_at id scene.rows) (last_wanted Normal spots scene.layers)
  focus-row = last-row scene.rows (λ row. is_shown row && not row.over) (λ id. is_wanted Normal (spots id)) normal-same scene.layers.focus

  pub focus-id : option_map id_of (focus_of scene.rows scene.layers) ≡ last_wanted Normal spots scene.layers
  focus-id = last-id scene.rows (λ row. is_shown row && not row.over) (λ id. is_wanted Normal (spots id)) normal-same scene.layers.focus

  -- what is topmost has a row
  pub top-there : (p : Point) (id : RowId) → top_of spots scene.layers p ≡ Some id → (row : Row) × (row_at id scene.rows ≡ Some row)
  top-there p id found =
      let test : Row → Bool = λ row. is_shown row && has (outer border row) p in
      let q : RowId → Bool = λ id. is_under p (spots id) in
      let ids = scene.layers.normal ++ scene.layers.over in
      has-row scene.rows test q (under-same p) id (last-passes scene.rows test q (under-same p) ids id (last-reverse q ids ∙ found))

  -- the first row of the focus list that can have the focus
  pub next-id : option_map id_of (find (λ row. is_shown row && not row.over) (listed scene)) ≡ first_wanted Normal spots scene.layers
  next-id = first-id scene.rows (λ row. is_shown row && not row.over) (λ id. is_wanted Normal (spots id)) normal-same scene.layers.focus

  -- the last hidden row of the focus list
  pub hidden-id : AreMapped scene → option_map id_of (last_that is_hidden (listed scene)) ≡ last_wanted Hidden spots scene.layers
  hidden-id mapped =
      last-id scene.rows is_hidden (λ id. passes is_hidden (row_at id scene.rows)) (λ id. refl) scene.layers.focus
      ∙ last-same (λ id. passes is_hidden (row_at id scene.rows)) (λ id. is_wanted Hidden (spots id)) scene.layers.focus (λ id here. hidden-same id (mapped id here))
    where
      double : (b : Bool) → b ≡ not (not b)
      double true = refl
      double false = refl

      by_row : (o : Option Row) → IfSome o (λ row. row.mapped ≡ true) → passes is_hidden o ≡ is_wanted Hidden (option_map (spot_of border) o)
      by_row None is = refl
      by_row (Some row) is = double (is_hidden row) ∙ sym (ap (λ b. not (b && not (is_hidden row))) is)

      hidden-same : (id : RowId) → IfSome (row_at id scene.rows) (λ row. row.mapped ≡ true) → passes is_hidden (row_at id scene.rows) ≡ is_wanted Hidden (spots id)
      hidden-same id is = by_row (row_at id scene.rows) is ∙ ap (is_wanted Hidden) (sym (shows id))

  -- the row that has the focus, with its place
  pub focus-place : place_in spots (last_wanted Normal spots scene.layers) ≡ option_map (λ row. (id_of row, row.place)) (focus_of scene.rows scene.layers)
  focus-place =
      by_found (last_wanted Normal spots scene.layers) (λ id e. has-row scene.rows (λ row. is_shown row && not row.over) (λ i. is_wanted Normal (spots i)) normal-same id (last-passes scene.rows (λ row. is_shown row && not row.over) (λ i. is_wanted Normal (spots i)) normal-same scene.layers.focus id e))
      ∙ sym (ap (option_map (λ row. (id_of row, row.place))) focus-row)
    where
      by_found : (o : Option RowId) → ((id : RowId) → o ≡ Some id → (row : Row) × (row_at id scene.rows ≡ Some row))
          → place_in spots o ≡ option_map (λ row. (id_of row, row.place)) (option_and_then (λ id. row_at id scene.rows) o)
      by_found None there = refl
      by_found (Some id) there =
          let at = there id refl in
          ap (with_place id) (shows id) ∙ ap (λ r. with_place id (option_map (spot_of border) r)) at.1
          ∙ ap (λ (i : RowId). Some (i, at.0.place)) (sym (row-id id scene.rows at.0 at.1))
          ∙ sym (ap (option_map (λ row. (id_of row, row.place))) at.1)

-- where the lists follow the rows, those of the stack are mapped
pub listed-mapped : (scene : Scene) → are_apart (map id_of scene.rows) ≡ true → LayersFollow scene.rows scene.layers → AreMapped scene
listed-mapped scene apart follow = λ id here. by_row (row_at id scene.rows) (sym (focus-has scene.rows scene.layers apart follow id) ∙ here)
  where
    by_row : (o : Option Row) → is_there is_listed o ≡ true → IfSome o (λ row. row.mapped ≡ true)
    by_row None h = absurd (cc)
    by_row (Some row) h = h
