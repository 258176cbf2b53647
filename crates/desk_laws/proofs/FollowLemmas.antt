-- The lists of the layers follow a change of one window's row, and the end of a session.
use Rattle.std.proofs.Common.{◌≡◌, Bool, true, false, ◌&&◌, ◌||◌, not, List, [], ◌∷◌, ◌++◌, map, Option, Some, None, refl, sym, ◌∙◌, ap, arith, length-append}
use Rattle.std.specs.Prelude.{filter, if◌then◌else◌}
use Rattle.std.proofs.lemmas.List.{append-nil}
use Rattle.std.proofs.lemmas.List.Folds.{list_any-append}
use Rattle.std.proofs.lemmas.Bool.{and_parts, or_parts, or_from, not-true}
use Rattle.std.proofs.lemmas.Bool.Decides.{nat_tests}
use Rattle.desk_laws.specs.declared.row_id.RowId.{RowId}
use Rattle.desk_laws.specs.Rows.{Row, id_of, same_row, is_row, row_at}
use Rattle.desk_laws.specs.Layers.{Layers, is_in, are_apart, HaveSame, HaveRowsOnce, layer_of, followed, without, entered, departed, relayered}
use Rattle.desk_laws.specs.Following.{LayersFollow, after_row, FollowsRow}
use Rattle.desk_laws.proofs.IdLemmas.{same_row-is, is_in-filter, filter-same, filter-whole, filter-empty, apart-filter, apart-append, apart-left, apart-right, without-out, only-one, length-same}

-- ---- rows by a test of whether they are mapped and in the override layer

-- a test of a row that asks only for this
abbrev pub Test : Type 0
Test = Bool → Bool → Bool

-- the ids of the rows that pass
abbrev pub ids_where : Test → List Row → List RowId
ids_where test rows = map id_of (filter (λ row. test row.mapped row.over) rows)

-- whether a row is there and passes
abbrev pub passes : Test → Option Row → Bool
passes test None = false
passes test (Some row) = test row.mapped row.over

-- in the normal layer, in the override layer, in the focus list
abbrev pub is_normal : Test
is_normal mapped over = mapped && not over

abbrev pub is_over : Test
is_over mapped over = mapped && over

abbrev pub is_listed : Test
is_listed mapped over = mapped

pub layer-normal : (rows : List Row) → map id_of (layer_of false rows) ≡ ids_where is_normal rows
layer-normal [] = refl
layer-normal (row ∷ rows) = by_tests row.mapped row.over (layer-normal rows)
  where
    by_tests : (m o : Bool) → map id_of (layer_of false rows) ≡ ids_where is_normal rows
        → map id_of (layer_of false (record row { mapped = m; over = o } ∷ rows)) ≡ ids_where is_normal (record row { mapped = m; over = o } ∷ rows)
    by_tests true true e = e
    by_tests true false e = ap (λ ids. id_of row ∷ ids) e
    by_tests false true e = e
    by_tests false false e = e

pub layer-over : (rows : List Row) → map id_of (layer_of true rows) ≡ ids_where is_over rows
layer-over [] = refl
layer-over (row ∷ rows) = by_tests row.mapped row.over (layer-over rows)
  where
    by_tests : (m o : Bool) → map id_of (layer_of true rows) ≡ ids_where is_over rows
        → map id_of (layer_of true (record row { mapped = m; over = o } ∷ rows)) ≡ ids_where is_over (record row { mapped = m; over = o } ∷ rows)
    by_tests true true e = ap (λ ids. id_of row ∷ ids) e
    by_tests true false e = e
    by_tests false true e = e
    by_tests false false e = e

-- ---- rows by their ids

-- the row of an id, one row after the other
pub is_row-same : (id : RowId) (row : Row) → is_row id.guest id.window row ≡ same_row id (id_of row)
is_row-same id row = grind (arith, nat_tests)

-- where no row has an id, no row that passes has it
rows-out : (p : Row → Bool) (rows : List Row) (id : RowId) → is_in (map id_of rows) id ≡ false → is_in (map id_of (filter p rows)) id ≡ false
rows-out p [] id out = refl
rows-out p (row ∷ rows) id out =
    let parts = or_parts (same_row id (id_of row)) (is_in (map id_of rows) id) out in
    by_test (p row) parts.0 (rows-out p rows id parts.1)
  where
    by_test : (b : Bool) → same_row id (id_of row) ≡ false → is_in (map id_of (filter p rows)) id ≡ false
        → is_in (map id_of (if b then row ∷ filter p rows else filter p rows)) id ≡ false
    by_test true first rest = or_from (same_row id (id_of row)) (is_in (map id_of (filter p rows)) id) first rest
    by_test false first rest = rest

-- the ids of the rows that pass, where no id stands twice
pub rows-apart : (p : Row → Bool) (rows : List Row) → are_apart (map id_of rows) ≡ true → are_apart (map id_of (filter p rows)) ≡ true
rows-apart p [] apart = refl
rows-apart p (row ∷ rows) apart =
    let parts = and_parts (not (is_in (map id_of rows) (id_of row))) (are_apart (map id_of rows)) apart in
    by_test (p row) (rows-out p rows (id_of row) (not-true (is_in (map id_of rows) (id_of row)) parts.0)) (rows-apart p rows parts.1)
  where
    by_test : (b : Bool) → is_in (map id_of (filter p rows)) (id_of row) ≡ false → are_apart (map id_of (filter p rows)) ≡ true
        → are_apart (map id_of (if b then row ∷ filter p rows else filter p rows)) ≡ true
    by_test true out rest = ap (λ v. not v && are_apart (map id_of (filter p rows))) out ∙ rest
    by_test false out rest = rest

abbrev ids-out : (test : Test) (rows : List Row) (id : RowId) → is_in (map id_of rows) id ≡ false → is_in (ids_where test rows) id ≡ false
ids-out test rows id out = rows-out (λ row. test row.mapped row.over) rows id out

abbrev pub ids-apart : (test : Test) (rows : List Row) → are_apart (map id_of rows) ≡ true → are_apart (ids_where test rows) ≡ true
ids-apart test rows apart = rows-apart (λ row. test row.mapped row.over) rows apart

-- an id is one of those where its row is there and passes
pub ids-have : (test : Test) (rows : List Row) (id : RowId) → are_apart (map id_of rows) ≡ true → is_in (ids_where test rows) id ≡ passes test (row_at id rows)
ids-have test [] id apart = refl
ids-have test (row ∷ rows) id apart =
    let parts = and_parts (not (is_in (map id_of rows) (id_of row))) (are_apart (map id_of rows)) apart in
    by_same (same_row id (id_of row)) (is_row id.guest id.window row) (test row.mapped row.over) refl (is_row-same id row) refl
    (not-true (is_in (map id_of rows) (id_of row)) parts.0) (ids-have test rows id parts.1)
  where
    by_same : (s r b : Bool) → same_row id (id_of row) ≡ s → r ≡ same_row id (id_of row) → test row.mapped row.over ≡ b
        → is_in (map id_of rows) (id_of row) ≡ false → is_in (ids_where test rows) id ≡ passes test (row_at id rows)
        → is_in (map id_of (if b then row ∷ filter (λ x. test x.mapped x.over) rows else filter (λ x. test x.mapped x.over) rows)) id
        ≡ passes test (if r then Some row else row_at id rows)
    by_same true false b e k t out ih = let no = k ∙ e in cc
    by_same false true b e k t out ih = let no = k ∙ e in cc
    by_same true true true e k t out ih = ap (λ v. v || is_in (ids_where test rows) id) e ∙ sym t
    by_same true true false e k t out ih =
        ids-out test rows id (ap (is_in (map id_of rows)) (same_row-is id (id_of row) e) ∙ out) ∙ sym t
    by_same false false true e k t out ih = ap (λ v. v || is_in (ids_where test rows) id) e ∙ ih
    by_same false false false e k t out ih = ih

-- no row is in both layers
layers-apart : (o : Option Row) → passes is_normal o ≡ true → passes is_over o ≡ false
layers-apart None h = refl
layers-apart (Some row) h = by_tests row.mapped row.over h
  where
    by_tests : (m o : Bool) → is_normal m o ≡ true → is_over m o ≡ false
    by_tests true true h = cc
    by_tests true false h = refl
    by_tests false o h = refl

-- what is listed is in one of the layers
listed-either : (o : Option Row) → passes is_listed o ≡ (passes is_normal o || passes is_over o)
listed-either None = refl
listed-either (Some row) = by_tests row.mapped row.over
  where
    by_tests : (m o : Bool) → m ≡ (is_normal m o || is_over m o)
    by_tests true true = refl
    by_tests true false = refl
    by_tests false o = refl

-- ---- lists that follow, whatever the rows become

-- members that stay, and ids that come
abbrev pub stay : List RowId → List RowId → List RowId
stay ids members = filter (is_in ids) members

abbrev pub come : List RowId → List RowId → List RowId
come ids members = filter (λ id. not (is_in members id)) ids

-- the ids are then the members
have-gathered : (ids members : List RowId) (id : RowId) → is_in (stay ids members ++ come ids members) id ≡ is_in ids id
have-gathered ids members id =
    list_any-append (same_row id) (stay ids members) (come ids members)
    ∙ ap (λ v. v || is_in (come ids members) id) (is_in-filter (is_in ids) members id)
    ∙ ap (λ v. (is_in members id && is_in ids id) || v) (is_in-filter (λ x. not (is_in members x)) ids id)
    ∙ either (is_in members id) (is_in ids id)
  where
    either : (m i : Bool) → ((m && i) || (i && not m)) ≡ i
    either true true = refl
    either true false = refl
    either false true = refl
    either false false = refl

-- those that come stand before those that stay
have-fronted : (ids members : List RowId) (id : RowId) → is_in (come ids members ++ stay ids members) id ≡ is_in ids id
have-fronted ids members id =
    list_any-append (same_row id) (come ids members) (stay ids members)
    ∙ swapped (is_in (come ids members) id) (is_in (stay ids members) id)
    ∙ sym (list_any-append (same_row id) (stay ids members) (come ids members))
    ∙ have-gathered ids members id
  where
    swapped : (a b : Bool) → (a || b) ≡ (b || a)
    swapped true true = refl
    swapped true false = refl
    swapped false true = refl
    swapped false false = refl

-- what comes isn't there
comes-new : (ids members : List RowId) (id : RowId) → is_in (come ids members) id ≡ true → is_in (stay ids members) id ≡ false
comes-new ids members id h =
    let new = not-true (is_in members id) (and_parts (is_in ids id) (not (is_in members id)) (sym (is_in-filter (λ x. not (is_in members x)) ids id) ∙ h)).1 in
    is_in-filter (is_in ids) members id ∙ ap (λ v. v && is_in ids id) new

stays-known : (ids members : List RowId) (id : RowId) → is_in (stay ids members) id ≡ true → is_in (come ids members) id ≡ false
stays-known ids members id h =
    let old = (and_parts (is_in members id) (is_in ids id) (sym (is_in-filter (is_in ids) members id) ∙ h)).0 in
    is_in-filter (λ x. not (is_in members x)) ids id ∙ ap (λ v. is_in ids id && not v) old ∙ none (is_in ids id)
  where
    none : (b : Bool) → (b && false) ≡ false
    none true = refl
    none false = refl

apart-gathered : (ids members : List RowId) → are_apart ids ≡ true → are_apart members ≡ true → are_apart (stay ids members ++ come ids members) ≡ true
apart-gathered ids members one two =
    apart-append (stay ids members) (come ids members) (apart-filter (is_in ids) members two)
    (apart-filter (λ id. not (is_in members id)) ids one) (stays-known ids members)

apart-fronted : (ids members : List RowId) → are_apart ids ≡ true → are_apart members ≡ true → are_apart (come ids members ++ stay ids members) ≡ true
apart-fronted ids members one two =
    apart-append (come ids members) (stay ids members) (apart-filter (λ id. not (is_in members id)) ids one)
    (apart-filter (is_in ids) members two) (comes-new ids members)

-- the lists that follow some rows, from lists in which no row stood twice
pub lists-follow : (rows : List Row) (layers : Layers) → are_apart (map id_of rows) ≡ true → HaveRowsOnce layers → LayersFollow rows (followed rows layers)
lists-follow rows layers apart once = record {
  once = record {
    stacked_once = stacked;
    listed_once = listed;
    same = same;
    counted = length-same focus (normal ++ over) listed stacked same ∙ length-append normal over;
  };
  normal = have-gathered (map id_of (layer_of false rows)) layers.normal;
  over = have-gathered (map id_of (layer_of true rows)) layers.over;
}
  where
    normal : List RowId
    normal = (followed rows layers).normal

    over : List RowId
    over = (followed rows layers).over

    focus : List RowId
    focus = (followed rows layers).focus

    in_normal : (id : RowId) → is_in normal id ≡ passes is_normal (row_at id rows)
    in_normal id =
        have-gathered (map id_of (layer_of false rows)) layers.normal id
        ∙ ap (λ ids. is_in ids id) (layer-normal rows) ∙ ids-have is_normal rows id apart

    in_over : (id : RowId) → is_in over id ≡ passes is_over (row_at id rows)
    in_over id =
        have-gathered (map id_of (layer_of true rows)) layers.over id
        ∙ ap (λ ids. is_in ids id) (layer-over rows) ∙ ids-have is_over rows id apart

    in_focus : (id : RowId) → is_in focus id ≡ passes is_listed (row_at id rows)
    in_focus id = have-fronted (ids_where is_listed rows) layers.focus id ∙ ids-have is_listed rows id apart

    apart_normal : are_apart normal ≡ true
    apart_normal =
        apart-gathered (map id_of (layer_of false rows)) layers.normal
        (ap are_apart (layer-normal rows) ∙ ids-apart is_normal rows apart) (apart-left layers.normal layers.over once.stacked_once)

    apart_over : are_apart over ≡ true
    apart_over =
        apart-gathered (map id_of (layer_of true rows)) layers.over
        (ap are_apart (layer-over rows) ∙ ids-apart is_over rows apart) (apart-right layers.normal layers.over once.stacked_once)

    stacked : are_apart (normal ++ over) ≡ true
    stacked =
        apart-append normal over apart_normal apart_over
        (λ id h. in_over id ∙ layers-apart (row_at id rows) (sym (in_normal id) ∙ h))

    listed : are_apart focus ≡ true
    listed = apart-fronted (ids_where is_listed rows) layers.focus (ids-apart is_listed rows apart) once.listed_once

    same : HaveSame focus (normal ++ over)
    same = λ id.
        in_focus id ∙ listed-either (row_at id rows)
        ∙ sym (list_any-append (same_row id) normal over ∙ ap (λ v. v || is_in over id) (in_normal id) ∙ ap (λ v. passes is_normal (row_at id rows) || v) (in_over id))

-- ---- lists that follow a change of one row

module _ (id : RowId) (members ids : List RowId) (others : (x : RowId) → same_row id x ≡ false → is_in members x ≡ is_in ids x) where
  stay-but : stay ids members ≡ (if is_in ids id then members else without id members)
  stay-but = by_in (is_in ids id) refl
    where
      kept : (x : RowId) (s : Bool) → same_row id x ≡ s → is_in ids id ≡ true → is_in members x ≡ true → is_in ids x ≡ true
      kept x true k e h = ap (is_in ids) (sym (same_row-is id x k)) ∙ e
      kept x false k e h = sym (others x k) ∙ h

      left : (x : RowId) (s : Bool) → same_row id x ≡ s → is_in ids id ≡ false → is_in members x ≡ true → is_in ids x ≡ not s
      left x true k e h = ap (is_in ids) (sym (same_row-is id x k)) ∙ e
      left x false k e h = sym (others x k) ∙ h

      by_in : (b : Bool) → is_in ids id ≡ b → stay ids members ≡ (if b then members else without id members)
      by_in true e = filter-whole (is_in ids) members (λ x h. kept x (same_row id x) refl e h)
      by_in false e = filter-same (is_in ids) (λ x. not (same_row id x)) members (λ x h. left x (same_row id x) refl e h)

  come-but : are_apart ids ≡ true → come ids members ≡ (if is_in ids id && not (is_in members id) then id ∷ [] else [])
  come-but apart = by_in (is_in members id) refl
    where
      known : (x : RowId) (s : Bool) → same_row id x ≡ s → is_in members id ≡ true → is_in ids x ≡ true → not (is_in members x) ≡ false
      known x true k e h = ap not (ap (is_in members) (sym (same_row-is id x k)) ∙ e)
      known x false k e h = ap not (others x k ∙ h)

      only : (x : RowId) (s : Bool) → same_row id x ≡ s → is_in members id ≡ false → is_in ids x ≡ true → not (is_in members x) ≡ s
      only x true k e h = ap not (ap (is_in members) (sym (same_row-is id x k)) ∙ e)
      only x false k e h = ap not (others x k ∙ h)

      nobody : (c : Bool) → [] ≡ (if c && false then id ∷ [] else [])
      nobody true = refl
      nobody false = refl

      itself : (c : Bool) → (if c then id ∷ [] else []) ≡ (if c && true then id ∷ [] else [])
      itself true = refl
      itself false = refl

      by_in : (b : Bool) → is_in members id ≡ b → come ids members ≡ (if is_in ids id && not b then id ∷ [] else [])
      by_in true e = filter-empty (λ x. not (is_in members x)) ids (λ x h. known x (same_row id x) refl e h) ∙ nobody (is_in ids id)
      by_in false e =
          filter-same (λ x. not (is_in members x)) (same_row id) ids (λ x h. only x (same_row id x) refl e h)
          ∙ only-one id ids apart ∙ itself (is_in ids id)

abbrev pub lists : List RowId → List RowId → List RowId → Layers
lists normal over focus = record { normal = normal; over = over; focus = focus }

pub same-lists : (n n' o o' f f' : List RowId) → n ≡ n' → o ≡ o' → f ≡ f' → lists n o f ≡ lists n' o' f'
same-lists n n' o o' f f' en eo ef = ap (λ x. lists x o f) en ∙ ap (λ x. lists n' x f) eo ∙ ap (λ x. lists n' o' x) ef

-- the members of a list once an id is in it or not, where it was in it or not
abbrev with_last : RowId → Bool → Bool → List RowId → List RowId
with_last id now was members = (if now then members else without id members) ++ (if now && not was then id ∷ [] else [])

abbrev with_first : RowId → Bool → Bool → List RowId → List RowId
with_first id now was members = (if now && not was then id ∷ [] else []) ++ (if now then members else without id members)

-- the lists by tests of the row, and the same as one step
by-tests : (id : RowId) (layers : Layers) (m o n v f : Bool) → is_in layers.normal id ≡ n → is_in layers.over id ≡ v → f ≡ (n || v) → (n ≡ true → v ≡ false)
    → lists (with_last id (m && not o) n layers.normal) (with_last id (m && o) v layers.over) (with_first id m f layers.focus)
    ≡ (if m then (if f then relayered id o layers else entered id o layers) else departed id layers)
by-tests id layers false o n v f en ev ef one =
    same-lists _ _ _ _ _ _ (append-nil (without id layers.normal)) (append-nil (without id layers.over)) refl
by-tests id layers true o true true f en ev ef one = let no = one refl in cc
by-tests id layers true o true false false en ev ef one = cc
by-tests id layers true o false true false en ev ef one = cc
by-tests id layers true o false false true en ev ef one = cc
by-tests id layers true true true false true en ev ef one =
    same-lists _ _ _ _ _ _ (append-nil (without id layers.normal)) refl refl
    ∙ ap (λ b. if b then layers else record layers { normal = without id layers.normal; over = layers.over ++ id ∷ [] }) (sym ev)
by-tests id layers true true false true true en ev ef one =
    same-lists _ _ _ _ _ _ (append-nil (without id layers.normal) ∙ without-out id layers.normal en) (append-nil layers.over) refl
    ∙ ap (λ b. if b then layers else record layers { normal = without id layers.normal; over = layers.over ++ id ∷ [] }) (sym ev)
by-tests id layers true true false false false en ev ef one =
    same-lists _ _ _ _ _ _ (append-nil (without id layers.normal) ∙ without-out id layers.normal en) refl refl
by-tests id layers true false true false true en ev ef one =
    same-lists _ _ _ _ _ _ (append-nil layers.normal) (append-nil (without id layers.over) ∙ without-out id layers.over ev) refl
    ∙ ap (λ b. if b then layers else record layers { normal = layers.normal ++ id ∷ []; over = without id layers.over }) (sym en)
by-tests id layers true false false true true en ev ef one =
    same-lists _ _ _ _ _ _ refl (append-nil (without id layers.over)) refl
    ∙ ap (λ b. if b then layers else record layers { normal = layers.normal ++ id ∷ []; over = without id layers.over }) (sym en)
by-tests id layers true false false false false en ev ef one =
    same-lists _ _ _ _ _ _ refl (append-nil (without id layers.over) ∙ without-out id layers.over ev) refl

-- an id stands in the lists where its row passes
module _ (rows : List Row) (layers : Layers) (apart : are_apart (map id_of rows) ≡ true) (follow : LayersFollow rows layers) where
  pub normal-has : (id : RowId) → is_in layers.normal id ≡ passes is_normal (row_at id rows)
  normal-has id = follow.normal id ∙ ap (λ ids. is_in ids id) (layer-normal rows) ∙ ids-have is_normal rows id apart

  pub over-has : (id : RowId) → is_in layers.over id ≡ passes is_over (row_at id rows)
  over-has id = follow.over id ∙ ap (λ ids. is_in ids id) (layer-over rows) ∙ ids-have is_over rows id apart

  focus-either : (id : RowId) → is_in layers.focus id ≡ (is_in layers.normal id || is_in layers.over id)
  focus-either id = follow.once.same id ∙ list_any-append (same_row id) layers.normal layers.over

  pub focus-has : (id : RowId) → is_in layers.focus id ≡ passes is_listed (row_at id rows)
  focus-has id =
      focus-either id ∙ ap (λ v. v || is_in layers.over id) (normal-has id) ∙ ap (λ v. passes is_normal (row_at id rows) || v) (over-has id)
      ∙ sym (listed-either (row_at id rows))

-- every other row passes a test as before
abbrev pub OthersSame : RowId → List Row → List Row → Type 0
OthersSame id rows rows' = (test : Test) (other : RowId) → same_row id other ≡ false → passes test (row_at other rows') ≡ passes test (row_at other rows)

module _ (id : RowId) (rows rows' : List Row) (layers : Layers) (apart : are_apart (map id_of rows) ≡ true) (apart' : are_apart (map id_of rows') ≡ true)
    (follow : LayersFollow rows layers) (others : OthersSame id rows rows') where
  others-of : (test : Test) (members : List RowId) → ((x : RowId) → is_in members x ≡ passes test (row_at x rows))
      → (x : RowId) → same_row id x ≡ false → is_in members x ≡ is_in (ids_where test rows') x
  others-of test members has x out = has x ∙ sym (others test x out) ∙ sym (ids-have test rows' x apart')

  last-of : (test : Test) (members : List RowId) → ((x : RowId) → is_in members x ≡ passes test (row_at x rows))
      → stay (ids_where test rows') members ++ come (ids_where test rows') members ≡ with_last id (passes test (row_at id rows')) (is_in members id) members
  last-of test members has =
      ap (λ xs. xs ++ come (ids_where test rows') members) (stay-but id members (ids_where test rows') (others-of test members has))
      ∙ ap (λ xs. (if is_in (ids_where test rows') id then members else without id members) ++ xs)
      (come-but id members (ids_where test rows') (others-of test members has) (ids-apart test rows' apart'))
      ∙ ap (λ b. with_last id b (is_in members id) members) (ids-have test rows' id apart')

  first-of : (test : Test) (members : List RowId) → ((x : RowId) → is_in members x ≡ passes test (row_at x rows))
      → come (ids_where test rows') members ++ stay (ids_where test rows') members ≡ with_first id (passes test (row_at id rows')) (is_in members id) members
  first-of test members has =
      ap (λ xs. xs ++ stay (ids_where test rows') members)
      (come-but id members (ids_where test rows') (others-of test members has) (ids-apart test rows' apart'))
      ∙ ap (λ xs. (if is_in (ids_where test rows') id && not (is_in members id) then id ∷ [] else []) ++ xs)
      (stay-but id members (ids_where test rows') (others-of test members has))
      ∙ ap (λ b. with_first id b (is_in members id) members) (ids-have test rows' id apart')

  by-row : (o : Option Row)
      → lists (with_last id (passes is_normal o) (is_in layers.normal id) layers.normal) (with_last id (passes is_over o) (is_in layers.over id) layers.over)
      (with_first id (passes is_listed o) (is_in layers.focus id) layers.focus) ≡ after_row id o layers
  by-row None = same-lists _ _ _ _ _ _ (append-nil (without id layers.normal)) (append-nil (without id layers.over)) refl
  by-row (Some row) =
      by-tests id layers row.mapped row.over (is_in layers.normal id) (is_in layers.over id) (is_in layers.focus id) refl refl
      (focus-either rows layers apart follow id)
      (λ h. over-has rows layers apart follow id ∙ layers-apart (row_at id rows) (sym (normal-has rows layers apart follow id) ∙ h))

  pub follows-row : FollowsRow id rows' layers
  follows-row = record {
    lists =
        same-lists _ _ _ _ _ _
        (ap (λ ids. stay ids layers.normal ++ come ids layers.normal) (layer-normal rows') ∙ last-of is_normal layers.normal (normal-has rows layers apart follow))
        (ap (λ ids. stay ids layers.over ++ come ids layers.over) (layer-over rows') ∙ last-of is_over layers.over (over-has rows layers apart follow))
        (first-of is_listed layers.focus (focus-has rows layers apart follow))
        ∙ by-row (row_at id rows');
    follow = lists-follow rows' layers apart' follow.once;
    apart = apart';
  }
