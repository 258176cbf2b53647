-- Each change of one window's row, and the end of a session, as the lists of the layers follow them.
use Rattle.std.proofs.Common.{◌≡◌, ℕ, Bool, true, false, ◌&&◌, ◌||◌, not, ◌==◌, List, [], ◌∷◌, ◌++◌, map, Some, None, refl, sym, ◌∙◌, ap, subst, arith, length, ◌≤◌}
use Rattle.std.specs.Prelude.{filter, if◌then◌else◌}
use Rattle.std.specs.List.{All}
use Rattle.std.proofs.lemmas.List.{append-nil, map_push}
use Rattle.std.proofs.lemmas.List.Elements.{All-nil, All-cons, All-head, All-tail, All-filter}
use Rattle.std.proofs.lemmas.Bool.{and_parts, eqb-true}
use Rattle.std.proofs.lemmas.Bool.Decides.{nat_tests}
use Rattle.desk_laws.specs.declared.row_id.RowId.{RowId}
use Rattle.desk_laws.specs.Rows.{Row, id_of, same_row, is_row, mine, row_with, row_at}
use Rattle.desk_laws.specs.Layers.{Layers, no_layers, is_in, are_apart, HaveSame, layer_of, followed}
use Rattle.desk_laws.specs.Effects.{Change, Same, Added, Replaced, Removed, Cleared, changed, replaced_in, of_guest, forgets, name_without}
use Rattle.desk_laws.specs.Following.{LayersFollow, FollowsRow, ListsFollowOne, ListsFollowEnd}
use Rattle.std.proofs.lemmas.List.Folds.{list_any-append}
use Rattle.desk_laws.proofs.LayerLemmas.{layer-stays}
use Rattle.desk_laws.proofs.RowLemmas.{apart-push}
use Rattle.desk_laws.proofs.IdLemmas.{filter-same, filter-whole, filter-empty, length-same}
use Rattle.desk_laws.proofs.FollowLemmas.{Test, come, focus-has, follows-row, ids-apart, ids-have, ids_where, is_listed, is_normal, is_over, is_row-same, layer-normal, layer-over, lists-follow, normal-has, over-has, passes, rows-apart, same-lists, stay}

abbrev pub the : ℕ → ℕ → RowId
the guest window = record { guest = guest; window = window }

-- ---- the row of a window, among its guest's rows or all

pub row_with-mine : (guest window : ℕ) (rows : List Row) → row_with window (mine guest rows) ≡ row_at (the guest window) rows
row_with-mine guest window [] = refl
row_with-mine guest window (row ∷ rows) = by_guest (row.guest == guest) (row_with-mine guest window rows)
  where
    by_guest : (b : Bool) → row_with window (mine guest rows) ≡ row_at (the guest window) rows
        → row_with window (if b then row ∷ mine guest rows else mine guest rows) ≡ (if b && row.window == window then Some row else row_at (the guest window) rows)
    by_guest true e = ap (λ o. if row.window == window then Some row else o) e
    by_guest false e = e

-- an id without a row
pub row_at-none : (id : RowId) (rows : List Row) → row_at id rows ≡ None → is_in (map id_of rows) id ≡ false
row_at-none id [] is = refl
row_at-none id (row ∷ rows) is = by_test (is_row id.guest id.window row) (is_row-same id row) is (λ h. row_at-none id rows h)
  where
    by_test : (b : Bool) → b ≡ same_row id (id_of row) → (if b then Some row else row_at id rows) ≡ None
        → (row_at id rows ≡ None → is_in (map id_of rows) id ≡ false) → (same_row id (id_of row) || is_in (map id_of rows) id) ≡ false
    by_test true e h ih = cc
    by_test false e h ih = ap (λ v. v || is_in (map id_of rows) id) (sym e) ∙ ih h

-- ---- where all rows are of one guest

-- all rows are of this guest
abbrev pub AllOf : ℕ → List Row → Type 0
AllOf guest rows = All (λ row. row.guest ≡ guest) rows

itself : (n : ℕ) → (n == n) ≡ true
itself n = grind (arith, nat_tests)

of-first : (guest : ℕ) (row : Row) (rows : List Row) → AllOf guest (row ∷ rows) → (row.guest == guest) ≡ true
of-first guest row rows all = ap (λ n. n == guest) (All-head (λ r. r.guest ≡ guest) row rows all) ∙ itself guest

of-rest : (guest : ℕ) (row : Row) (rows : List Row) → AllOf guest (row ∷ rows) → AllOf guest rows
of-rest guest row rows all = All-tail (λ r. r.guest ≡ guest) row rows all

-- they are the guest's rows
pub mine-whole : (guest : ℕ) (rows : List Row) → AllOf guest rows → mine guest rows ≡ rows
mine-whole guest [] all = refl
mine-whole guest (row ∷ rows) all =
    ap (λ b. if b then row ∷ mine guest rows else mine guest rows) (of-first guest row rows all)
    ∙ ap (λ rs. row ∷ rs) (mine-whole guest rows (of-rest guest row rows all))

-- and so they are after any change of the guest's rows
of-added : (guest : ℕ) (row : Row) (rows : List Row) → AllOf guest rows → AllOf guest (rows ++ of_guest guest row ∷ [])
of-added guest row [] all = All-cons (λ r. r.guest ≡ guest) (of_guest guest row) [] refl (All-nil (λ r. r.guest ≡ guest))
of-added guest row (r ∷ rows) all =
    All-cons (λ x. x.guest ≡ guest) r (rows ++ of_guest guest row ∷ []) (All-head (λ x. x.guest ≡ guest) r rows all)
    (of-added guest row rows (of-rest guest r rows all))

of-mapped : (guest : ℕ) (f : Row → Row) → ((row : Row) → row.guest ≡ guest → (f row).guest ≡ guest) → (rows : List Row) → AllOf guest rows → AllOf guest (map f rows)
of-mapped guest f keeps [] all = All-nil (λ r. r.guest ≡ guest)
of-mapped guest f keeps (r ∷ rows) all =
    All-cons (λ x. x.guest ≡ guest) (f r) (map f rows) (keeps r (All-head (λ x. x.guest ≡ guest) r rows all))
    (of-mapped guest f keeps rows (of-rest guest r rows all))

replaced-guest : (guest : ℕ) (new row : Row) → row.guest ≡ guest → (replaced_in guest new row).guest ≡ guest
replaced-guest guest new row is = by_row (is_row guest new.window row)
  where
    by_row : (b : Bool) → (if b then of_guest guest new else row).guest ≡ guest
    by_row true = refl
    by_row false = is

forgets-guest : (guest window : ℕ) (row : Row) → row.guest ≡ guest → (forgets guest window row).guest ≡ guest
forgets-guest guest window row is = by_guest (row.guest == guest)
  where
    by_guest : (b : Bool) → (if b then record row { parent = name_without window row.parent; transient = name_without window row.transient } else row).guest ≡ guest
    by_guest true = is
    by_guest false = is

pub of-changed : (guest : ℕ) (change : Change) (rows : List Row) → AllOf guest rows → AllOf guest (changed guest change rows)
of-changed guest Same rows all = all
of-changed guest (Added row) rows all = of-added guest row rows all
of-changed guest (Replaced new) rows all = of-mapped guest (replaced_in guest new) (replaced-guest guest new) rows all
of-changed guest (Removed window) rows all =
    of-mapped guest (forgets guest window) (forgets-guest guest window) (filter (λ row. not (is_row guest window row)) rows)
    (All-filter (λ row. not (is_row guest window row)) (λ row. row.guest ≡ guest) rows all)
of-changed guest Cleared rows all = All-filter (λ row. not (row.guest == guest)) (λ row. row.guest ≡ guest) rows all

-- ---- a row that comes

push-other : (rows : List Row) (row : Row) (other : RowId) → same_row (id_of row) other ≡ false → row_at other (rows ++ row ∷ []) ≡ row_at other rows
push-other [] row other out = ap (λ b. if b then Some row else None) out
push-other (r ∷ rows) row other out = ap (λ o. if is_row other.guest other.window r then Some r else o) (push-other rows row other out)

added : (guest : ℕ) (row : Row) (rows : List Row) (layers : Layers) → are_apart (map id_of rows) ≡ true → LayersFollow rows layers
    → row_with row.window (mine guest rows) ≡ None → FollowsRow (the guest row.window) (changed guest (Added row) rows) layers
added guest row rows layers apart follow new =
    let out : is_in (map id_of rows) (the guest row.window) ≡ false = row_at-none (the guest row.window) rows (sym (row_with-mine guest row.window rows) ∙ new) in
    let apart' : are_apart (map id_of (rows ++ of_guest guest row ∷ [])) ≡ true =
    ap are_apart (map_push id_of rows (of_guest guest row)) ∙ apart-push (map id_of rows) (the guest row.window) apart out in
    follows-row (the guest row.window) rows (rows ++ of_guest guest row ∷ []) layers apart apart' follow
    (λ test other h. ap (passes test) (push-other rows (of_guest guest row) other h))

-- ---- a row in the place of another

pub replaced-ids : (guest : ℕ) (new : Row) (rows : List Row) → map id_of (map (replaced_in guest new) rows) ≡ map id_of rows
replaced-ids guest new [] = refl
replaced-ids guest new (row ∷ rows) = by_row (is_row guest new.window row) refl (replaced-ids guest new rows)
  where
    by_row : (b : Bool) → is_row guest new.window row ≡ b → map id_of (map (replaced_in guest new) rows) ≡ map id_of rows
        → id_of (if b then of_guest guest new else row) ∷ map id_of (map (replaced_in guest new) rows) ≡ id_of row ∷ map id_of rows
    by_row true e ih =
        let parts = and_parts (row.guest == guest) (row.window == new.window) e in
        let g : guest ≡ row.guest = sym (eqb-true row.guest guest parts.0) in
        let w : new.window ≡ row.window = sym (eqb-true row.window new.window parts.1) in
        ap (λ ids. the guest new.window ∷ ids) ih ∙ ap (λ n. the n new.window ∷ map id_of rows) g ∙ ap (λ n. the row.guest n ∷ map id_of rows) w
    by_row false e ih = ap (λ ids. id_of row ∷ ids) ih

pub replaced-other : (guest : ℕ) (new : Row) (rows : List Row) (other : RowId) → same_row (the guest new.window) other ≡ false
    → row_at other (map (replaced_in guest new) rows) ≡ row_at other rows
replaced-other guest new [] other out = refl
replaced-other guest new (row ∷ rows) other out = by_row (is_row guest new.window row) refl (replaced-other guest new rows other out)
  where
    differs : is_row guest new.window row ≡ true → is_row other.guest other.window row ≡ false
    differs e =
        let parts = and_parts (row.guest == guest) (row.window == new.window) e in
        ap (λ n. n == other.guest && row.window == other.window) (eqb-true row.guest guest parts.0)
        ∙ ap (λ n. guest == other.guest && n == other.window) (eqb-true row.window new.window parts.1) ∙ out

    by_row : (b : Bool) → is_row guest new.window row ≡ b → row_at other (map (replaced_in guest new) rows) ≡ row_at other rows
        → row_at other ((if b then of_guest guest new else row) ∷ map (replaced_in guest new) rows) ≡ row_at other (row ∷ rows)
    by_row true e ih =
        ap (λ b. if b then Some (of_guest guest new) else row_at other (map (replaced_in guest new) rows)) out ∙ ih
        ∙ sym (ap (λ b. if b then Some row else row_at other rows) (differs e))
    by_row false e ih = ap (λ o. if is_row other.guest other.window row then Some row else o) ih

replaced : (guest : ℕ) (new : Row) (rows : List Row) (layers : Layers) → are_apart (map id_of rows) ≡ true → LayersFollow rows layers
    → FollowsRow (the guest new.window) (changed guest (Replaced new) rows) layers
replaced guest new rows layers apart follow =
    follows-row (the guest new.window) rows (map (replaced_in guest new) rows) layers apart
    (ap are_apart (replaced-ids guest new rows) ∙ apart) follow
    (λ test other h. ap (passes test) (replaced-other guest new rows other h))

-- ---- a row that goes

forgets-ids : (guest window : ℕ) (rows : List Row) → map id_of (map (forgets guest window) rows) ≡ map id_of rows
forgets-ids guest window [] = refl
forgets-ids guest window (row ∷ rows) = by_guest (row.guest == guest) (forgets-ids guest window rows)
  where
    by_guest : (b : Bool) → map id_of (map (forgets guest window) rows) ≡ map id_of rows
        → id_of (if b then record row { parent = name_without window row.parent; transient = name_without window row.transient } else row) ∷ map id_of (map (forgets guest window) rows)
        ≡ id_of row ∷ map id_of rows
    by_guest true ih = ap (λ ids. id_of row ∷ ids) ih
    by_guest false ih = ap (λ ids. id_of row ∷ ids) ih

-- the rows but one
abbrev rows_but : ℕ → ℕ → List Row → List Row
rows_but guest window rows = filter (λ row. not (is_row guest window row)) rows

removed-other : (guest window : ℕ) (test : Test) (rows : List Row) (other : RowId) → same_row (the guest window) other ≡ false
    → passes test (row_at other (map (forgets guest window) (rows_but guest window rows))) ≡ passes test (row_at other rows)
removed-other guest window test [] other out = refl
removed-other guest window test (row ∷ rows) other out = by_row (is_row guest window row) refl (removed-other guest window test rows other out)
  where
    rest : List Row
    rest = map (forgets guest window) (rows_but guest window rows)

    differs : is_row guest window row ≡ true → is_row other.guest other.window row ≡ false
    differs e =
        let parts = and_parts (row.guest == guest) (row.window == window) e in
        ap (λ n. n == other.guest && row.window == other.window) (eqb-true row.guest guest parts.0)
        ∙ ap (λ n. guest == other.guest && n == other.window) (eqb-true row.window window parts.1) ∙ out

    by_found : (b : Bool) (r : Row) → r.mapped ≡ row.mapped → r.over ≡ row.over → passes test (row_at other rest) ≡ passes test (row_at other rows)
        → passes test (if b then Some r else row_at other rest) ≡ passes test (if b then Some row else row_at other rows)
    by_found true r m o ih = ap (λ v. test v r.over) m ∙ ap (λ v. test row.mapped v) o
    by_found false r m o ih = ih

    by_guest : (b : Bool) → passes test (row_at other rest) ≡ passes test (row_at other rows)
        → passes test (row_at other ((if b then record row { parent = name_without window row.parent; transient = name_without window row.transient } else row) ∷ rest))
        ≡ passes test (row_at other (row ∷ rows))
    by_guest true ih =
        by_found (is_row other.guest other.window row) (record row { parent = name_without window row.parent; transient = name_without window row.transient }) refl refl ih
    by_guest false ih = by_found (is_row other.guest other.window row) row refl refl ih

    by_row : (b : Bool) → is_row guest window row ≡ b → passes test (row_at other rest) ≡ passes test (row_at other rows)
        → passes test (row_at other (map (forgets guest window) (if not b then row ∷ rows_but guest window rows else rows_but guest window rows)))
        ≡ passes test (row_at other (row ∷ rows))
    by_row true e ih = ih ∙ sym (ap (λ b. passes test (if b then Some row else row_at other rows)) (differs e))
    by_row false e ih = by_guest (row.guest == guest) ih

removed : (guest window : ℕ) (rows : List Row) (layers : Layers) → are_apart (map id_of rows) ≡ true → LayersFollow rows layers
    → FollowsRow (the guest window) (changed guest (Removed window) rows) layers
removed guest window rows layers apart follow =
    follows-row (the guest window) rows (map (forgets guest window) (rows_but guest window rows)) layers apart
    (ap are_apart (forgets-ids guest window (rows_but guest window rows)) ∙ rows-apart (λ row. not (is_row guest window row)) rows apart) follow
    (λ test other h. removed-other guest window test rows other h)

-- ---- the law

pub lists-follow_one : ListsFollowOne
lists-follow_one guest window Same rows layers apart follow c =
    follows-row (the guest window) rows rows layers apart apart follow (λ test other h. refl)
lists-follow_one guest window (Added row) rows layers apart follow c =
    subst (λ w. FollowsRow (the guest w) (changed guest (Added row) rows) layers) c.alone
    (added guest row rows layers apart follow (ap (λ w. row_with w (mine guest rows)) c.alone ∙ c.from.0))
lists-follow_one guest window (Replaced row) rows layers apart follow c =
    subst (λ w. FollowsRow (the guest w) (changed guest (Replaced row) rows) layers) c.alone (replaced guest row rows layers apart follow)
lists-follow_one guest window (Removed other) rows layers apart follow c =
    subst (λ w. FollowsRow (the guest w) (changed guest (Removed other) rows) layers) c.alone (removed guest other rows layers apart follow)
lists-follow_one guest window Cleared rows layers apart follow c = absurd c.alone

-- ---- a session's end

abbrev others_of : ℕ → List Row → List Row
others_of guest rows = filter (λ row. not (row.guest == guest)) rows

cleared-at : (guest : ℕ) (rows : List Row) (id : RowId) → row_at id (others_of guest rows) ≡ (if id.guest == guest then None else row_at id rows)
cleared-at guest [] id = by_guest (id.guest == guest)
  where
    by_guest : (b : Bool) → row_at id [] ≡ (if b then None else row_at id [])
    by_guest true = refl
    by_guest false = refl
cleared-at guest (row ∷ rows) id =
    by_tests (row.guest == guest) (is_row id.guest id.window row) (id.guest == guest) refl refl refl (cleared-at guest rows id)
  where
    same-guest : is_row id.guest id.window row ≡ true → row.guest ≡ id.guest
    same-guest e = eqb-true row.guest id.guest (and_parts (row.guest == id.guest) (row.window == id.window) e).0

    by_tests : (b r i : Bool) → (row.guest == guest) ≡ b → is_row id.guest id.window row ≡ r → (id.guest == guest) ≡ i
        → row_at id (others_of guest rows) ≡ (if i then None else row_at id rows)
        → row_at id (if not b then row ∷ others_of guest rows else others_of guest rows) ≡ (if i then None else if r then Some row else row_at id rows)
    by_tests true true true e k j ih = ih
    by_tests true true false e k j ih = let no = sym e ∙ ap (λ n. n == guest) (same-guest k) ∙ j in cc
    by_tests true false true e k j ih = ih
    by_tests true false false e k j ih = ih
    by_tests false true true e k j ih = let no = sym e ∙ ap (λ n. n == guest) (same-guest k) ∙ j in cc
    by_tests false true false e k j ih = ap (λ b. if b then Some row else row_at id (others_of guest rows)) k
    by_tests false false i e k j ih = ap (λ b. if b then Some row else row_at id (others_of guest rows)) k ∙ ih

module _ (guest : ℕ) (rows : List Row) (test : Test) (members : List RowId) (apart : are_apart (map id_of rows) ≡ true)
    (has : (x : RowId) → is_in members x ≡ passes test (row_at x rows)) where
  left : (x : RowId) → is_in (ids_where test (others_of guest rows)) x ≡ passes test (if x.guest == guest then None else row_at x rows)
  left x =
      ids-have test (others_of guest rows) x (rows-apart (λ row. not (row.guest == guest)) rows apart) ∙ ap (passes test) (cleared-at guest rows x)

  stay-others : stay (ids_where test (others_of guest rows)) members ≡ filter (λ id. not (id.guest == guest)) members
  stay-others =
      filter-same (is_in (ids_where test (others_of guest rows))) (λ id. not (id.guest == guest)) members
      (λ x h. left x ∙ by_guest x (x.guest == guest) (sym (has x) ∙ h))
    where
      by_guest : (x : RowId) (b : Bool) → passes test (row_at x rows) ≡ true → passes test (if b then None else row_at x rows) ≡ not b
      by_guest x true h = refl
      by_guest x false h = h

  none-come : come (ids_where test (others_of guest rows)) members ≡ []
  none-come =
      filter-empty (λ x. not (is_in members x)) (ids_where test (others_of guest rows))
      (λ x h. ap not (has x ∙ by_guest x (x.guest == guest) (sym (left x) ∙ h)))
    where
      by_guest : (x : RowId) (b : Bool) → passes test (if b then None else row_at x rows) ≡ true → passes test (row_at x rows) ≡ true
      by_guest x true h = cc
      by_guest x false h = h

  last-others : stay (ids_where test (others_of guest rows)) members ++ come (ids_where test (others_of guest rows)) members ≡ filter (λ id. not (id.guest == guest)) members
  last-others =
      ap (λ xs. stay (ids_where test (others_of guest rows)) members ++ xs) none-come
      ∙ append-nil (stay (ids_where test (others_of guest rows)) members) ∙ stay-others

  first-others : come (ids_where test (others_of guest rows)) members ++ stay (ids_where test (others_of guest rows)) members ≡ filter (λ id. not (id.guest == guest)) members
  first-others = ap (λ xs. xs ++ stay (ids_where test (others_of guest rows)) members) none-come ∙ stay-others

pub lists-follow_end : ListsFollowEnd
lists-follow_end guest rows layers apart follow =
    let left = others_of guest rows in
    let apart' : are_apart (map id_of left) ≡ true = rows-apart (λ row. not (row.guest == guest)) rows apart in
    record {
      lists =
          same-lists _ _ _ _ _ _
          (ap (λ ids. stay ids layers.normal ++ come ids layers.normal) (layer-normal left)
          ∙ last-others guest rows is_normal layers.normal apart (normal-has rows layers apart follow))
          (ap (λ ids. stay ids layers.over ++ come ids layers.over) (layer-over left)
          ∙ last-others guest rows is_over layers.over apart (over-has rows layers apart follow))
          (first-others guest rows is_listed layers.focus apart (focus-has rows layers apart follow));
      follow = lists-follow left layers apart' follow.once;
      apart = apart';
    }

-- where all rows are the guest's, none is left
pub cleared-whole : (guest : ℕ) (rows : List Row) → AllOf guest rows → changed guest Cleared rows ≡ []
cleared-whole guest [] all = refl
cleared-whole guest (row ∷ rows) all =
    ap (λ b. if not b then row ∷ others_of guest rows else others_of guest rows) (of-first guest row rows all)
    ∙ cleared-whole guest rows (of-rest guest row rows all)

none-gathered : (ids : List RowId) → stay [] ids ++ come [] ids ≡ []
none-gathered [] = refl
none-gathered (id ∷ ids) = none-gathered ids

none-fronted : (ids : List RowId) → come [] ids ++ stay [] ids ≡ []
none-fronted [] = refl
none-fronted (id ∷ ids) = none-fronted ids

-- no row, no lists
pub followed-none : (layers : Layers) → followed [] layers ≡ no_layers
followed-none layers = same-lists _ _ _ _ _ _ (none-gathered layers.normal) (none-gathered layers.over) (none-fronted layers.focus)

pub none-follow : LayersFollow [] no_layers
none-follow = record {
  once = record { stacked_once = refl; listed_once = refl; same = λ id. refl; counted = refl };
  normal = λ id. refl;
  over = λ id. refl;
}

-- ---- lists that have their rows

stay-all : (ids members : List RowId) → HaveSame members ids → stay ids members ≡ members
stay-all ids members same = filter-whole (is_in ids) members (λ x h. sym (same x) ∙ h)

come-none : (ids members : List RowId) → HaveSame members ids → come ids members ≡ []
come-none ids members same = filter-empty (λ x. not (is_in members x)) ids (λ x h. ap not (same x ∙ h))

-- what is listed is in one of the layers
ids-either : (rows : List Row) (id : RowId) → is_in (ids_where is_listed rows) id ≡ (is_in (ids_where is_normal rows) id || is_in (ids_where is_over rows) id)
ids-either [] id = refl
ids-either (row ∷ rows) id = by_tests row.mapped row.over (ids-either rows id)
  where
    swapped : (s n o : Bool) → (s || (n || o)) ≡ (n || (s || o))
    swapped true true o = refl
    swapped true false o = refl
    swapped false n o = refl

    grouped : (s n o : Bool) → (s || (n || o)) ≡ ((s || n) || o)
    grouped true n o = refl
    grouped false n o = refl

    by_tests : (m o : Bool) → is_in (ids_where is_listed rows) id ≡ (is_in (ids_where is_normal rows) id || is_in (ids_where is_over rows) id)
        → is_in (ids_where is_listed (record row { mapped = m; over = o } ∷ rows)) id
        ≡ (is_in (ids_where is_normal (record row { mapped = m; over = o } ∷ rows)) id || is_in (ids_where is_over (record row { mapped = m; over = o } ∷ rows)) id)
    by_tests true true e =
        ap (λ v. same_row id (id_of row) || v) e
        ∙ swapped (same_row id (id_of row)) (is_in (ids_where is_normal rows) id) (is_in (ids_where is_over rows) id)
    by_tests true false e =
        ap (λ v. same_row id (id_of row) || v) e
        ∙ grouped (same_row id (id_of row)) (is_in (ids_where is_normal rows) id) (is_in (ids_where is_over rows) id)
    by_tests false o e = e

module _ (rows : List Row) (layers : Layers) (follow : LayersFollow rows layers) where
  focus-listed : HaveSame layers.focus (ids_where is_listed rows)
  focus-listed = λ id.
      follow.once.same id ∙ list_any-append (same_row id) layers.normal layers.over
      ∙ ap (λ v. v || is_in layers.over id) (follow.normal id ∙ ap (λ ids. is_in ids id) (layer-normal rows))
      ∙ ap (λ v. is_in (ids_where is_normal rows) id || v) (follow.over id ∙ ap (λ ids. is_in ids id) (layer-over rows))
      ∙ sym (ids-either rows id)

  -- they stay as they are
  pub followed-same : followed rows layers ≡ layers
  followed-same =
      same-lists _ _ _ _ _ _ (layer-stays (layer_of false rows) layers.normal follow.normal) (layer-stays (layer_of true rows) layers.over follow.over)
      (ap (λ xs. xs ++ stay (ids_where is_listed rows) layers.focus) (come-none (ids_where is_listed rows) layers.focus focus-listed)
      ∙ stay-all (ids_where is_listed rows) layers.focus focus-listed)

  -- no more than there are rows
  pub follow-few : are_apart (map id_of rows) ≡ true → length layers.focus ≤ length rows
  follow-few apart =
      let same : length layers.focus ≡ length (ids_where is_listed rows) =
      length-same layers.focus (ids_where is_listed rows) follow.once.listed_once (ids-apart is_listed rows apart) focus-listed in
      omega (arith, few-pass rows)
    where
      few-pass : (rs : List Row) → length (ids_where is_listed rs) ≤ length rs
      few-pass [] = omega arith
      few-pass (r ∷ rs) = by_test r.mapped (few-pass rs)
        where
          by_test : (b : Bool) → length (ids_where is_listed rs) ≤ length rs
              → length (map id_of (if b then r ∷ filter (λ x. is_listed x.mapped x.over) rs else filter (λ x. is_listed x.mapped x.over) rs)) ≤ length (r ∷ rs)
          by_test true h = omega arith
          by_test false h = omega arith
