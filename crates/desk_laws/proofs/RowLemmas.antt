-- Rows by their ids, and a change of one of them.
use Rattle.std.proofs.Common.{◌≡◌, ℕ, Bool, true, false, ◌&&◌, ◌||◌, not, List, [], ◌∷◌, ◌++◌, map, refl, sym, ◌∙◌, ap, arith}
use Rattle.std.specs.Prelude.{if◌then◌else◌}
use Rattle.std.specs.List.{All}
use Rattle.std.proofs.lemmas.List.{map-append}
use Rattle.std.proofs.lemmas.List.Elements.{All-nil, All-cons, All-weaker}
use Rattle.std.proofs.lemmas.List.Folds.{map_fixed, list_any-append}
use Rattle.std.proofs.lemmas.Bool.{and_parts, or_parts, not-true, or_from}
use Rattle.std.proofs.lemmas.Bool.Decides.{nat_tests}
use Rattle.desk_laws.specs.declared.row_id.RowId.{RowId}
use Rattle.desk_laws.specs.Rows.{Row, id_of, same_row, is_row}
use Rattle.desk_laws.specs.Layers.{is_in, are_apart}
use Rattle.desk_laws.specs.Effects.{replaced_in, of_guest}

-- ---- ids

pub same_row-itself : (id : RowId) → same_row id id ≡ true
same_row-itself id = grind (arith, nat_tests)

pub same_row-swapped : (a b : RowId) → same_row a b ≡ same_row b a
same_row-swapped a b = grind (arith, nat_tests)

-- a list has its members
pub is_in-members : (ids : List RowId) → All (λ id. is_in ids id ≡ true) ids
is_in-members [] = All-nil (λ id. is_in [] id ≡ true)
is_in-members (id ∷ ids) =
    All-cons (λ other. is_in (id ∷ ids) other ≡ true) id ids (ap (λ b. b || is_in ids id) (same_row-itself id))
    (All-weaker (λ other. is_in ids other ≡ true) (λ other. is_in (id ∷ ids) other ≡ true) (λ other h. or_right' (same_row other id) (is_in ids other) h) ids (is_in-members ids))
  where
    or_right' : (x y : Bool) → y ≡ true → (x || y) ≡ true
    or_right' true y e = refl
    or_right' false y e = e

-- where no id stands twice, an id stands neither before nor behind its place
pub apart-around : (before after : List RowId) (id : RowId) → are_apart (before ++ id ∷ after) ≡ true
    → (is_in before id ≡ false) × (is_in after id ≡ false)
apart-around [] after id apart = (refl, not-true _ (and_parts _ _ apart).0)
apart-around (b ∷ before) after id apart =
    let parts = and_parts (not (is_in (before ++ id ∷ after) b)) (are_apart (before ++ id ∷ after)) apart in
    let rest = apart-around before after id parts.1 in
    let out : is_in (before ++ id ∷ after) b ≡ false = not-true _ parts.0 in
    let split : (is_in before b || is_in (id ∷ after) b) ≡ false = sym (list_any-append (same_row b) before (id ∷ after)) ∙ out in
    let behind = or_parts (same_row b id) (is_in after b) (or_parts (is_in before b) (is_in (id ∷ after) b) split).1 in
    (or_from _ _ (same_row-swapped id b ∙ behind.0) rest.0, rest.1)

-- an id that isn't there may come last
pub apart-push : (ids : List RowId) (id : RowId) → are_apart ids ≡ true → is_in ids id ≡ false → are_apart (ids ++ id ∷ []) ≡ true
apart-push [] id apart new = refl
apart-push (b ∷ ids) id apart new =
    let parts = and_parts (not (is_in ids b)) (are_apart ids) apart in
    let out = or_parts (same_row id b) (is_in ids id) new in
    let still : is_in (ids ++ id ∷ []) b ≡ false =
    list_any-append (same_row b) ids (id ∷ []) ∙ or_from _ _ (not-true _ parts.0) (or_from _ _ (same_row-swapped b id ∙ out.0) refl) in
    ap (λ v. not v && are_apart (ids ++ id ∷ [])) still ∙ apart-push ids id parts.1 out.1

-- ---- one row replaced

pub row-differs : (guest window : ℕ) (rows : List Row) → is_in (map id_of rows) (record { guest = guest; window = window }) ≡ false
    → All (λ row. is_row guest window row ≡ false) rows
row-differs guest window [] out = All-nil (λ row. is_row guest window row ≡ false)
row-differs guest window (row ∷ rows) out =
    let parts = or_parts (same_row (record { guest = guest; window = window }) (id_of row)) (is_in (map id_of rows) (record { guest = guest; window = window })) out in
    All-cons (λ other. is_row guest window other ≡ false) row rows (swapped row parts.0) (row-differs guest window rows parts.1)
  where
    swapped : (row : Row) → same_row (record { guest = guest; window = window }) (id_of row) ≡ false → is_row guest window row ≡ false
    swapped row e = grind (arith, nat_tests)

pub kept-others : (guest : ℕ) (new : Row) (rows : List Row) → is_in (map id_of rows) (record { guest = guest; window = new.window }) ≡ false
    → map (replaced_in guest new) rows ≡ rows
kept-others guest new rows out =
    map_fixed (replaced_in guest new) rows (All-weaker (λ row. is_row guest new.window row ≡ false) (λ row. replaced_in guest new row ≡ row) (λ row e. ap (λ b. if b then of_guest guest new else row) e) rows (row-differs guest new.window rows out))

-- a row is replaced where it stands, and the others stay
pub replaced-one : (guest : ℕ) (before after : List Row) (row new : Row)
    → is_in (map id_of before) (record { guest = guest; window = new.window }) ≡ false → is_in (map id_of after) (record { guest = guest; window = new.window }) ≡ false
    → is_row guest new.window row ≡ true
    → map (replaced_in guest new) (before ++ row ∷ after) ≡ before ++ of_guest guest new ∷ after
replaced-one guest before after row new front back here =
    map-append (replaced_in guest new) before (row ∷ after)
    ∙ ap (λ rows. rows ++ replaced_in guest new row ∷ map (replaced_in guest new) after) (kept-others guest new before front)
    ∙ ap (λ rows. before ++ replaced_in guest new row ∷ rows) (kept-others guest new after back)
    ∙ ap (λ b. before ++ (if b then of_guest guest new else row) ∷ after) here
