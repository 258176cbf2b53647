-- The lists of the layers, as they follow the rows.
use Rattle.std.proofs.Common.{◌≡◌, Bool, true, false, ◌||◌, not, List, [], ◌∷◌, ◌++◌, map, refl, sym, ◌∙◌, ap}
use Rattle.std.specs.Prelude.{filter, if◌then◌else◌}
use Rattle.std.specs.List.{All}
use Rattle.std.proofs.lemmas.List.{append-nil, map-append}
use Rattle.std.proofs.lemmas.List.Elements.{All-head, All-tail, All-weaker, filter-append}
use Rattle.std.proofs.lemmas.List.Folds.{list_any-append}
use Rattle.std.proofs.lemmas.Bool.{or_left, or_right}
use Rattle.desk_laws.specs.declared.row_id.RowId.{RowId}
use Rattle.desk_laws.specs.Rows.{Row, id_of, same_row}
use Rattle.desk_laws.specs.Layers.{is_in, HaveSame, staying, coming}
use Rattle.desk_laws.proofs.RowLemmas.{is_in-members}

pub filter-all : {X : Type 0} (p : X → Bool) (xs : List X) → All (λ x. p x ≡ true) xs → filter p xs ≡ xs
filter-all p [] h = refl
filter-all p (x ∷ xs) h =
    ap (λ b. if b then x ∷ filter p xs else filter p xs) (All-head (λ y. p y ≡ true) x xs h)
    ∙ ap (λ ys. x ∷ ys) (filter-all p xs (All-tail (λ y. p y ≡ true) x xs h))

pub filter-none : {X : Type 0} (p : X → Bool) (xs : List X) → All (λ x. p x ≡ false) xs → filter p xs ≡ []
filter-none p [] h = refl
filter-none p (x ∷ xs) h =
    ap (λ b. if b then x ∷ filter p xs else filter p xs) (All-head (λ y. p y ≡ false) x xs h)
    ∙ filter-none p xs (All-tail (λ y. p y ≡ false) x xs h)

-- the members of a list that are all in another
are-in : (xs ys zs : List RowId) → ((id : RowId) → is_in xs id ≡ true → is_in ys id ≡ true) → All (λ id. is_in xs id ≡ true) zs → All (λ id. is_in ys id ≡ true) zs
are-in xs ys zs leads h = All-weaker (λ id. is_in xs id ≡ true) (λ id. is_in ys id ≡ true) leads zs h

all-stay : (ids members : List RowId) → ((id : RowId) → is_in members id ≡ true → is_in ids id ≡ true) → filter (is_in ids) members ≡ members
all-stay ids members leads = filter-all (is_in ids) members (are-in members ids members leads (is_in-members members))

-- members come from no list whose ids are all there already
none-come : (xs members : List RowId) → ((id : RowId) → is_in xs id ≡ true → is_in members id ≡ true) → filter (λ id. not (is_in members id)) xs ≡ []
none-come xs members leads =
    filter-none (λ id. not (is_in members id)) xs
    (All-weaker (λ id. is_in xs id ≡ true) (λ id. not (is_in members id) ≡ false) (λ id h. ap not (leads id h)) xs (is_in-members xs))

-- a layer that has its rows stays as it is
pub layer-stays : (rows : List Row) (members : List RowId) → HaveSame members (map id_of rows) → staying rows members ++ coming rows members ≡ members
layer-stays rows members same =
    ap (λ xs. xs ++ coming rows members) (all-stay (map id_of rows) members (λ id h. sym (same id) ∙ h))
    ∙ ap (λ xs. members ++ xs) (none-come (map id_of rows) members (λ id h. same id ∙ h)) ∙ append-nil members

-- a row that comes into a layer comes on top
pub layer-gains : (before after : List Row) (row : Row) (members : List RowId) → HaveSame members (map id_of (before ++ after)) → is_in members (id_of row) ≡ false
    → staying (before ++ row ∷ after) members ++ coming (before ++ row ∷ after) members ≡ members ++ id_of row ∷ []
layer-gains before after row members same new =
    let b = map id_of before in
    let a = map id_of after in
    let id = id_of row in
    let here : HaveSame members (b ++ a) = λ x. same x ∙ ap (λ xs. is_in xs x) (map-append id_of before after) in
    let known : (x : RowId) → is_in members x ≡ (is_in b x || is_in a x) = λ x. here x ∙ list_any-append (same_row x) b a in
    let stay : filter (is_in (b ++ id ∷ a)) members ≡ members =
    all-stay (b ++ id ∷ a) members (λ x h. list_any-append (same_row x) b (id ∷ a) ∙ in_longer (is_in b x) (is_in a x) (same_row x id) (sym (known x) ∙ h)) in
    let gone : filter (λ x. not (is_in members x)) b ≡ [] = none-come b members (λ x h. known x ∙ or_left (is_in b x) (is_in a x) h) in
    let gone' : filter (λ x. not (is_in members x)) a ≡ [] = none-come a members (λ x h. known x ∙ or_right (is_in b x) (is_in a x) h) in
    let come : filter (λ x. not (is_in members x)) (b ++ id ∷ a) ≡ id ∷ [] =
    filter-append (λ x. not (is_in members x)) b (id ∷ a)
    ∙ ap (λ xs. xs ++ filter (λ x. not (is_in members x)) (id ∷ a)) gone
    ∙ ap (λ v. if not v then id ∷ filter (λ x. not (is_in members x)) a else filter (λ x. not (is_in members x)) a) new
    ∙ ap (λ xs. id ∷ xs) gone' in
    ap (λ ids. filter (is_in ids) members ++ filter (λ x. not (is_in members x)) ids) (map-append id_of before (row ∷ after))
    ∙ ap (λ xs. xs ++ filter (λ x. not (is_in members x)) (b ++ id ∷ a)) stay ∙ ap (λ xs. members ++ xs) come
  where
    in_longer : (x y z : Bool) → (x || y) ≡ true → (x || (z || y)) ≡ true
    in_longer true y z h = refl
    in_longer false y true h = refl
    in_longer false y false h = h

-- ids behind which one more comes
pub is_in-push : (ids : List RowId) (new id : RowId) → is_in (ids ++ new ∷ []) id ≡ (is_in ids id || same_row id new)
is_in-push ids new id = list_any-append (same_row id) ids (new ∷ []) ∙ ap (λ v. is_in ids id || v) (or-nothing (same_row id new))
  where
    or-nothing : (v : Bool) → (v || false) ≡ v
    or-nothing true = refl
    or-nothing false = refl

-- a layer that gained a row on top has the ids of its rows again
pub same-gained : (before after : List Row) (row : Row) (members : List RowId) → HaveSame members (map id_of (before ++ after))
    → HaveSame (members ++ id_of row ∷ []) (map id_of (before ++ row ∷ after))
same-gained before after row members same = λ id.
    let b = map id_of before in
    let a = map id_of after in
    is_in-push members (id_of row) id
    ∙ ap (λ v. v || same_row id (id_of row)) (same id ∙ ap (λ xs. is_in xs id) (map-append id_of before after) ∙ list_any-append (same_row id) b a)
    ∙ turned (is_in b id) (is_in a id) (same_row id (id_of row))
    ∙ sym (ap (λ xs. is_in xs id) (map-append id_of before (row ∷ after)) ∙ list_any-append (same_row id) b (id_of row ∷ a))
  where
    turned : (x y z : Bool) → ((x || y) || z) ≡ (x || (z || y))
    turned true y z = refl
    turned false true true = refl
    turned false true false = refl
    turned false false true = refl
    turned false false false = refl
