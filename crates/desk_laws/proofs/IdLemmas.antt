-- Lists of ids in which no id stands twice.
use Rattle.std.proofs.Common.{◌≡◌, ℕ, suc, Bool, true, false, ◌&&◌, ◌||◌, not, ◌==◌, List, [], ◌∷◌, ◌++◌, length, refl, sym, ◌∙◌, ap}
use Rattle.std.specs.Prelude.{filter, if◌then◌else◌}
use Rattle.std.proofs.lemmas.List.Folds.{list_any-append}
use Rattle.std.proofs.lemmas.Bool.{and_parts, or_parts, not-true, or_from, eqb-true}
use Rattle.desk_laws.specs.declared.row_id.RowId.{RowId}
use Rattle.desk_laws.specs.Rows.{same_row}
use Rattle.desk_laws.specs.Layers.{is_in, are_apart, HaveSame, without}
use Rattle.desk_laws.proofs.RowLemmas.{same_row-itself, same_row-swapped}

pub same_row-is : (a b : RowId) → same_row a b ≡ true → a ≡ b
same_row-is a b h =
    let parts = and_parts (a.guest == b.guest) (a.window == b.window) h in
    ap (λ g. row g a.window) (eqb-true a.guest b.guest parts.0) ∙ ap (λ w. row b.guest w) (eqb-true a.window b.window parts.1)
  where
    row : ℕ → ℕ → RowId
    row guest window = record { guest = guest; window = window }

pub and-false : (b : Bool) → (b && false) ≡ false
and-false true = refl
and-false false = refl

and-true : (b : Bool) → (b && true) ≡ b
and-true true = refl
and-true false = refl

-- the members of a filtered list
pub is_in-filter : (p : RowId → Bool) (xs : List RowId) (id : RowId) → is_in (filter p xs) id ≡ (is_in xs id && p id)
is_in-filter p [] id = refl
is_in-filter p (x ∷ xs) id = by_tests (same_row id x) (p x) refl refl (is_in-filter p xs id)
  where
    by_tests : (s b : Bool) → same_row id x ≡ s → p x ≡ b → is_in (filter p xs) id ≡ (is_in xs id && p id)
        → is_in (if b then x ∷ filter p xs else filter p xs) id ≡ ((s || is_in xs id) && p id)
    by_tests true true e k ih = ap (λ v. v || is_in (filter p xs) id) e ∙ sym k ∙ ap p (sym (same_row-is id x e))
    by_tests true false e k ih =
        let no : p id ≡ false = ap p (same_row-is id x e) ∙ k in
        ih ∙ ap (λ v. is_in xs id && v) no ∙ and-false (is_in xs id) ∙ sym no
    by_tests false true e k ih = ap (λ v. v || is_in (filter p xs) id) e ∙ ih
    by_tests false false e k ih = ih

-- a first member
pub is_in-first : (x : RowId) (xs : List RowId) → is_in (x ∷ xs) x ≡ true
is_in-first x xs = ap (λ v. v || is_in xs x) (same_row-itself x)

-- a further member
pub is_in-further : (x y : RowId) (xs : List RowId) → is_in xs y ≡ true → is_in (x ∷ xs) y ≡ true
is_in-further x y xs h = or-right (same_row y x) (is_in xs y) h
  where
    or-right : (a b : Bool) → b ≡ true → (a || b) ≡ true
    or-right true b e = refl
    or-right false b e = e

-- two tests that agree on the members
pub filter-same : (p q : RowId → Bool) (xs : List RowId) → ((x : RowId) → is_in xs x ≡ true → p x ≡ q x) → filter p xs ≡ filter q xs
filter-same p q [] same = refl
filter-same p q (x ∷ xs) same =
    ap (λ b. if b then x ∷ filter p xs else filter p xs) (same x (is_in-first x xs))
    ∙ ap (λ ys. if q x then x ∷ ys else ys) (filter-same p q xs (λ y h. same y (is_in-further x y xs h)))

pub filter-whole : (p : RowId → Bool) (xs : List RowId) → ((x : RowId) → is_in xs x ≡ true → p x ≡ true) → filter p xs ≡ xs
filter-whole p [] all = refl
filter-whole p (x ∷ xs) all =
    ap (λ b. if b then x ∷ filter p xs else filter p xs) (all x (is_in-first x xs))
    ∙ ap (λ ys. x ∷ ys) (filter-whole p xs (λ y h. all y (is_in-further x y xs h)))

pub filter-empty : (p : RowId → Bool) (xs : List RowId) → ((x : RowId) → is_in xs x ≡ true → p x ≡ false) → filter p xs ≡ []
filter-empty p [] none = refl
filter-empty p (x ∷ xs) none =
    ap (λ b. if b then x ∷ filter p xs else filter p xs) (none x (is_in-first x xs))
    ∙ filter-empty p xs (λ y h. none y (is_in-further x y xs h))

-- ---- no id twice

abbrev pub apart-parts : (x : RowId) (xs : List RowId) → are_apart (x ∷ xs) ≡ true → (is_in xs x ≡ false) × (are_apart xs ≡ true)
apart-parts x xs apart =
    let parts = and_parts (not (is_in xs x)) (are_apart xs) apart in
    (not-true (is_in xs x) parts.0, parts.1)

apart-cons : (x : RowId) (xs : List RowId) → is_in xs x ≡ false → are_apart xs ≡ true → are_apart (x ∷ xs) ≡ true
apart-cons x xs out apart = ap (λ v. not v && are_apart xs) out ∙ apart

pub apart-filter : (p : RowId → Bool) (xs : List RowId) → are_apart xs ≡ true → are_apart (filter p xs) ≡ true
apart-filter p [] apart = refl
apart-filter p (x ∷ xs) apart =
    by_test (p x) (apart-parts x xs apart).0 (apart-filter p xs (apart-parts x xs apart).1)
  where
    by_test : (b : Bool) → is_in xs x ≡ false → are_apart (filter p xs) ≡ true → are_apart (if b then x ∷ filter p xs else filter p xs) ≡ true
    by_test true out rest = apart-cons x (filter p xs) (is_in-filter p xs x ∙ ap (λ v. v && p x) out) rest
    by_test false out rest = rest

pub apart-append : (xs ys : List RowId) → are_apart xs ≡ true → are_apart ys ≡ true → ((id : RowId) → is_in xs id ≡ true → is_in ys id ≡ false) → are_apart (xs ++ ys) ≡ true
apart-append [] ys one two out = two
apart-append (x ∷ xs) ys one two out =
    let parts = apart-parts x xs one in
    apart-cons x (xs ++ ys)
    (list_any-append (same_row x) xs ys ∙ or_from (is_in xs x) (is_in ys x) parts.0 (out x (is_in-first x xs)))
    (apart-append xs ys parts.1 two (λ id h. out id (is_in-further x id xs h)))

pub apart-left : (xs ys : List RowId) → are_apart (xs ++ ys) ≡ true → are_apart xs ≡ true
apart-left [] ys apart = refl
apart-left (x ∷ xs) ys apart =
    let parts = apart-parts x (xs ++ ys) apart in
    let out = or_parts (is_in xs x) (is_in ys x) (sym (list_any-append (same_row x) xs ys) ∙ parts.0) in
    apart-cons x xs out.0 (apart-left xs ys parts.1)

pub apart-right : (xs ys : List RowId) → are_apart (xs ++ ys) ≡ true → are_apart ys ≡ true
apart-right [] ys apart = apart
apart-right (x ∷ xs) ys apart = apart-right xs ys (apart-parts x (xs ++ ys) apart).1

-- an id that isn't there is taken out in vain
pub without-out : (id : RowId) (ids : List RowId) → is_in ids id ≡ false → without id ids ≡ ids
without-out id [] out = refl
without-out id (x ∷ ids) out =
    let parts = or_parts (same_row id x) (is_in ids id) out in
    ap (λ b. if not b then x ∷ without id ids else without id ids) parts.0 ∙ ap (λ ys. x ∷ ys) (without-out id ids parts.1)

pub is_in-without : (id : RowId) (ids : List RowId) (other : RowId) → is_in (without id ids) other ≡ (is_in ids other && not (same_row id other))
is_in-without id ids other = is_in-filter (λ x. not (same_row id x)) ids other

-- the one place of an id
pub only-one : (id : RowId) (ids : List RowId) → are_apart ids ≡ true → filter (same_row id) ids ≡ (if is_in ids id then id ∷ [] else [])
only-one id [] apart = refl
only-one id (x ∷ ids) apart =
    by_same (same_row id x) refl (apart-parts x ids apart).0 (only-one id ids (apart-parts x ids apart).1)
  where
    by_same : (b : Bool) → same_row id x ≡ b → is_in ids x ≡ false → filter (same_row id) ids ≡ (if is_in ids id then id ∷ [] else [])
        → (if b then x ∷ filter (same_row id) ids else filter (same_row id) ids) ≡ (if b || is_in ids id then id ∷ [] else [])
    by_same true e out ih =
        let is = same_row-is id x e in
        ap (λ ys. x ∷ ys) (ih ∙ ap (λ v. if v then id ∷ [] else []) (ap (is_in ids) is ∙ out)) ∙ ap (λ y. y ∷ []) (sym is)
    by_same false e out ih = ih

length-in : (id : RowId) (ids : List RowId) → are_apart ids ≡ true → is_in ids id ≡ true → length ids ≡ suc (length (without id ids))
length-in id [] apart here = cc
length-in id (x ∷ ids) apart here =
    by_same (same_row id x) refl (apart-parts x ids apart).0 here (length-in id ids (apart-parts x ids apart).1)
  where
    by_same : (b : Bool) → same_row id x ≡ b → is_in ids x ≡ false → (b || is_in ids id) ≡ true
        → (is_in ids id ≡ true → length ids ≡ suc (length (without id ids)))
        → suc (length ids) ≡ suc (length (if not b then x ∷ without id ids else without id ids))
    by_same true e out h ih = ap (λ ys. suc (length ys)) (sym (without-out id ids (ap (is_in ids) (same_row-is id x e) ∙ out)))
    by_same false e out h ih = ap suc (ih h)

-- two lists with the same members, none of them twice
pub length-same : (xs ys : List RowId) → are_apart xs ≡ true → are_apart ys ≡ true → HaveSame xs ys → length xs ≡ length ys
length-same [] [] one two same = refl
length-same [] (y ∷ ys) one two same = let e = same y ∙ is_in-first y ys in cc
length-same (x ∷ xs) ys one two same =
    let parts = apart-parts x xs one in
    let here : is_in ys x ≡ true = sym (same x) ∙ is_in-first x xs in
    ap suc (length-same xs (without x ys) parts.1 (apart-filter (λ y. not (same_row x y)) ys two) (λ id. rest id (same_row x id) refl parts.0))
    ∙ sym (length-in x ys two here)
  where
    rest : (id : RowId) (b : Bool) → same_row x id ≡ b → is_in xs x ≡ false → is_in xs id ≡ is_in (without x ys) id
    rest id true e out =
        ap (is_in xs) (sym (same_row-is x id e)) ∙ out
        ∙ sym (is_in-without x ys id ∙ ap (λ v. is_in ys id && not v) e ∙ and-false (is_in ys id))
    rest id false e out =
        let back : same_row id x ≡ false = same_row-swapped id x ∙ e in
        ap (λ v. v || is_in xs id) (sym back) ∙ same id
        ∙ sym (is_in-without x ys id ∙ ap (λ v. is_in ys id && not v) e ∙ and-true (is_in ys id))
