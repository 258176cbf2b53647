-- Searches through a list of ids, as far as they have come.
use Rattle.std.proofs.Common.{◌≡◌, ℕ, zero, suc, ◌≤◌, Bool, true, false, ◌||◌, List, [], ◌∷◌, ◌++◌, length, take, drop, reverse, Option, Some, None, refl, sym, ◌∙◌, ap, arith, take_all, length-append}
use Rattle.std.specs.Prelude.{find, slice_get, if◌then◌else◌}
use Rattle.std.specs.Option.{option_or}
use Rattle.std.proofs.lemmas.List.{reverse-append, length-reverse}
use Rattle.std.proofs.lemmas.List.Folds.{list_any-append, find-append}
use Rattle.desk_laws.specs.declared.row_id.RowId.{RowId}
use Rattle.desk_laws.specs.Rows.{same_row}
use Rattle.desk_laws.specs.Layers.{Layers, HaveRowsOnce, is_in, or_else, last_that}
use Rattle.desk_laws.proofs.IdLemmas.{is_in-first, is_in-further}
use Rattle.desk_laws.proofs.RowLemmas.{same_row-itself}
use Rattle.input_router.specs.Walks.{passing}

-- what is found from one place on is found there, or behind it
pub find-step : (test : RowId → Bool) (xs : List RowId) (k : ℕ) → find test (drop k xs) ≡ or_else (passing test (slice_get xs k)) (find test (drop (suc k) xs))
find-step test [] zero = refl
find-step test [] (suc k) = refl
find-step test (x ∷ xs) zero = by_test (test x)
  where
    by_test : (b : Bool) → (if b then Some x else find test xs) ≡ or_else (if b then Some x else None) (find test xs)
    by_test true = refl
    by_test false = refl
find-step test (x ∷ xs) (suc k) = find-step test xs k

pub find-hit : (test : RowId → Bool) (xs : List RowId) (k : ℕ) (id : RowId) → find test (drop k xs) ≡ find test xs → passing test (slice_get xs k) ≡ Some id → find test xs ≡ Some id
find-hit test xs k id so hit = sym so ∙ find-step test xs k ∙ ap (λ o. or_else o (find test (drop (suc k) xs))) hit

pub find-miss : (test : RowId → Bool) (xs : List RowId) (k n : ℕ) → n ≡ suc k → find test (drop k xs) ≡ find test xs → passing test (slice_get xs k) ≡ None → find test (drop n xs) ≡ find test xs
find-miss test xs k n next so miss =
    ap (λ m. find test (drop m xs)) next ∙ sym (find-step test xs k ∙ ap (λ o. or_else o (find test (drop (suc k) xs))) miss) ∙ so

find-end : (test : RowId → Bool) (xs : List RowId) (k : ℕ) → length xs ≤ k → find test (drop k xs) ≡ None
find-end test [] zero past = refl
find-end test [] (suc k) past = refl
find-end test (x ∷ xs) zero past = absurd (omega arith)
find-end test (x ∷ xs) (suc k) past = find-end test xs k (omega arith)

-- where nothing is left to be searched, none is found
pub find-none : (test : RowId → Bool) (xs : List RowId) (k : ℕ) → find test (drop k xs) ≡ find test xs → length xs ≤ k → None ≡ find test xs
find-none test xs k so past = sym (find-end test xs k past) ∙ so

-- the last one of one more is that one, or one before it
pub last-step : (test : RowId → Bool) (xs : List RowId) (k : ℕ) → last_that test (take (suc k) xs) ≡ or_else (passing test (slice_get xs k)) (last_that test (take k xs))
last-step test [] zero = refl
last-step test [] (suc k) = refl
last-step test (x ∷ xs) zero = by_test (test x)
  where
    by_test : (b : Bool) → (if b then Some x else None) ≡ or_else (if b then Some x else None) None
    by_test true = refl
    by_test false = refl
last-step test (x ∷ xs) (suc k) =
    ap (λ o. or_else o (if test x then Some x else None)) (last-step test xs k)
    ∙ turned (passing test (slice_get xs k)) (last_that test (take k xs)) (if test x then Some x else None)
  where
    turned : (a b c : Option RowId) → or_else (or_else a b) c ≡ or_else a (or_else b c)
    turned (Some y) b c = refl
    turned None b c = refl

pub last-hit : (test : RowId → Bool) (xs : List RowId) (k n : ℕ) (id : RowId) → n ≡ suc k → last_that test (take n xs) ≡ last_that test xs → passing test (slice_get xs k) ≡ Some id → last_that test xs ≡ Some id
last-hit test xs k n id next so hit =
    sym so ∙ ap (λ m. last_that test (take m xs)) next ∙ last-step test xs k ∙ ap (λ o. or_else o (last_that test (take k xs))) hit

pub last-miss : (test : RowId → Bool) (xs : List RowId) (k n : ℕ) → n ≡ suc k → last_that test (take n xs) ≡ last_that test xs → passing test (slice_get xs k) ≡ None → last_that test (take k xs) ≡ last_that test xs
last-miss test xs k n next so miss =
    sym (ap (λ m. last_that test (take m xs)) next ∙ last-step test xs k ∙ ap (λ o. or_else o (last_that test (take k xs))) miss) ∙ so

-- ---- what is found is a member

pub find-in : (test : RowId → Bool) (xs : List RowId) (id : RowId) → find test xs ≡ Some id → is_in xs id ≡ true
find-in test [] id found = absurd (cc)
find-in test (x ∷ xs) id found = by_test (test x) (λ f. find-in test xs id f) found
  where
    right : (a b : Bool) → b ≡ true → (a || b) ≡ true
    right true b e = refl
    right false b e = e

    by_test : (b : Bool) → (find test xs ≡ Some id → is_in xs id ≡ true) → (if b then Some x else find test xs) ≡ Some id → (same_row id x || is_in xs id) ≡ true
    by_test true others f =
        let first : x ≡ id = cc in
        ap (λ y. same_row id y || is_in xs id) first ∙ ap (λ b. b || is_in xs id) (same_row-itself id)
    by_test false others f = right (same_row id x) (is_in xs id) (others f)

-- one element in front of a list is one behind the reversed list
reverse-front : {X : Type 0} (x : X) (xs : List X) → reverse (x ∷ xs) ≡ reverse xs ++ x ∷ []
reverse-front x xs = reverse-append (x ∷ []) xs

-- the last one is the first of the reversed list
pub last-reverse : {X : Type 0} (test : X → Bool) (xs : List X) → last_that test xs ≡ find test (reverse xs)
last-reverse test [] = refl
last-reverse {X = X} test (x ∷ xs) =
    ap (λ o. or_else o (if test x then Some x else None)) (last-reverse test xs)
    ∙ same (find test (reverse xs)) (test x)
    ∙ sym (ap (find test) (reverse-front x xs) ∙ find-append test (reverse xs) (x ∷ []))
  where
    same : (o : Option X) (b : Bool) → or_else o (if b then Some x else None) ≡ option_or o (if b then Some x else None)
    same (Some y) b = refl
    same None b = refl

pub is_in-reverse : (xs : List RowId) (id : RowId) → is_in (reverse xs) id ≡ is_in xs id
is_in-reverse [] id = refl
is_in-reverse (x ∷ xs) id =
    ap (λ ys. is_in ys id) (reverse-front x xs)
    ∙ list_any-append (same_row id) (reverse xs) (x ∷ [])
    ∙ ap (λ b. b || (same_row id x || false)) (is_in-reverse xs id)
    ∙ turned (is_in xs id) (same_row id x)
  where
    turned : (a b : Bool) → (a || (b || false)) ≡ (b || a)
    turned true true = refl
    turned true false = refl
    turned false true = refl
    turned false false = refl

pub last-in : (test : RowId → Bool) (xs : List RowId) (id : RowId) → last_that test xs ≡ Some id → is_in xs id ≡ true
last-in test xs id found = sym (is_in-reverse xs id) ∙ find-in test (reverse xs) id (sym (last-reverse test xs) ∙ found)

-- a row that is found in the stack is listed
pub top-listed : (test : RowId → Bool) (layers : Layers) (id : RowId) → HaveRowsOnce layers → find test (reverse (layers.normal ++ layers.over)) ≡ Some id → is_in layers.focus id ≡ true
top-listed test layers id once found =
    once.same id ∙ sym (is_in-reverse (layers.normal ++ layers.over) id) ∙ find-in test (reverse (layers.normal ++ layers.over)) id found

-- as many stand in the stack as in the focus list
pub stack-length : (layers : Layers) → HaveRowsOnce layers → length (reverse (layers.normal ++ layers.over)) ≡ length layers.focus
stack-length layers once =
    omega (arith, length-reverse (layers.normal ++ layers.over), length-append layers.normal layers.over, once.counted)

pub take-whole : {X : Type 0} (xs : List X) (n : ℕ) → n ≡ length xs → take n xs ≡ xs
take-whole xs n e = take_all n xs (omega arith)

last-end : (test : RowId → Bool) (xs : List RowId) (n : ℕ) → n ≤ 0 → last_that test (take n xs) ≡ None
last-end test xs zero none = refl
last-end test xs (suc n) none = absurd (omega arith)

pub last-none : (test : RowId → Bool) (xs : List RowId) (n : ℕ) → last_that test (take n xs) ≡ last_that test xs → n ≤ 0 → None ≡ last_that test xs
last-none test xs n so none = sym (last-end test xs n none) ∙ so

-- two tests that agree on the members find the same one
pub last-same : (p q : RowId → Bool) (xs : List RowId) → ((id : RowId) → is_in xs id ≡ true → p id ≡ q id) → last_that p xs ≡ last_that q xs
last-same p q [] same = refl
last-same p q (x ∷ xs) same =
    ap (λ o. or_else o (if p x then Some x else None)) (last-same p q xs (λ id here. same id (is_in-further x id xs here)))
    ∙ ap (λ b. or_else (last_that q xs) (if b then Some x else None)) (same x (is_in-first x xs))
