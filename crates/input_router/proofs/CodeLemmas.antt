-- Lists of codes in which none stands twice.
use Rattle.std.proofs.Common.{◌≡◌, ℕ, zero, suc, ◌+◌, ◌<◌, ◌≤◌, Bool, true, false, ◌||◌, not, ◌==◌, List, [], ◌∷◌, ◌++◌, length, refl, sym, ◌∙◌, ap, arith}
use Rattle.std.specs.Prelude.{filter, if◌then◌else◌}
use Rattle.std.specs.List.{All}
use Rattle.std.proofs.lemmas.List.Elements.{All-nil, All-cons, All-head, All-tail, All-push}
use Rattle.std.proofs.lemmas.List.Folds.{list_any-append}
use Rattle.std.proofs.lemmas.Bool.{and_parts, and_from, or_parts, or_from, not-true, eqb-true}
use Rattle.std.proofs.lemmas.Bool.Decides.{nat_tests}
use Rattle.desk_laws.specs.Events.{is_among, released}
use Rattle.input_router.specs.Codes.{are_once, AreCodes}

-- ---- one code more

eqb-swapped : (a b : ℕ) → (a == b) ≡ false → (b == a) ≡ false
eqb-swapped a b e = grind (arith, nat_tests)

not-false : (b : Bool) → b ≡ false → not b ≡ true
not-false b e = ap not e

once-parts : (x : ℕ) (xs : List ℕ) → are_once (x ∷ xs) ≡ true → (is_among x xs ≡ false) × (are_once xs ≡ true)
once-parts x xs once =
    let parts = and_parts (not (is_among x xs)) (are_once xs) once in
    (not-true (is_among x xs) parts.0, parts.1)

once-push : (codes : List ℕ) (code : ℕ) → are_once codes ≡ true → is_among code codes ≡ false → are_once (codes ++ code ∷ []) ≡ true
once-push [] code once new = refl
once-push (c ∷ codes) code once new =
    let parts = once-parts c codes once in
    let out = or_parts (c == code) (is_among code codes) new in
    let still : is_among c (codes ++ code ∷ []) ≡ false =
    list_any-append (λ x. x == c) codes (code ∷ []) ∙ or_from (is_among c codes) ((code == c) || false) parts.0 (or_from (code == c) false (eqb-swapped c code out.0) refl) in
    and_from _ _ (not-false _ still) (once-push codes code parts.1 out.1)

pub put-codes : (codes : List ℕ) (code : ℕ) → AreCodes codes → is_among code codes ≡ false → code < 256 → AreCodes (codes ++ code ∷ [])
put-codes codes code is new small =
    record { once = once-push codes code is.once new; small = All-push (λ c. c < 256) codes code is.small small }

-- ---- fewer codes

out-filter : (p : ℕ → Bool) (x : ℕ) (xs : List ℕ) → is_among x xs ≡ false → is_among x (filter p xs) ≡ false
out-filter p x [] out = refl
out-filter p x (y ∷ xs) out =
    let parts = or_parts (y == x) (is_among x xs) out in
    by_test (p y) parts.0 (out-filter p x xs parts.1)
  where
    by_test : (b : Bool) → (y == x) ≡ false → is_among x (filter p xs) ≡ false → is_among x (if b then y ∷ filter p xs else filter p xs) ≡ false
    by_test true first rest = or_from (y == x) (is_among x (filter p xs)) first rest
    by_test false first rest = rest

once-filter : (p : ℕ → Bool) (xs : List ℕ) → are_once xs ≡ true → are_once (filter p xs) ≡ true
once-filter p [] once = refl
once-filter p (x ∷ xs) once =
    let parts = once-parts x xs once in
    by_test (p x) (out-filter p x xs parts.0) (once-filter p xs parts.1)
  where
    by_test : (b : Bool) → is_among x (filter p xs) ≡ false → are_once (filter p xs) ≡ true → are_once (if b then x ∷ filter p xs else filter p xs) ≡ true
    by_test true out rest = and_from _ _ (not-false _ out) rest
    by_test false out rest = rest

small-filter : (p : ℕ → Bool) (xs : List ℕ) (n : ℕ) → All (λ c. c < n) xs → All (λ c. c < n) (filter p xs)
small-filter p [] n small = small
small-filter p (x ∷ xs) n small =
    by_test (p x) (All-head (λ c. c < n) x xs small) (small-filter p xs n (All-tail (λ c. c < n) x xs small))
  where
    by_test : (b : Bool) → x < n → All (λ c. c < n) (filter p xs) → All (λ c. c < n) (if b then x ∷ filter p xs else filter p xs)
    by_test true first rest = All-cons (λ c. c < n) x (filter p xs) first rest
    by_test false first rest = rest

pub take-codes : (p : ℕ → Bool) (codes : List ℕ) → AreCodes codes → AreCodes (filter p codes)
take-codes p codes is = record { once = once-filter p codes is.once; small = small-filter p codes 256 is.small }

-- ---- there are no more than 256

-- a code that isn't there is taken out in vain
released-out : (n : ℕ) (xs : List ℕ) → is_among n xs ≡ false → released n xs ≡ xs
released-out n [] out = refl
released-out n (x ∷ xs) out =
    let parts = or_parts (x == n) (is_among n xs) out in
    ap (λ b. if not b then x ∷ released n xs else released n xs) parts.0 ∙ ap (λ ys. x ∷ ys) (released-out n xs parts.1)

length-released : (n : ℕ) (xs : List ℕ) → are_once xs ≡ true → length xs ≤ length (released n xs) + 1
length-released n [] once = omega arith
length-released n (x ∷ xs) once =
    let parts = once-parts x xs once in
    by_same (x == n) refl parts.0 (length-released n xs parts.1)
  where
    by_same : (b : Bool) → (x == n) ≡ b → is_among x xs ≡ false → length xs ≤ length (released n xs) + 1
        → suc (length xs) ≤ length (if not b then x ∷ released n xs else released n xs) + 1
    by_same true e out rest =
        let here : released n xs ≡ xs = released-out n xs (ap (λ m. is_among m xs) (sym (eqb-true x n e)) ∙ out) in
        omega (arith, ap (λ (ys : List ℕ). length ys) here)
    by_same false e out rest = omega arith

below-released : (n : ℕ) (xs : List ℕ) → All (λ c. c < suc n) xs → All (λ c. c < n) (released n xs)
below-released n [] small = All-nil (λ c. c < n)
below-released n (x ∷ xs) small =
    by_same (x == n) refl (All-head (λ c. c < suc n) x xs small) (below-released n xs (All-tail (λ c. c < suc n) x xs small))
  where
    by_same : (b : Bool) → (x == n) ≡ b → x < suc n → All (λ c. c < n) (released n xs)
        → All (λ c. c < n) (if not b then x ∷ released n xs else released n xs)
    by_same true e below rest = rest
    by_same false e below rest = All-cons (λ c. c < n) x (released n xs) (grind (arith, nat_tests)) rest

few : (n : ℕ) (xs : List ℕ) → All (λ c. c < n) xs → are_once xs ≡ true → length xs ≤ n
few zero [] small once = omega arith
few zero (x ∷ xs) small once = let below : x < 0 = All-head (λ c. c < 0) x xs small in absurd (omega arith)
few (suc n) xs small once =
    let rest : length (released n xs) ≤ n = few n (released n xs) (below-released n xs small) (once-filter (λ c. not (c == n)) xs once) in
    omega (arith, length-released n xs once)

-- where a code isn't held there is room for it
pub has-room : (codes : List ℕ) (code : ℕ) → AreCodes codes → is_among code codes ≡ false → code < 256 → length codes < 256
has-room codes code is new small =
    let all : length (code ∷ codes) ≤ 256 =
    few 256 (code ∷ codes) (All-cons (λ c. c < 256) code codes small is.small) (and_from _ _ (not-false _ new) is.once) in
    omega arith
