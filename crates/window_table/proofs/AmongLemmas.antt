-- Numbers that are found in a list, and what is left without one.
use Rattle.std.proofs.Common.{◌≡◌, ◌≢◌, ◌⊎◌, inl, inr, ℕ, zero, suc, ◌<◌, Bool, true, false, cond, not, ◌||◌, eqb, List, [], ◌∷◌, ◌++◌, length, get_or, map, filter, find, Some, None, is_some, option_map, refl, sym, ap, ◌∙◌, arith}
use Rattle.std.proofs.lemmas.Bool.{eqb-true, eqb-false, eq-eqb}
use Rattle.std.proofs.lemmas.List.Folds.{list_any-append}
use Rattle.window_table.specs.Kept.{among}
use Rattle.window_table.proofs.OnceLemmas.{has_number, or_right}

pub find-map : {X Y : Type 0} (p : Y → Bool) (f : X → Y) (xs : List X) → find p (map f xs) ≡ option_map f (find (λ x. p (f x)) xs)
find-map p f [] = refl
find-map p f (x ∷ xs) = by (p (f x)) (find-map p f xs)
  where
    by : (b : Bool) → find p (map f xs) ≡ option_map f (find (λ y. p (f y)) xs) →
        cond b (Some (f x)) (find p (map f xs)) ≡ option_map f (cond b (Some x) (find (λ y. p (f y)) xs))
    by true later = refl
    by false later = later

pub find-none : {X : Type 0} (f : X → ℕ) (n : ℕ) (xs : List X) → find (λ x. eqb (f x) n) xs ≡ None → has_number f n xs ≡ false
find-none f n [] e = refl
find-none f n (x ∷ xs) e = by (eqb (f x) n) (λ h. find-none f n xs h) e
  where
    by : (b : Bool) → (find (λ y. eqb (f y) n) xs ≡ None → has_number f n xs ≡ false) →
        cond b (Some x) (find (λ y. eqb (f y) n) xs) ≡ None → (b || has_number f n xs) ≡ false
    by true later e = absurd cc
    by false later e = later e

pub none-find : {X : Type 0} (f : X → ℕ) (n : ℕ) (xs : List X) → is_some (find (λ x. eqb (f x) n) xs) ≡ false → has_number f n xs ≡ false
none-find f n [] e = refl
none-find f n (x ∷ xs) e = by (eqb (f x) n) (λ h. none-find f n xs h) e
  where
    by : (b : Bool) → (is_some (find (λ y. eqb (f y) n) xs) ≡ false → has_number f n xs ≡ false) →
        is_some (cond b (Some x) (find (λ y. eqb (f y) n) xs)) ≡ false → (b || has_number f n xs) ≡ false
    by true later e = absurd cc
    by false later e = later e

-- what is found is there, and has the number
pub found-is : (f : ℕ → ℕ) (n : ℕ) (order : List ℕ) (key : ℕ) → find (λ k. eqb (f k) n) order ≡ Some key →
    (among key order ≡ true) × (f key ≡ n)
found-is f n [] key e = absurd cc
found-is f n (k ∷ order) key e = by (eqb (f k) n) (λ h. found-is f n order key h) refl e
  where
    by : (b : Bool) → (find (λ j. eqb (f j) n) order ≡ Some key → (among key order ≡ true) × (f key ≡ n)) →
        eqb (f k) n ≡ b → cond b (Some k) (find (λ j. eqb (f j) n) order) ≡ Some key →
        ((eqb k key || among key order) ≡ true) × (f key ≡ n)
    by true rest is e =
        let same : k ≡ key = cc in
        (ap (λ b. b || among key order) (eq-eqb k key same), ap f (sym same) ∙ eqb-true (f k) n is)
    by false rest is e = let later = rest e in (or_right (eqb k key) (among key order) later.0, later.1)

pub among-here : (order : List ℕ) (slot : ℕ) → among slot (slot ∷ order) ≡ true
among-here order slot = ap (λ b. b || among slot order) (eq-eqb slot slot refl)

-- an element of the list
pub among-at : (order : List ℕ) (k d : ℕ) → k < length order → among (get_or order k d) order ≡ true
among-at [] k d l = absurd (omega arith)
among-at (j ∷ order) zero d l = among-here order j
among-at (j ∷ order) (suc k) d l = or_right (eqb j (get_or order k d)) (among (get_or order k d) order) (among-at order k d (omega arith))

-- what is left without a number
pub among-without : (slot other : ℕ) (order : List ℕ) → among other (filter (λ k. not (eqb k slot)) order) ≡ true →
    (among other order ≡ true) × (other ≢ slot)
among-without slot other [] e = absurd cc
among-without slot other (k ∷ order) e = by (eqb k slot) refl (λ h. among-without slot other order h) e
  where
    here : eqb k slot ≡ false → (among other (filter (λ j. not (eqb j slot)) order) ≡ true → (among other order ≡ true) × (other ≢ slot)) →
        (b : Bool) → eqb k other ≡ b → (b || among other (filter (λ j. not (eqb j slot)) order)) ≡ true →
        ((b || among other order) ≡ true) × (other ≢ slot)
    here differs rest true is e = (refl, λ same. eqb-false k slot differs (eqb-true k other is ∙ same))
    here differs rest false is e = rest e

    by : (b : Bool) → eqb k slot ≡ b →
        (among other (filter (λ j. not (eqb j slot)) order) ≡ true → (among other order ≡ true) × (other ≢ slot)) →
        among other (cond (not b) (k ∷ filter (λ j. not (eqb j slot)) order) (filter (λ j. not (eqb j slot)) order)) ≡ true →
        ((eqb k other || among other order) ≡ true) × (other ≢ slot)
    by true is rest e = let later = rest e in (or_right (eqb k other) (among other order) later.0, later.1)
    by false is rest e = here is rest (eqb k other) refl e

-- what is behind an element
pub among-push : (order : List ℕ) (key other : ℕ) → among other (order ++ key ∷ []) ≡ true → (among other order ≡ true) ⊎ (other ≡ key)
among-push order key other e = by (among other order) refl (sym (list_any-append (λ k. eqb k other) order (key ∷ [])) ∙ e)
  where
    last : (b : Bool) → eqb key other ≡ b → (b || false) ≡ true → other ≡ key
    last true is e = sym (eqb-true key other is)
    last false is e = absurd cc

    by : (b : Bool) → among other order ≡ b → (b || (eqb key other || false)) ≡ true → (among other order ≡ true) ⊎ (other ≡ key)
    by true is e = inl is
    by false is e = inr (last (eqb key other) refl e)
