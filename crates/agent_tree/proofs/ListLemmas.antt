-- Edits of the first element that passes a test.
use Rattle.std.proofs.Common.{◌≡◌, ℕ, zero, suc, map, ◌+◌, ◌<◌, Bool, true, false, List, [], ◌∷◌, ◌++◌, length, take, drop, get_or, set, Some, None, refl, sym, ◌∙◌, ap, subst, arith, if◌then◌else◌, add-one}
use Rattle.std.specs.Prelude.{◌||◌, find, slice_get}
use Rattle.std.specs.List.{list_any, remove}
use Rattle.std.proofs.lemmas.List.{take-append-drop, set_split, drop_more}
use Rattle.agent_tree.specs.Lists.{at_first, without_first, IsFirst}

pub either : (a b : Bool) → (a || b) ≡ false → (a ≡ false) × (b ≡ false)
either true b e = cc
either false b e = (refl, e)

pub if-true : {A : Type 0} (x y : A) (t : Bool) → t ≡ true → (if t then x else y) ≡ x
if-true x y true e = refl
if-true x y false e = cc

pub if-false : {A : Type 0} (x y : A) (t : Bool) → t ≡ false → (if t then x else y) ≡ y
if-false x y true e = cc
if-false x y false e = refl

pub at_first-split : {X : Type 0} (test : X → Bool) (f : X → X) (before after : List X) (x : X) → list_any test before ≡ false → test x ≡ true
    → at_first test f (before ++ x ∷ after) ≡ before ++ f x ∷ after
at_first-split test f [] after x n h = if-true _ _ (test x) h
at_first-split test f (y ∷ before) after x n h =
    let e = either (test y) (list_any test before) n in
    if-false _ _ (test y) e.0 ∙ ap (λ ys. y ∷ ys) (at_first-split test f before after x e.1 h)

pub without_first-split : {X : Type 0} (test : X → Bool) (before after : List X) (x : X) → list_any test before ≡ false → test x ≡ true
    → without_first test (before ++ x ∷ after) ≡ before ++ after
without_first-split test [] after x n h = if-true _ _ (test x) h
without_first-split test (y ∷ before) after x n h =
    let e = either (test y) (list_any test before) n in
    if-false _ _ (test y) e.0 ∙ ap (λ ys. y ∷ ys) (without_first-split test before after x e.1 h)

pub find-split : {X : Type 0} (test : X → Bool) (before after : List X) (x : X) → list_any test before ≡ false → test x ≡ true
    → find test (before ++ x ∷ after) ≡ Some x
find-split test [] after x n h = if-true _ _ (test x) h
find-split test (y ∷ before) after x n h =
    let e = either (test y) (list_any test before) n in
    if-false _ _ (test y) e.0 ∙ find-split test before after x e.1 h

pub any-split : {X : Type 0} (test : X → Bool) (before after : List X) (x : X) → test x ≡ true → list_any test (before ++ x ∷ after) ≡ true
any-split test [] after x h = ap (λ t. t || list_any test after) h
any-split test (y ∷ before) after x h = ap (λ t. test y || t) (any-split test before after x h) ∙ or_true (test y)
  where
    or_true : (b : Bool) → (b || true) ≡ true
    or_true true = refl
    or_true false = refl

-- a list around one of its elements
pub split-at : {X : Type 0} (xs : List X) (k : ℕ) (d : X) → k < length xs → xs ≡ take k xs ++ get_or xs k d ∷ drop (k + 1) xs
split-at xs k d h = sym (take-append-drop k xs) ∙ ap (λ ys. take k xs ++ ys) (drop_more xs k d h)

pub at_first-at : {X : Type 0} (test : X → Bool) (f : X → X) (xs : List X) (k : ℕ) (d : X) → IsFirst test xs k → at_first test f xs ≡ set xs k (f (get_or xs k d))
at_first-at test f xs k d i =
    ap (at_first test f) (split-at xs k d i.within) ∙ at_first-split test f (take k xs) (drop (k + 1) xs) (get_or xs k d) i.none (i.here d)
    ∙ ap (λ n. take k xs ++ f (get_or xs k d) ∷ drop n xs) (let e : k + 1 ≡ suc k = add-one k in e) ∙ sym (set_split xs k (f (get_or xs k d)) i.within)

pub without_first-at : {X : Type 0} (test : X → Bool) (xs : List X) (k : ℕ) (d : X) → IsFirst test xs k → without_first test xs ≡ remove xs k
without_first-at test xs k d i =
    ap (without_first test) (split-at xs k d i.within) ∙ without_first-split test (take k xs) (drop (k + 1) xs) (get_or xs k d) i.none (i.here d)
    ∙ ap (λ n. take k xs ++ drop n xs) (add-one k)

pub find-at : {X : Type 0} (test : X → Bool) (xs : List X) (k : ℕ) (d : X) → IsFirst test xs k → find test xs ≡ Some (get_or xs k d)
find-at test xs k d i = ap (find test) (split-at xs k d i.within) ∙ find-split test (take k xs) (drop (k + 1) xs) (get_or xs k d) i.none (i.here d)

pub any-at : {X : Type 0} (test : X → Bool) (xs : List X) (k : ℕ) (d : X) → IsFirst test xs k → list_any test xs ≡ true
any-at test xs k d i = ap (list_any test) (split-at xs k d i.within) ∙ any-split test (take k xs) (drop (k + 1) xs) (get_or xs k d) (i.here d)

pub find-none : {X : Type 0} (test : X → Bool) (xs : List X) → list_any test xs ≡ false → find test xs ≡ None
find-none test [] e = refl
find-none test (x ∷ xs) e = let n = either (test x) (list_any test xs) e in if-false _ _ (test x) n.0 ∙ find-none test xs n.1

pub any-append : {X : Type 0} (test : X → Bool) (xs ys : List X) → list_any test (xs ++ ys) ≡ (list_any test xs || list_any test ys)
any-append test [] ys = refl
any-append test (x ∷ xs) ys = ap (λ t. test x || t) (any-append test xs ys) ∙ assoc (test x) (list_any test xs) (list_any test ys)
  where
    assoc : (a b c : Bool) → (a || (b || c)) ≡ ((a || b) || c)
    assoc true b c = refl
    assoc false b c = refl

-- none of a part passes where none of the whole does
pub any-part : {X : Type 0} (test : X → Bool) (xs ys : List X) → list_any test (xs ++ ys) ≡ false → list_any test xs ≡ false
any-part test xs ys e = (either (list_any test xs) (list_any test ys) (sym (any-append test xs ys) ∙ e)).0

-- what has an index passes, whatever the element
pub any-first : {X : Type 0} (test : X → Bool) (xs : List X) (k : ℕ) → IsFirst test xs k → list_any test xs ≡ true
any-first test [] k i = absurd (let h = i.within in omega arith)
any-first test (x ∷ xs) k i = any-at test (x ∷ xs) k x i

-- one element more of a list that is mapped in place
pub mapped-more : {A : Type 0} (f : A → A) (xs : List A) (k : ℕ) (t : A) → k < length xs → slice_get (map f (take k xs) ++ drop k xs) k ≡ Some t
    → set (map f (take k xs) ++ drop k xs) k (f t) ≡ map f (take (suc k) xs) ++ drop (suc k) xs
mapped-more f [] k t below is = absurd (omega (arith, below))
mapped-more {A} f (x ∷ xs) zero t below is = ap (λ (y : A). f y ∷ xs) (let e : Some x ≡ Some t = is in sym (cc))
mapped-more {A} f (x ∷ xs) (suc k) t below is = ap (λ (l : List A). f x ∷ l) (mapped-more f xs k t (omega (arith, below)) is)

get-within : {A : Type 0} (xs : List A) (k : ℕ) → k < length xs → (t : A) × (slice_get xs k ≡ Some t)
get-within [] k below = absurd (omega (arith, below))
get-within (x ∷ xs) zero below = (x, refl)
get-within (x ∷ xs) (suc k) below = get-within xs k (omega (arith, below))

length-mapped : {A : Type 0} (f : A → A) (xs : List A) (k : ℕ) → length (map f (take k xs) ++ drop k xs) ≡ length xs
length-mapped f [] zero = refl
length-mapped f [] (suc k) = refl
length-mapped f (x ∷ xs) zero = refl
length-mapped f (x ∷ xs) (suc k) = ap (λ (n : ℕ). suc n) (length-mapped f xs k)

-- a loop that maps a list in place goes on
pub mapped-on : {A : Type 0} (f : A → A) (xs ys zs : List A) (k : ℕ) → k < length xs → ys ≡ map f (take k xs) ++ drop k xs → ((t : A) → slice_get ys k ≡ Some t → zs ≡ set ys k (f t))
    → zs ≡ map f (take (k + 1) xs) ++ drop (k + 1) xs
mapped-on {A} f xs ys zs k below is next =
    let here = get-within ys k (omega (arith, below, ap (λ (l : List A). length l) is, length-mapped f xs k)) in
    let more : suc k ≡ k + 1 = omega arith in
    next here.0 here.1 ∙ ap (λ (l : List A). set l k (f here.0)) is
    ∙ mapped-more f xs k here.0 below (subst (λ (l : List A). slice_get l k ≡ Some here.0) is here.1)
    ∙ ap (λ (n : ℕ). map f (take n xs) ++ drop n xs) more

-- once all was mapped
pub mapped-all : {A : Type 0} (f : A → A) (xs : List A) → map f (take (length xs) xs) ++ drop (length xs) xs ≡ map f xs
mapped-all f [] = refl
mapped-all {A} f (x ∷ xs) = ap (λ (l : List A). f x ∷ l) (mapped-all f xs)
