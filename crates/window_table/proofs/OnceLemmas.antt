-- Lists in which no number stands twice.
use Rattle.std.proofs.Common.{◌≡◌, ℕ, Bool, true, false, cond, not, ◌||◌, eqb, List, [], ◌∷◌, ◌++◌, map, filter, refl, sym, ap, ◌∙◌}
use Rattle.std.specs.List.{list_any}
use Rattle.std.proofs.lemmas.Bool.{and_parts, and_from, or_parts, or_from, not-true, eqb-false, ne_eqb}
use Rattle.std.proofs.lemmas.List.Folds.{list_any-append}
use Rattle.desk_laws.specs.declared.row_id.RowId.{RowId}
use Rattle.desk_laws.specs.Layers.{is_in, are_apart}

-- whether an element has this number
abbrev pub has_number : {X : Type 0} → (X → ℕ) → ℕ → List X → Bool
has_number f n xs = list_any (λ x. eqb (f x) n) xs

-- no two elements have the same number
abbrev pub OnceBy : {X : Type 0} → (X → ℕ) → List X → Type 0
OnceBy f [] = Unit {0}
OnceBy f (x ∷ xs) = (has_number f (f x) xs ≡ false) × OnceBy f xs

abbrev pub numbered : {X : Type 0} → (X → ℕ) → X → RowId
numbered f x = record { guest = 0; window = f x }

pub eqb-swap : (a b : ℕ) → eqb a b ≡ false → eqb b a ≡ false
eqb-swap a b e = ne_eqb b a (λ same. eqb-false a b e (sym same))

pub or_right : (a b : Bool) → b ≡ true → (a || b) ≡ true
or_right true b e = refl
or_right false b e = e

outside : {X : Type 0} (f : X → ℕ) (n : ℕ) (xs : List X) → is_in (map (numbered f) xs) (record { guest = 0; window = n }) ≡ false →
    has_number f n xs ≡ false
outside f n [] e = refl
outside f n (x ∷ xs) e =
    let parts = or_parts (eqb n (f x)) (is_in (map (numbered f) xs) (record { guest = 0; window = n })) e in
    or_from (eqb (f x) n) (has_number f n xs) (eqb-swap n (f x) parts.0) (outside f n xs parts.1)

pub outside-ids : {X : Type 0} (f : X → ℕ) (n : ℕ) (xs : List X) → has_number f n xs ≡ false →
    is_in (map (numbered f) xs) (record { guest = 0; window = n }) ≡ false
outside-ids f n [] e = refl
outside-ids f n (x ∷ xs) e =
    let parts = or_parts (eqb (f x) n) (has_number f n xs) e in
    or_from (eqb n (f x)) (is_in (map (numbered f) xs) (record { guest = 0; window = n })) (eqb-swap (f x) n parts.0) (outside-ids f n xs parts.1)

pub once-from : {X : Type 0} (f : X → ℕ) (xs : List X) → are_apart (map (numbered f) xs) ≡ true → OnceBy f xs
once-from f [] e = tt
once-from f (x ∷ xs) e =
    let parts = and_parts (not (is_in (map (numbered f) xs) (numbered f x))) (are_apart (map (numbered f) xs)) e in
    (outside f (f x) xs (not-true _ parts.0), once-from f xs parts.1)

pub once-to : {X : Type 0} (f : X → ℕ) (xs : List X) → OnceBy f xs → are_apart (map (numbered f) xs) ≡ true
once-to f [] once = refl
once-to f (x ∷ xs) once =
    and_from (not (is_in (map (numbered f) xs) (numbered f x))) (are_apart (map (numbered f) xs))
    (ap not (outside-ids f (f x) xs once.0)) (once-to f xs once.1)

pub once-push : {X : Type 0} (f : X → ℕ) (xs : List X) (x : X) → OnceBy f xs → has_number f (f x) xs ≡ false → OnceBy f (xs ++ x ∷ [])
once-push f [] x once none = (refl, tt)
once-push f (y ∷ xs) x once none =
    let parts = or_parts (eqb (f y) (f x)) (has_number f (f x) xs) none in (
      list_any-append (λ z. eqb (f z) (f y)) xs (x ∷ [])
          ∙ or_from (has_number f (f y) xs) (has_number f (f y) (x ∷ [])) once.0 (or_from (eqb (f x) (f y)) false (eqb-swap (f y) (f x) parts.0) refl),
      once-push f xs x once.1 parts.1,
    )

any-filter : {X : Type 0} (q p : X → Bool) (xs : List X) → list_any q xs ≡ false → list_any q (filter p xs) ≡ false
any-filter q p [] e = refl
any-filter q p (x ∷ xs) e = let parts = or_parts (q x) (list_any q xs) e in by (p x) parts.0 (any-filter q p xs parts.1)
  where
    by : (b : Bool) → q x ≡ false → list_any q (filter p xs) ≡ false → list_any q (cond b (x ∷ filter p xs) (filter p xs)) ≡ false
    by true here later = or_from (q x) (list_any q (filter p xs)) here later
    by false here later = later

pub once-filter : {X : Type 0} (f : X → ℕ) (p : X → Bool) (xs : List X) → OnceBy f xs → OnceBy f (filter p xs)
once-filter f p [] once = tt
once-filter f p (x ∷ xs) once = by (p x) (any-filter (λ y. eqb (f y) (f x)) p xs once.0) (once-filter f p xs once.1)
  where
    by : (b : Bool) → has_number f (f x) (filter p xs) ≡ false → OnceBy f (filter p xs) → OnceBy f (cond b (x ∷ filter p xs) (filter p xs))
    by true here later = (here, later)
    by false here later = later

has-map : {X : Type 0} (f : X → ℕ) (g : X → X) (n : ℕ) (xs : List X) → ((x : X) → f (g x) ≡ f x) → has_number f n (map g xs) ≡ has_number f n xs
has-map f g n [] same = refl
has-map f g n (x ∷ xs) same =
    ap (λ m. eqb m n || has_number f n (map g xs)) (same x) ∙ ap (λ b. eqb (f x) n || b) (has-map f g n xs same)

pub once-map : {X : Type 0} (f : X → ℕ) (g : X → X) (xs : List X) → ((x : X) → f (g x) ≡ f x) → OnceBy f xs → OnceBy f (map g xs)
once-map f g [] same once = tt
once-map f g (x ∷ xs) same once =
    (ap (λ m. has_number f m (map g xs)) (same x) ∙ has-map f g (f x) xs same ∙ once.0, once-map f g xs same once.1)

pub has-of-map : {X Y : Type 0} (f : Y → ℕ) (g : X → Y) (n : ℕ) (xs : List X) → has_number f n (map g xs) ≡ has_number (λ x. f (g x)) n xs
has-of-map f g n [] = refl
has-of-map f g n (x ∷ xs) = ap (λ b. eqb (f (g x)) n || b) (has-of-map f g n xs)

pub once-of-map : {X Y : Type 0} (f : Y → ℕ) (g : X → Y) (xs : List X) → OnceBy f (map g xs) → OnceBy (λ x. f (g x)) xs
once-of-map f g [] once = tt
once-of-map f g (x ∷ xs) once = (sym (has-of-map f g (f (g x)) xs) ∙ once.0, once-of-map f g xs once.1)
