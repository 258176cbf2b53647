-- Several of a kind, one after the other: spelled and read, and how many bytes they take.
use Rattle.std.proofs.Common.{◌≡◌, ℕ, zero, suc, ◌+◌, ◌*◌, ◌<◌, ◌≤◌, List, [], ◌∷◌, ◌++◌, length, take, drop, get_or, Bool, true, false, Result, Ok, Err, refl, sym, ap, ◌∙◌, subst, arith, append_assoc, append-nil, length-append, length-take}
use Rattle.std.proofs.Math.Seq.{take-append_seam}
use Rattle.std.proofs.lemmas.Bool.{and_parts}
use Rattle.std.proofs.lemmas.Bool.Decides.{nat_tests}
use Rattle.std.proofs.lemmas.List.{take-append-drop, take_more}
use Rattle.std.proofs.lemmas.List.Sums.{sum_by-cons}
use Rattle.std.proofs.lemmas.List.Concat.{flat_map-append}
use Rattle.std.specs.Prelude.{nat_lt, if◌then◌else◌}
use Rattle.std.specs.List.{flat_map, list_all, sum_by}
use Rattle.io_ports.specs.Content.{IsPrefix}
use Rattle.io_ports.specs.declared.feed.RecordKind.TheVariants as kinds
use Rattle.gui_wire.proofs.WordLemmas.{AreBytes, AreBytes-take}
use Rattle.record_format.specs.Config.{Wrong, Fault, fault, part_of, with_items, many_of, ◌>>=◌}

-- ---- spelled and read

-- each that is good is read as it was spelled, so all are
pub many_back : {X : Type 0} (one : List ℕ → Result (X × List ℕ) Wrong) (spelling : X → List ℕ) (good : X → Bool) → ((x : X) (rest : List ℕ) → good x ≡ true → one (spelling x ++ rest) ≡ Ok (x, rest))
    → (xs : List X) (tail : List ℕ) → list_all good xs ≡ true → many_of one (length xs) (flat_map spelling xs ++ tail) ≡ Ok (xs, tail)
many_back one spelling good back [] tail right = refl
many_back one spelling good back (x ∷ xs) tail right =
    let parts = and_parts (good x) (list_all good xs) right in
    ap (many_of one (length (x ∷ xs))) (append_assoc (spelling x) (flat_map spelling xs) tail)
    ∙ ap (λ r. r >>= λ first. with_items (first.0 ∷ []) (many_of one (length xs) first.1)) (back x (flat_map spelling xs ++ tail) parts.0)
    ∙ ap (with_items (x ∷ [])) (many_back one spelling good back xs tail parts.1)

-- of a reading and then another nothing but both is right
pub bind_was : {A B : Type 0} (r : Result A Wrong) (f : A → Result B Wrong) (y : B) → (r >>= f) ≡ Ok y → (x : A) × (r ≡ Ok x) × (f x ≡ Ok y)
bind_was (Ok x) f y is = (x, refl, is)
bind_was (Err e) f y is = absurd (cc)

pub else_was : {A : Type 0} (b : Bool) (w : Wrong) (r : Result A Wrong) (x : A) → (if b then Err w else r) ≡ Ok x → (b ≡ false) × (r ≡ Ok x)
else_was true w r x is = absurd (cc)
else_was false w r x is = (refl, is)

pub enough : (a b : ℕ) → nat_lt a b ≡ false → b ≤ a
enough a b is = grind (arith, nat_tests, is)

-- a part that was read
pub part_was : (size : ℕ) (bytes part rest : List ℕ) → part_of size bytes ≡ Ok (part, rest) → (bytes ≡ part ++ rest) × (length part ≡ size)
part_was size bytes part rest is =
    let found = else_was (nat_lt (length bytes) size) (Fault (fault 4 kinds.Short)) (Ok (take size bytes, drop size bytes)) (part, rest) is in
    let long = enough (length bytes) size found.0 in
    let same : ◌≡◌ {A = List ℕ × List ℕ} (take size bytes, drop size bytes) (part, rest) = cc in
    let front : take size bytes ≡ part = ap (λ (p : List ℕ × List ℕ). p.0) same in
    (sym (take-append-drop size bytes) ∙ (λ i. front i ++ (ap (λ (p : List ℕ × List ℕ). p.1) same) i), omega (arith, ap length front, long, length-take size bytes))

with_was : {X : Type 0} (front xs : List X) (r : Result (List X × List ℕ) Wrong) (rest : List ℕ) → with_items front r ≡ Ok (xs, rest)
    → (others : List X) × (r ≡ Ok (others, rest)) × (xs ≡ front ++ others)
with_was {X} front xs (Ok found) rest is =
    let same : ◌≡◌ {A = List X × List ℕ} (front ++ found.0, found.1) (xs, rest) = cc in
    (found.0, ap (λ (l : List ℕ). Ok (found.0, l)) (ap (λ (p : List X × List ℕ). p.1) same), sym (ap (λ (p : List X × List ℕ). p.0) same))
with_was front xs (Err w) rest is = absurd (cc)

-- what is left of bytes are bytes
pub rest_are : (front rest bytes : List ℕ) → bytes ≡ front ++ rest → AreBytes bytes → AreBytes rest
rest_are [] rest bytes is h = subst AreBytes is h
rest_are (x ∷ front) rest bytes is h = rest_are front rest (front ++ rest) refl (λ k. subst AreBytes is h (suc k))

-- and so is what they begin with
pub front_are : (front rest bytes : List ℕ) → bytes ≡ front ++ rest → AreBytes bytes → AreBytes front
front_are front rest bytes is h = subst AreBytes (ap (take (length front)) is ∙ take-append_seam front rest) (AreBytes-take (length front) bytes h)

-- each that is read was spelled, so all were
pub many_were : {X : Type 0} (one : List ℕ → Result (X × List ℕ) Wrong) (spelling : X → List ℕ) → ((bytes : List ℕ) (x : X) (rest : List ℕ) → AreBytes bytes → one bytes ≡ Ok (x, rest) → bytes ≡ spelling x ++ rest)
    → (n : ℕ) (bytes : List ℕ) (xs : List X) (rest : List ℕ) → AreBytes bytes → many_of one n bytes ≡ Ok (xs, rest) → (bytes ≡ flat_map spelling xs ++ rest) × (length xs ≡ n)
many_were {X} one spelling was zero bytes xs rest h is =
    let same : ◌≡◌ {A = List X × List ℕ} ([], bytes) (xs, rest) = cc in
    let none : [] ≡ xs = ap (λ (p : List X × List ℕ). p.0) same in
    (ap (λ (p : List X × List ℕ). p.1) same ∙ ap (λ (l : List X). flat_map spelling l ++ rest) none, ap length (sym none))
many_were one spelling was (suc n) bytes xs rest h is =
    let bound = bind_was (one bytes) (λ first. with_items (first.0 ∷ []) (many_of one n first.1)) (xs, rest) is in
    let x = bound.0 in
    let first = was bytes x.0 x.1 h bound.1 in
    let others = with_was (x.0 ∷ []) xs (many_of one n x.1) rest bound.2 in
    let behind = many_were one spelling was n x.1 others.0 rest (rest_are (spelling x.0) x.1 bytes first h) others.1 in
    let all : flat_map spelling (x.0 ∷ others.0) ≡ flat_map spelling xs = ap (flat_map spelling) (sym others.2) in (
      first ∙ ap (λ (l : List ℕ). spelling x.0 ++ l) behind.0 ∙ sym (append_assoc (spelling x.0) (flat_map spelling others.0) rest) ∙ ap (λ (l : List ℕ). l ++ rest) all,
      ap length others.2 ∙ ap suc behind.1,
    )

-- ---- how many bytes they take

pub many_take : {X : Type 0} (one : List ℕ → Result (X × List ℕ) Wrong) (size : X → ℕ) → ((bytes : List ℕ) (x : X) (rest : List ℕ) → one bytes ≡ Ok (x, rest) → length bytes ≡ size x + length rest)
    → (n : ℕ) (bytes : List ℕ) (xs : List X) (rest : List ℕ) → many_of one n bytes ≡ Ok (xs, rest) → length bytes ≡ sum_by size xs + length rest
many_take {X} one size takes zero bytes xs rest is =
    let same : ◌≡◌ {A = List X × List ℕ} ([], bytes) (xs, rest) = cc in
    let front : 0 ≡ sum_by size xs = ap (λ (p : List X × List ℕ). sum_by size p.0) same in
    let all : length bytes ≡ length rest = ap (λ (p : List X × List ℕ). length (p.1)) same in
    omega (arith, front, all)
many_take one size takes (suc n) bytes xs rest is =
    let bound = bind_was (one bytes) (λ first. with_items (first.0 ∷ []) (many_of one n first.1)) (xs, rest) is in
    let x = bound.0 in
    let others = with_was (x.0 ∷ []) xs (many_of one n x.1) rest bound.2 in
    let first : length bytes ≡ size x.0 + length x.1 = takes bytes x.0 x.1 bound.1 in
    let behind : length x.1 ≡ sum_by size others.0 + length rest = many_take one size takes n x.1 others.0 rest others.1 in
    let all : sum_by size xs ≡ size x.0 + sum_by size others.0 = ap (sum_by size) others.2 ∙ sum_by-cons size x.0 others.0 in
    omega (arith, first, behind, all)

pub length-many : {X : Type 0} (spelling : X → List ℕ) (size : X → ℕ) → ((x : X) → length (spelling x) ≡ size x) → (xs : List X) → length (flat_map spelling xs) ≡ sum_by size xs
length-many spelling size each [] = refl
length-many spelling size each (x ∷ xs) =
    length-append (spelling x) (flat_map spelling xs) ∙ (λ i. each x i + length-many spelling size each xs i) ∙ sym (sum_by-cons size x xs)

-- so many of 16 bytes
pub sixteens : {X : Type 0} (xs : List X) → sum_by (λ (x : X). 16) xs ≡ 16 * length xs
sixteens [] = refl
sixteens {X} (x ∷ xs) = let one : sum_by (λ (y : X). 16) (x ∷ xs) ≡ 16 + sum_by (λ (y : X). 16) xs = sum_by-cons (λ (y : X). 16) x xs in omega (arith, one, sixteens xs)

-- so many of two bytes
pub twos : {X : Type 0} (xs : List X) → sum_by (λ (x : X). 2) xs ≡ 2 * length xs
twos [] = refl
twos {X} (x ∷ xs) = let one : sum_by (λ (y : X). 2) (x ∷ xs) ≡ 2 + sum_by (λ (y : X). 2) xs = sum_by-cons (λ (y : X). 2) x xs in omega (arith, one, twos xs)

-- ---- one behind those before it

pub one_behind : {X : Type 0} (spelling : X → List ℕ) (xs : List X) (i : ℕ) (x : X) (bytes : List ℕ) → i < length xs → bytes ≡ spelling (get_or xs i x)
    → flat_map spelling (take i xs) ++ bytes ≡ flat_map spelling (take (i + 1) xs)
one_behind spelling xs i x bytes there is =
    ap (λ (l : List ℕ). flat_map spelling (take i xs) ++ l) (is ∙ sym (append-nil (spelling (get_or xs i x))))
    ∙ sym (flat_map-append spelling (take i xs) (get_or xs i x ∷ []))
    ∙ ap (flat_map spelling) (sym (take_more xs i x there))

-- those so far are the first of all
pub first_of_all : {X : Type 0} (spelling : X → List ℕ) (xs : List X) (n : ℕ) → IsPrefix (flat_map spelling (take n xs)) (flat_map spelling xs)
first_of_all spelling xs n =
    (flat_map spelling (drop n xs), sym (flat_map-append spelling (take n xs) (drop n xs)) ∙ ap (flat_map spelling) (take-append-drop n xs))
