-- How often rows stand in lists that are changed.
use Rattle.std.proofs.Common.{◌≡◌, ℕ, ◌+◌, ◌<◌, ◌≤◌, Bool, true, false, not, ◌&&◌, ◌||◌, ◌==◌, List, [], ◌∷◌, ◌++◌, length, refl, sym, ◌∙◌, ap, subst, arith, length-append}
use Rattle.std.specs.Prelude.{filter, nat_lt, if◌then◌else◌}
use Rattle.std.proofs.lemmas.Bool.{and_parts, eqb-true, ltb-true, ltb-false, false_from_ne_true}
use Rattle.std.proofs.lemmas.Bool.Decides.{nat_tests}
use Rattle.desk_laws.specs.declared.row_id.RowId.{RowId}
use Rattle.desk_laws.specs.Rows.{same_row}
use Rattle.desk_laws.specs.Layers.{Layers, HaveRowsOnce, is_in, without, to_end, are_apart}
use Rattle.stacking.specs.RowCounts.{times, AreCounted}

pub same-is : (a b : RowId) → same_row a b ≡ true → a ≡ b
same-is a b h =
    let parts = and_parts (a.guest == b.guest) (a.window == b.window) h in
    ap (λ g. row g a.window) (eqb-true a.guest b.guest parts.0) ∙ ap (λ w. row b.guest w) (eqb-true a.window b.window parts.1)
  where
    row : ℕ → ℕ → RowId
    row guest window = record { guest = guest; window = window }

pub same-swapped : (a b : RowId) → same_row a b ≡ same_row b a
same-swapped a b = grind (arith, nat_tests)

pub same-itself : (a : RowId) → same_row a a ≡ true
same-itself a = grind (arith, nat_tests)

-- 1 for true
abbrev pub one_if : Bool → ℕ
one_if b = if b then 1 else 0

pub times-append : (id : RowId) (xs ys : List RowId) → times id (xs ++ ys) ≡ times id xs + times id ys
times-append id [] ys = omega arith
times-append id (x ∷ xs) ys = omega (arith, times-append id xs ys)

pub times-push : (id new : RowId) (xs : List RowId) → times id (xs ++ new ∷ []) ≡ times id xs + one_if (same_row id new)
times-push id new xs = omega (arith, times-append id xs (new ∷ []))

pub is_in-times : (ids : List RowId) (id : RowId) → is_in ids id ≡ nat_lt 0 (times id ids)
is_in-times [] id = refl
is_in-times (x ∷ ids) id = by_same (same_row id x) (is_in-times ids id)
  where
    by_same : (b : Bool) → is_in ids id ≡ nat_lt 0 (times id ids) → (b || is_in ids id) ≡ nat_lt 0 (one_if b + times id ids)
    by_same true h = grind (arith, nat_tests)
    by_same false h = h ∙ ap (λ n. nat_lt 0 n) (omega arith)

-- taken out, a row stands nowhere, and the others as often as before
pub times-without : (other id : RowId) (ids : List RowId) → times other (without id ids) ≡ (if same_row id other then 0 else times other ids)
times-without other id [] = none (same_row id other)
  where
    zero_or : Bool → ℕ
    zero_or b = if b then 0 else 0

    none : (b : Bool) → 0 ≡ zero_or b
    none true = refl
    none false = refl
times-without other id (x ∷ ids) =
    by_same (same_row id x) (same_row id other) (times-without other id ids)
    (λ h k. not-here (λ m. out k (ap (λ v. same_row id v) (same-is other x m) ∙ h)))
    (λ h k. not-here (λ m. out h (sym (ap (λ v. same_row id v) (same-is other x m)) ∙ k)))
  where
    out : {b : Bool} → b ≡ false → b ≡ true → ⊥
    out h k = cc

    not-here : (same_row other x ≡ true → ⊥) → same_row other x ≡ false
    not-here h = false_from_ne_true (same_row other x) h

    by_same : (gone same : Bool) → times other (without id ids) ≡ (if same then 0 else times other ids)
        → (gone ≡ true → same ≡ false → same_row other x ≡ false) → (gone ≡ false → same ≡ true → same_row other x ≡ false)
        → times other (if not gone then x ∷ without id ids else without id ids) ≡ (if same then 0 else one_if (same_row other x) + times other ids)
    by_same true true ih p q = ih
    by_same true false ih p q = let e : one_if (same_row other x) ≡ 0 = ap one_if (p refl refl) in omega arith
    by_same false true ih p q = let e : one_if (same_row other x) ≡ 0 = ap one_if (q refl refl) in omega arith
    by_same false false ih p q = ap (λ n. one_if (same_row other x) + n) ih

pub length-without : (id : RowId) (ids : List RowId) → length (without id ids) + times id ids ≡ length ids
length-without id [] = refl
length-without id (x ∷ ids) = by_same (same_row id x) (length-without id ids)
  where
    by_same : (b : Bool) → length (without id ids) + times id ids ≡ length ids
        → length (if not b then x ∷ without id ids else without id ids) + (one_if b + times id ids) ≡ length (x ∷ ids)
    by_same true h = omega arith
    by_same false h = omega arith

pub times-none : (ids : List RowId) (id : RowId) → is_in ids id ≡ false → times id ids ≡ 0
times-none ids id h = let n = ltb-false 0 (times id ids) (sym (is_in-times ids id) ∙ h) in omega arith

pub times-some : (ids : List RowId) (id : RowId) → is_in ids id ≡ true → 0 < times id ids
times-some ids id h = ltb-true 0 (times id ids) (sym (is_in-times ids id) ∙ h)

-- a row moved to the end stands as often as before
pub times-to_end : (other id : RowId) (ids : List RowId) → times id ids ≤ 1 → times other (to_end id ids) ≡ times other ids
times-to_end other id ids once = by_in (is_in ids id) refl
  where
    by_same : (b : Bool) → same_row id other ≡ b → 0 < times id ids → (if b then 0 else times other ids) + one_if b ≡ times other ids
    by_same true e some = let k : times id ids ≡ times other ids = ap (λ v. times v ids) (same-is id other e) in omega arith
    by_same false e some = omega arith

    by_in : (b : Bool) → is_in ids id ≡ b → times other (if b then without id ids ++ id ∷ [] else ids) ≡ times other ids
    by_in false h = refl
    by_in true h =
        times-push other id (without id ids)
        ∙ ap (λ n. n + one_if (same_row other id)) (times-without other id ids)
        ∙ ap (λ v. (if same_row id other then 0 else times other ids) + one_if v) (same-swapped other id)
        ∙ by_same (same_row id other) refl (times-some ids id h)

pub length-to_end : (id : RowId) (ids : List RowId) → times id ids ≤ 1 → length (to_end id ids) ≡ length ids
length-to_end id ids once = by_in (is_in ids id) refl
  where
    by_in : (b : Bool) → is_in ids id ≡ b → length (if b then without id ids ++ id ∷ [] else ids) ≡ length ids
    by_in false h = refl
    by_in true h = omega (arith, length-append (without id ids) (id ∷ []), length-without id ids, times-some ids id h)

-- ---- the three lists together

new-once : (ids : List RowId) (id other : RowId) → is_in ids id ≡ false → times other ids ≤ 1 → one_if (same_row other id) + times other ids ≤ 1
new-once ids id other out once = by_same (same_row other id) refl
  where
    by_same : (b : Bool) → same_row other id ≡ b → one_if b + times other ids ≤ 1
    by_same true e = let none : times other ids ≡ 0 = ap (λ v. times v ids) (same-is other id e) ∙ times-none ids id out in omega arith
    by_same false e = omega arith

pub counted-swapped : (normal over focus : List RowId) → AreCounted normal over focus → AreCounted over normal focus
counted-swapped normal over focus h = record {
  once = h.once;
  same = λ id. let e = h.same id in omega arith;
  counted = let e = h.counted in omega arith;
}

-- a row that comes on top of the override layer
pub counted-entered : (normal over focus : List RowId) (id : RowId) → AreCounted normal over focus → is_in focus id ≡ false
    → AreCounted normal (over ++ id ∷ []) (id ∷ focus)
counted-entered normal over focus id h out = record {
  once = λ other. new-once focus id other out (h.once other);
  same = λ other. let e = h.same other in omega (arith, times-push other id over);
  counted = let e = h.counted in omega (arith, length-append over (id ∷ []));
}

pub counted-departed : (normal over focus : List RowId) (id : RowId) → AreCounted normal over focus
    → AreCounted (without id normal) (without id over) (without id focus)
counted-departed normal over focus id h = record {
  once = λ other. let e = h.once other in fewer (same_row id other) (times other (without id focus)) (times other focus) (times-without other id focus) e;
  same = λ other. none-or (same_row id other) _ _ _ _ _ _ (times-without other id focus) (times-without other id normal) (times-without other id over) (h.same other);
  counted = let e = h.counted in let s = h.same id in omega (arith, length-without id focus, length-without id normal, length-without id over);
}
  where
    fewer : (b : Bool) (m n : ℕ) → m ≡ (if b then 0 else n) → n ≤ 1 → m ≤ 1
    fewer true m n e h = omega arith
    fewer false m n e h = omega arith

    none-or : (b : Bool) (f n o f' n' o' : ℕ) → f' ≡ (if b then 0 else f) → n' ≡ (if b then 0 else n) → o' ≡ (if b then 0 else o) → f ≡ n + o → f' ≡ n' + o'
    none-or true f n o f' n' o' ef en eo h = omega arith
    none-or false f n o f' n' o' ef en eo h = omega arith

pub counted-raised : (normal over focus : List RowId) (id : RowId) → AreCounted normal over focus
    → AreCounted (to_end id normal) (to_end id over) (to_end id focus)
counted-raised normal over focus id h =
    let e = h.same id in
    let one = h.once id in
    let n : times id normal ≤ 1 = omega arith in
    let o : times id over ≤ 1 = omega arith in
    record {
      once = λ other. let k = h.once other in omega (arith, times-to_end other id focus one);
      same = λ other. let k = h.same other in omega (arith, times-to_end other id focus one, times-to_end other id normal n, times-to_end other id over o);
      counted = let k = h.counted in omega (arith, length-to_end id focus one, length-to_end id normal n, length-to_end id over o);
    }

-- a row of the normal layer that comes on top of the override layer
pub counted-moved : (normal over focus : List RowId) (id : RowId) → AreCounted normal over focus → is_in focus id ≡ true → is_in over id ≡ false
    → AreCounted (without id normal) (over ++ id ∷ []) focus
counted-moved normal over focus id h here out =
    let none = times-none over id out in
    let some = times-some focus id here in
    let e = h.same id in
    let one = h.once id in
    let n : times id normal ≡ 1 = omega arith in
    record {
      once = h.once;
      same = λ other. let k = h.same other in moved other (same_row id other) refl k none n;
      counted = let k = h.counted in omega (arith, length-append over (id ∷ []), length-without id normal);
    }
  where
    moved : (other : RowId) (b : Bool) → same_row id other ≡ b → times other focus ≡ times other normal + times other over → times id over ≡ 0 → times id normal ≡ 1
        → times other focus ≡ times other (without id normal) + times other (over ++ id ∷ [])
    moved other true e k none n =
        let s = same-is id other e in
        let o : times other over ≡ 0 = sym (ap (λ v. times v over) s) ∙ none in
        let m : times other normal ≡ 1 = sym (ap (λ v. times v normal) s) ∙ n in
        let w : times other (without id normal) ≡ 0 = times-without other id normal ∙ ap (λ b. if b then 0 else times other normal) e in
        let p : one_if (same_row other id) ≡ 1 = ap one_if (same-swapped other id ∙ e) in
        omega (arith, times-push other id over)
    moved other false e k none n =
        let w : times other (without id normal) ≡ times other normal = times-without other id normal ∙ ap (λ b. if b then 0 else times other normal) e in
        let p : one_if (same_row other id) ≡ 0 = ap one_if (same-swapped other id ∙ e) in
        omega (arith, times-push other id over)

-- there is room in the layer that a row comes into
pub room-above : (normal over focus : List RowId) (id : RowId) → AreCounted normal over focus → is_in focus id ≡ true → is_in over id ≡ false → length over < length focus
room-above normal over focus id h here out =
    let none = times-none over id out in
    let some = times-some focus id here in
    let e = h.same id in
    let k = h.counted in
    omega (arith, length-without id normal)

-- ---- no row twice

apart-counted : (ids : List RowId) → ((id : RowId) → times id ids ≤ 1) → are_apart ids ≡ true
apart-counted [] h = refl
apart-counted (x ∷ ids) h =
    let one : one_if (same_row x x) ≡ 1 = ap one_if (same-itself x) in
    let k = h x in
    let none : times x ids ≡ 0 = omega arith in
    let out : is_in ids x ≡ false = is_in-times ids x ∙ ap (λ n. nat_lt 0 n) none in
    ap (λ v. not v && are_apart ids) out ∙ apart-counted ids (λ id. let l = h id in omega arith)

pub rows-once : (layers : Layers) → AreCounted layers.normal layers.over layers.focus → HaveRowsOnce layers
rows-once layers h = record {
  stacked_once = apart-counted (layers.normal ++ layers.over) (λ id. let s = h.same id in let o = h.once id in omega (arith, times-append id layers.normal layers.over));
  listed_once = apart-counted layers.focus h.once;
  same = λ id. is_in-times layers.focus id ∙ ap (λ n. nat_lt 0 n) (h.same id ∙ sym (times-append id layers.normal layers.over)) ∙ sym (is_in-times (layers.normal ++ layers.over) id);
  counted = h.counted;
}

-- ---- as the code leaves the lists

pub counted-same : (normal over focus normal' over' focus' : List RowId) → normal' ≡ normal → over' ≡ over → focus' ≡ focus
    → AreCounted normal over focus → AreCounted normal' over' focus'
counted-same normal over focus normal' over' focus' n o f h =
    let N : List RowId → Type 0 = λ xs. AreCounted xs over focus in
    let O : List RowId → Type 0 = λ xs. AreCounted normal' xs focus in
    let F : List RowId → Type 0 = λ xs. AreCounted normal' over' xs in
    subst F (sym f) (subst O (sym o) (subst N (sym n) h))

-- a row that comes on top of a layer where it isn't in it yet
pub counted-relayered : (from to focus : List RowId) (id : RowId) → AreCounted from to focus → is_in focus id ≡ true
    → AreCounted (if is_in to id then from else without id from) (if is_in to id then to else to ++ id ∷ []) focus
counted-relayered from to focus id h here = by_in (is_in to id) refl
  where
    by_in : (b : Bool) → is_in to id ≡ b → AreCounted (if b then from else without id from) (if b then to else to ++ id ∷ []) focus
    by_in true e = h
    by_in false e = counted-moved from to focus id h here e

-- a list gets shorter without a row that stands in it
pub shorter-without : (id : RowId) (ids : List RowId) → is_in ids id ≡ true → length (without id ids) < length ids
shorter-without id ids here = omega (arith, length-without id ids, times-some ids id here)

-- ---- all rows that pass a test

filtered-times : (b q s : Bool) (f t : ℕ) → (s ≡ true → q ≡ b) → f ≡ (if q then t else 0) → (if b then one_if s + f else f) ≡ (if q then one_if s + t else 0)
filtered-times true true s f t h e = ap (λ n. one_if s + n) e
filtered-times true false true f t h e = let k = h refl in cc
filtered-times true false false f t h e = omega arith
filtered-times false true true f t h e = let k = h refl in cc
filtered-times false true false f t h e = omega arith
filtered-times false false s f t h e = e

-- a row stands among those that pass as often as before, if it passes
pub times-filter : (p : RowId → Bool) (other : RowId) (ids : List RowId) → times other (filter p ids) ≡ (if p other then times other ids else 0)
times-filter p other [] = none (p other)
  where
    zero_if : Bool → ℕ
    zero_if b = if b then 0 else 0

    none : (b : Bool) → 0 ≡ zero_if b
    none true = refl
    none false = refl
times-filter p other (x ∷ ids) =
    by_test (p x) ∙ filtered-times (p x) (p other) (same_row other x) _ _ (λ e. ap p (same-is other x e)) (times-filter p other ids)
  where
    by_test : (b : Bool) → times other (if b then x ∷ filter p ids else filter p ids) ≡ (if b then one_if (same_row other x) + times other (filter p ids) else times other (filter p ids))
    by_test true = refl
    by_test false = refl

-- lists in which each row stands equally often, once at most, are equally long
pub same-length : (xs ys : List RowId) → ((id : RowId) → times id xs ≤ 1) → ((id : RowId) → times id xs ≡ times id ys) → length xs ≡ length ys
same-length [] [] once same = refl
same-length [] (y ∷ ys) once same =
    let e = same y in
    let one : one_if (same_row y y) ≡ 1 = ap one_if (same-itself y) in
    absurd (omega arith)
same-length (x ∷ xs) ys once same =
    let one : one_if (same_row x x) ≡ 1 = ap one_if (same-itself x) in
    let h = once x in
    let e = same x in
    let rest : length xs ≡ length (without x ys) =
    same-length xs (without x ys) (λ id. let k = once id in omega arith) (λ id. fewer id (same_row x id) refl (same id) (times-without id x ys) (omega arith)) in
    omega (arith, length-without x ys)
  where
    fewer : (id : RowId) (b : Bool) → same_row x id ≡ b → times id (x ∷ xs) ≡ times id ys → times id (without x ys) ≡ (if same_row x id then 0 else times id ys) → times x xs ≡ 0
        → times id xs ≡ times id (without x ys)
    fewer id true s e w none =
        let k : times id xs ≡ times x xs = ap (λ v. times v xs) (sym (same-is x id s)) in
        let z : times id (without x ys) ≡ 0 = w ∙ ap (λ b. if b then 0 else times id ys) s in
        omega arith
    fewer id false s e w none =
        let k : one_if (same_row id x) ≡ 0 = ap one_if (same-swapped id x ∙ s) in
        let z : times id (without x ys) ≡ times id ys = w ∙ ap (λ b. if b then 0 else times id ys) s in
        omega arith

-- the rows that pass a test
pub counted-filtered : (p : RowId → Bool) (normal over focus : List RowId) → AreCounted normal over focus → AreCounted (filter p normal) (filter p over) (filter p focus)
counted-filtered p normal over focus h =
    let once : (id : RowId) → times id (filter p focus) ≤ 1 = λ id. at_most (p id) _ _ (times-filter p id focus) (h.once id) in
    let same : (id : RowId) → times id (filter p focus) ≡ times id (filter p normal) + times id (filter p over) =
    λ id. both (p id) _ _ _ _ _ _ (times-filter p id focus) (times-filter p id normal) (times-filter p id over) (h.same id) in
    record {
      once = once;
      same = same;
      counted = same-length (filter p focus) (filter p normal ++ filter p over) once (λ id. same id ∙ sym (times-append id (filter p normal) (filter p over))) ∙ length-append (filter p normal) (filter p over);
    }
  where
    at_most : (b : Bool) (m n : ℕ) → m ≡ (if b then n else 0) → n ≤ 1 → m ≤ 1
    at_most true m n e h = omega arith
    at_most false m n e h = omega arith

    both : (b : Bool) (f n o f' n' o' : ℕ) → f' ≡ (if b then f else 0) → n' ≡ (if b then n else 0) → o' ≡ (if b then o else 0) → f ≡ n + o → f' ≡ n' + o'
    both true f n o f' n' o' ef en eo h = omega arith
    both false f n o f' n' o' ef en eo h = omega arith
