-- Words that were written or not yet, as a list of numbers.
use Rattle.std.proofs.Common.{◌≡◌, ℕ, zero, suc, ◌+◌, ◌*◌, ◌/◌, ◌<◌, ◌≤◌, ◌≢◌, ◌⊎◌, inl, inr, Bool, true, false, List, [], ◌∷◌, length, length-set, get_or, get_or-set_same, get_or-set_other, ext_get_or, set, replicate, Option, Some, None, IsSome, refl, sym, subst, ap, ◌∙◌, arith}
use Rattle.std.proofs.lemmas.Bool.{cases_eq, cases_lt}
use Rattle.desk_laws.specs.Frames.{write_words}
use Rattle.frame_pool.specs.Cells.{number, numbers}
use Rattle.frame_pool.specs.Runs.{words_from}
use Rattle.frame_pool.specs.Touched.{AreTouched, IsCleared, IsTouched, stored_from}

-- the number of a word stands in the list of numbers
pub number-at : (ws : List (Option ℕ)) (i : ℕ) → number (get_or ws i None) ≡ get_or (numbers ws) i 0
number-at [] i = refl
number-at (w ∷ ws) zero = refl
number-at (w ∷ ws) (suc i) = number-at ws i

pub numbers-set : (ws : List (Option ℕ)) (i n : ℕ) → numbers (set ws i (Some n)) ≡ set (numbers ws) i n
numbers-set [] i n = refl
numbers-set (w ∷ ws) zero n = refl
numbers-set (w ∷ ws) (suc i) n = ap (λ ns. number w ∷ ns) (numbers-set ws i n)

pub length-numbers : (ws : List (Option ℕ)) → length (numbers ws) ≡ length ws
length-numbers [] = refl
length-numbers (w ∷ ws) = ap suc (length-numbers ws)

-- words that were not written count as zeros
pub numbers-none : (n : ℕ) → numbers (replicate n None) ≡ replicate n 0
numbers-none zero = refl
numbers-none (suc n) = ap (λ ns. 0 ∷ ns) (numbers-none n)

-- ---- words stored from an index on

pub numbers-stored : (ws : List (Option ℕ)) (i : ℕ) (vs : List ℕ) → numbers (stored_from ws i vs) ≡ write_words (numbers ws) i vs
numbers-stored ws i [] = refl
numbers-stored ws i (v ∷ vs) = numbers-stored (set ws i (Some v)) (i + 1) vs ∙ ap (λ ns. write_words ns (i + 1) vs) (numbers-set ws i v)

pub length-stored : (ws : List (Option ℕ)) (i : ℕ) (vs : List ℕ) → length (stored_from ws i vs) ≡ length ws
length-stored ws i [] = refl
length-stored ws i (v ∷ vs) = length-stored (set ws i (Some v)) (i + 1) vs ∙ length-set ws i (Some v)

-- ---- pages that were stored to

-- a word of a page that wasn't
pub untouched-zero : (touched : List Bool) (ws : List (Option ℕ)) (i : ℕ) → i < length ws → get_or touched (i / 1024) false ≡ false → AreTouched touched ws → get_or (numbers ws) i 0 ≡ 0
untouched-zero touched ws i below flag all =
    let none : get_or ws i None ≡ None = subst (λ b. IsTouched b (get_or ws i None)) flag (all i below) in
    sym (number-at ws i) ∙ ap number none

-- words of such a page
pub page-zeros : (touched : List Bool) (ws : List (Option ℕ)) (page word n : ℕ) → 1024 * page + 1024 ≤ length ws → word + n ≤ 1024
    → get_or touched page false ≡ false → AreTouched touched ws → replicate n 0 ≡ words_from (numbers ws) (1024 * page + word) n
page-zeros touched ws page word zero inside end flag all = refl
page-zeros touched ws page word (suc n) inside end flag all =
    let i : ℕ = 1024 * page + word in
    let here : i / 1024 ≡ page = omega (arith, end) in
    let next : 1024 * page + (word + 1) ≡ i + 1 = omega arith in
    let zero_here : get_or (numbers ws) i 0 ≡ 0 = untouched-zero touched ws i (omega (arith, end, inside)) (ap (λ (p : ℕ). get_or touched p false) here ∙ flag) all in
    ap (λ (ns : List ℕ). 0 ∷ ns) (page-zeros touched ws page (word + 1) n inside (omega (arith, end)) flag all)
    ∙ ap (λ (j : ℕ). 0 ∷ words_from (numbers ws) j n) next
    ∙ ap (λ (m : ℕ). m ∷ words_from (numbers ws) (i + 1) n) (sym zero_here)

-- a word of a page that was is stored
pub touched-set : (touched : List Bool) (ws : List (Option ℕ)) (i v : ℕ) → get_or touched (i / 1024) false ≡ true → AreTouched touched ws → AreTouched touched (set ws i (Some v))
touched-set touched ws i v flag all j below = by (cases_eq j i)
  where
    inside : j < length ws
    inside = subst (λ n. j < n) (length-set ws i (Some v)) below

    by : (j ≡ i) ⊎ (j ≢ i) → IsTouched (get_or touched (j / 1024) false) (get_or (set ws i (Some v)) j None)
    by (inl same) =
        subst (λ b. IsTouched b (get_or (set ws i (Some v)) j None)) (sym (ap (λ (k : ℕ). get_or touched (k / 1024) false) same ∙ flag))
        (subst IsSome (sym (ap (λ (k : ℕ). get_or (set ws i (Some v)) k None) same ∙ get_or-set_same ws i (Some v) None (subst (λ k. k < length ws) same inside))) refl)
    by (inr apart) = subst (λ w. IsTouched (get_or touched (j / 1024) false) w) (sym (get_or-set_other ws i j (Some v) None apart)) (all j inside)

-- words of it are stored
pub touched-stored : (touched : List Bool) (ws : List (Option ℕ)) (page i : ℕ) (vs : List ℕ) → 1024 * page ≤ i → i + length vs ≤ 1024 * page + 1024
    → get_or touched page false ≡ true → AreTouched touched ws → AreTouched touched (stored_from ws i vs)
touched-stored touched ws page i [] from to flag all = all
touched-stored touched ws page i (v ∷ vs) from to flag all =
    let here : i / 1024 ≡ page = omega (arith, from, to) in
    touched-stored touched (set ws i (Some v)) page (i + 1) vs (omega (arith, from)) (omega (arith, to)) flag
    (touched-set touched ws i v (ap (λ (p : ℕ). get_or touched p false) here ∙ flag) all)

-- ---- zeros in the place of a page that wasn't

-- which part of all words one is in
which-part : (from i : ℕ) → ((from ≤ i) × (i < from + 1024)) ⊎ ((i < from) ⊎ (from + 1024 ≤ i))
which-part from i = by (cases_lt i from) (cases_lt i (from + 1024))
  where
    by : (i < from) ⊎ (from ≤ i) → (i < from + 1024) ⊎ (from + 1024 ≤ i) → ((from ≤ i) × (i < from + 1024)) ⊎ ((i < from) ⊎ (from + 1024 ≤ i))
    by (inl low) other = inr (inl low)
    by (inr low) (inl high) = inl (low, high)
    by (inr low) (inr high) = inr (inr high)

-- the numbers stay
pub cleared-numbers : (touched : List Bool) (old new : List (Option ℕ)) (page : ℕ) → 1024 * page + 1024 ≤ length old → get_or touched page false ≡ false → AreTouched touched old
    → IsCleared old new (1024 * page) 1024 → numbers new ≡ numbers old
cleared-numbers touched old new page inside flag all is =
    ext_get_or 0 (numbers new) (numbers old) (length-numbers new ∙ is.len ∙ sym (length-numbers old)) (λ i below. by i (which-part (1024 * page) i))
  where
    by : (i : ℕ) → ((1024 * page ≤ i) × (i < 1024 * page + 1024)) ⊎ ((i < 1024 * page) ⊎ (1024 * page + 1024 ≤ i)) → get_or (numbers new) i 0 ≡ get_or (numbers old) i 0
    by i (inl here) =
        let which : i / 1024 ≡ page = omega (arith, here.0, here.1) in
        sym (number-at new i) ∙ ap number (is.zeros i here.0 here.1)
        ∙ sym (untouched-zero touched old i (omega (arith, here.1, inside)) (ap (λ (p : ℕ). get_or touched p false) which ∙ flag) all)
    by i (inr apart) = sym (number-at new i) ∙ ap number (is.others i apart) ∙ number-at old i
