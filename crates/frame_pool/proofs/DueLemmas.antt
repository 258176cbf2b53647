-- Stores in the order in which they are due.
use Rattle.std.proofs.Common.{◌≡◌, ℕ, zero, suc, ◌+◌, ◌<◌, ◌≤◌, Bool, true, false, cond, not, nat_le, List, [], ◌∷◌, length, filter, remove, slice_index_or, refl, subst, sym, ap, ◌∙◌, arith}
use Rattle.desk_laws.specs.Frames.{Waiting, put_by_due, by_due, is_due, still_waiting, write, write_all, settled_words}
use Rattle.frame_pool.specs.Regions.{no_store, due_at, IsFirst, NotBefore}

le-yes : (m n : ℕ) → m ≤ n → nat_le m n ≡ true
le-yes m n h = Prim.grind (arith, h)

le-no : (m n : ℕ) → n < m → nat_le m n ≡ false
le-no m n h = Prim.grind (arith, h)

-- what a test says of each index holds of each store
pub not-before-each : (n : ℕ) (stores : List Waiting) → ((k : ℕ) → k < length stores → n ≤ due_at stores k) → NotBefore n stores
not-before-each n [] h = tt
not-before-each n (s ∷ stores) h = (h 0 (omega arith), not-before-each n stores (λ k below. h (suc k) (omega (arith, below))))

not-before-put : (n : ℕ) (s : Waiting) (stores : List Waiting) → n ≤ s.due → NotBefore n stores → NotBefore n (put_by_due s stores)
not-before-put n s [] h rest = (h, tt)
not-before-put n s (t ∷ stores) h rest = by (nat_le s.due t.due) (not-before-put n s stores h rest.1)
  where
    by : (b : Bool) → NotBefore n (put_by_due s stores) → NotBefore n (cond b (s ∷ t ∷ stores) (t ∷ put_by_due s stores))
    by true later = (h, rest)
    by false later = (rest.0, later)

not-before-sorted : (n loads : ℕ) (stores : List Waiting) → NotBefore n stores → NotBefore n (by_due (filter (is_due loads) stores))
not-before-sorted n loads [] h = tt
not-before-sorted n loads (t ∷ stores) h = by (is_due loads t) (not-before-sorted n loads stores h.1)
  where
    by : (b : Bool) → NotBefore n (by_due (filter (is_due loads) stores)) →
        NotBefore n (by_due (cond b (t ∷ filter (is_due loads) stores) (filter (is_due loads) stores)))
    by true later = not-before-put n t (by_due (filter (is_due loads) stores)) h.0 later
    by false later = later

put-least : (s : Waiting) (stores : List Waiting) → NotBefore s.due stores → put_by_due s stores ≡ s ∷ stores
put-least s [] h = refl
put-least s (t ∷ stores) h = ap (λ b. cond b (s ∷ t ∷ stores) (t ∷ put_by_due s stores)) (le-yes s.due t.due h.0)

-- the first one comes first once they are sorted, and the others are sorted behind it
pub first-sorted : (loads : ℕ) (stores : List Waiting) (at : ℕ) → IsFirst stores at → due_at stores at ≤ loads →
    by_due (filter (is_due loads) stores) ≡ slice_index_or stores at no_store ∷ by_due (filter (is_due loads) (remove stores at))
first-sorted loads [] at is due = let none : at < 0 = is.below in absurd (omega arith)
first-sorted loads (s ∷ stores) zero is due =
    ap (λ b. by_due (cond b (s ∷ filter (is_due loads) stores) (filter (is_due loads) stores))) (le-yes s.due loads due)
    ∙ put-least s (by_due (filter (is_due loads) stores))
    (not-before-sorted s.due loads stores (not-before-each s.due stores (λ k below. is.lowest (suc k) (omega (arith, below)))))
first-sorted loads (t ∷ stores) (suc at) is due = by (is_due loads t) (first-sorted loads stores at
    (record {
      below = let h : suc at < suc (length stores) = is.below in omega (arith, h);
      lowest = λ k below. is.lowest (suc k) (omega (arith, below));
      first = λ k below. is.first (suc k) (omega (arith, below));
    }) due)
  where
    x : Waiting
    x = slice_index_or stores at no_store

    behind : List Waiting
    behind = by_due (filter (is_due loads) (remove stores at))

    by : (b : Bool) → by_due (filter (is_due loads) stores) ≡ x ∷ behind →
        by_due (cond b (t ∷ filter (is_due loads) stores) (filter (is_due loads) stores))
        ≡ x ∷ by_due (cond b (t ∷ filter (is_due loads) (remove stores at)) (filter (is_due loads) (remove stores at)))
    by true rest =
        ap (put_by_due t) rest ∙ ap (λ b. cond b (t ∷ x ∷ behind) (x ∷ put_by_due t behind)) (le-no t.due x.due (is.first 0 (omega arith)))
    by false rest = rest

-- what waits on is among the others
pub waiting-besides : (loads : ℕ) (stores : List Waiting) (at : ℕ) → at < length stores → due_at stores at ≤ loads →
    still_waiting loads (remove stores at) ≡ still_waiting loads stores
waiting-besides loads [] at below due = absurd (omega arith)
waiting-besides loads (s ∷ stores) zero below due =
    ap (λ b. cond (not b) (s ∷ still_waiting loads stores) (still_waiting loads stores)) (sym (le-yes s.due loads due))
waiting-besides loads (t ∷ stores) (suc at) below due =
    ap (λ ys. cond (not (is_due loads t)) (t ∷ ys) ys) (waiting-besides loads stores at (omega arith) due)

-- where none is due
pub none-due : (loads : ℕ) (stores : List Waiting) → NotBefore (loads + 1) stores → filter (is_due loads) stores ≡ []
none-due loads [] h = refl
none-due loads (s ∷ stores) h =
    ap (λ b. cond b (s ∷ filter (is_due loads) stores) (filter (is_due loads) stores)) (le-no s.due loads (omega (arith, h.0)))
    ∙ none-due loads stores h.1

pub all-wait : (loads : ℕ) (stores : List Waiting) → NotBefore (loads + 1) stores → still_waiting loads stores ≡ stores
all-wait loads [] h = refl
all-wait loads (s ∷ stores) h =
    ap (λ b. cond (not b) (s ∷ still_waiting loads stores) (still_waiting loads stores)) (le-no s.due loads (omega (arith, h.0)))
    ∙ ap (λ ys. s ∷ ys) (all-wait loads stores h.1)

-- and what is said of each store holds of each index
pub not-before-at : (n : ℕ) (stores : List Waiting) (k : ℕ) → k < length stores → NotBefore n stores → n ≤ due_at stores k
not-before-at n [] k below h = absurd (omega arith)
not-before-at n (s ∷ stores) zero below h = h.0
not-before-at n (s ∷ stores) (suc k) below h = not-before-at n stores k (omega (arith, below)) h.1

-- where there is no store
pub not-before-none : (n : ℕ) (stores : List Waiting) → stores ≡ [] → NotBefore n stores
not-before-none n stores none = subst (NotBefore n) (sym none) tt

-- a place of a list holds the same by any default
pub any-default : (stores : List Waiting) (at : ℕ) (a b : Waiting) → at < length stores → slice_index_or stores at a ≡ slice_index_or stores at b
any-default [] at a b below = absurd (omega arith)
any-default (s ∷ stores) zero a b below = refl
any-default (s ∷ stores) (suc at) a b below = any-default stores at a b (omega arith)

-- the first of the due stores is written, and the others stay
pub settle-step : (words words' : List ℕ) (loads : ℕ) (stores stores' : List Waiting) (at : ℕ) (s : Waiting) → IsFirst stores at →
    due_at stores at ≤ loads → s ≡ slice_index_or stores at s → stores' ≡ remove stores at → words' ≡ write words s →
    settled_words words' loads stores' ≡ settled_words words loads stores
settle-step words words' loads stores stores' at s is due here rest written =
    let which : s ≡ slice_index_or stores at no_store = here ∙ any-default stores at s no_store is.below in
    ap (λ ws. settled_words ws loads stores') written
    ∙ ap (λ ys. settled_words (write words s) loads ys) rest
    ∙ ap (λ x. settled_words (write words x) loads (remove stores at)) which
    ∙ sym (ap (write_all words) (first-sorted loads stores at is due))

-- nothing is left to write
pub settle-end : (words : List ℕ) (loads : ℕ) (stores : List Waiting) → NotBefore (loads + 1) stores → settled_words words loads stores ≡ words
settle-end words loads stores h = ap (λ ys. write_all words (by_due ys)) (none-due loads stores h)
