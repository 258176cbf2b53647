-- Sums over lists in which no number stands twice.
use Rattle.std.proofs.Common.{◌≡◌, ◌≢◌, ℕ, suc, ◌+◌, Bool, true, false, cond, not, ◌||◌, eqb, List, [], ◌∷◌, length, filter, sum_by, refl, sym, ap, ◌∙◌, arith}
use Rattle.std.proofs.lemmas.Bool.{or_parts, eqb-true, eqb-false, eq-eqb}
use Rattle.std.proofs.lemmas.List.Sums.{sum_by-cons}
use Rattle.window_table.specs.Kept.{among}
use Rattle.window_table.proofs.OnceLemmas.{OnceBy, eqb-swap, has_number}

module _ (g g' : ℕ → ℕ) (slot : ℕ) (same : (k : ℕ) → k ≢ slot → g' k ≡ g k) where
  pub sum-same : (order : List ℕ) → among slot order ≡ false → sum_by g' order ≡ sum_by g order
  sum-same [] none = refl
  sum-same (k ∷ order) none =
      let parts = or_parts (eqb k slot) (among slot order) none in
      let here = same k (eqb-false k slot parts.0) in
      omega (arith, here, sum-same order parts.1, sum_by-cons g k order, sum_by-cons g' k order)

  -- one term is exchanged
  pub sum-changed : (order : List ℕ) → OnceBy (λ k. k) order → among slot order ≡ true →
      sum_by g' order + g slot ≡ sum_by g order + g' slot
  sum-changed [] once e = absurd cc
  sum-changed (k ∷ order) once e = by (eqb k slot) refl (λ h. sum-changed order once.1 h) e
    where
      by : (b : Bool) → eqb k slot ≡ b → (among slot order ≡ true → sum_by g' order + g slot ≡ sum_by g order + g' slot) →
          (b || among slot order) ≡ true →
          sum_by g' (k ∷ order) + g slot ≡ sum_by g (k ∷ order) + g' slot
      by true is rest e =
          let here = eqb-true k slot is in
          let later = sum-same order (ap (λ n. among n order) (sym here) ∙ once.0) in
          omega (arith, ap g here, ap g' here, later, sum_by-cons g k order, sum_by-cons g' k order)
      by false is rest e =
          let here = same k (eqb-false k slot is) in
          omega (arith, here, rest e, sum_by-cons g k order, sum_by-cons g' k order)

-- a term that is 0 may be left out
pub sum-without : (g : ℕ → ℕ) (slot : ℕ) (order : List ℕ) → g slot ≡ 0 → sum_by g (filter (λ k. not (eqb k slot)) order) ≡ sum_by g order
sum-without g slot [] e = refl
sum-without g slot (k ∷ order) e = by (eqb k slot) refl (sum-without g slot order e)
  where
    by : (b : Bool) → eqb k slot ≡ b → sum_by g (filter (λ j. not (eqb j slot)) order) ≡ sum_by g order →
        sum_by g (cond (not b) (k ∷ filter (λ j. not (eqb j slot)) order) (filter (λ j. not (eqb j slot)) order)) ≡ sum_by g (k ∷ order)
    by true is rest =
        let here = ap g (eqb-true k slot is) in omega (arith, here, e, rest, sum_by-cons g k order)
    by false is rest =
        omega (arith, rest, sum_by-cons g k order, sum_by-cons g k (filter (λ j. not (eqb j slot)) order))

without-none : (slot : ℕ) (order : List ℕ) → among slot order ≡ false → length (filter (λ k. not (eqb k slot)) order) ≡ length order
without-none slot [] e = refl
without-none slot (k ∷ order) e =
    let parts = or_parts (eqb k slot) (among slot order) e in
    ap (λ b. length (cond (not b) (k ∷ filter (λ j. not (eqb j slot)) order) (filter (λ j. not (eqb j slot)) order))) parts.0
    ∙ ap suc (without-none slot order parts.1)

-- one is gone
pub length-without : (slot : ℕ) (order : List ℕ) → OnceBy (λ k. k) order → among slot order ≡ true →
    length (filter (λ k. not (eqb k slot)) order) + 1 ≡ length order
length-without slot [] once e = absurd cc
length-without slot (k ∷ order) once e = by (eqb k slot) refl (λ h. length-without slot order once.1 h) e
  where
    by : (b : Bool) → eqb k slot ≡ b →
        (among slot order ≡ true → length (filter (λ j. not (eqb j slot)) order) + 1 ≡ length order) → (b || among slot order) ≡ true →
        length (cond (not b) (k ∷ filter (λ j. not (eqb j slot)) order) (filter (λ j. not (eqb j slot)) order)) + 1 ≡ length (k ∷ order)
    by true is rest e =
        let none = without-none slot order (ap (λ n. among n order) (sym (eqb-true k slot is)) ∙ once.0) in omega (arith, none)
    by false is rest e = let later = rest e in omega (arith, later)

module _ (w g : ℕ → ℕ) where
  pub besides-none : (window : ℕ) (order : List ℕ) → has_number w window order ≡ false →
      sum_by (λ k. cond (eqb (w k) window) 0 (g k)) order ≡ sum_by g order
  besides-none window [] e = refl
  besides-none window (k ∷ order) e =
      let parts = or_parts (eqb (w k) window) (has_number w window order) e in
      let here : cond (eqb (w k) window) 0 (g k) ≡ g k = ap (λ b. cond b 0 (g k)) parts.0 in
      omega (arith, here, besides-none window order parts.1, sum_by-cons g k order, sum_by-cons (λ j. cond (eqb (w j) window) 0 (g j)) k order)

  other-number : (n slot : ℕ) (order : List ℕ) → has_number w n order ≡ false → among slot order ≡ true → eqb (w slot) n ≡ false
  other-number n slot [] none e = absurd cc
  other-number n slot (k ∷ order) none e =
      let parts = or_parts (eqb (w k) n) (has_number w n order) none in
      by parts.0 (eqb k slot) refl (λ h. other-number n slot order parts.1 h) e
    where
      by : eqb (w k) n ≡ false → (b : Bool) → eqb k slot ≡ b → (among slot order ≡ true → eqb (w slot) n ≡ false) →
          (b || among slot order) ≡ true → eqb (w slot) n ≡ false
      by here true is rest e = ap (λ j. eqb (w j) n) (sym (eqb-true k slot is)) ∙ here
      by here false is rest e = rest e

  pub besides-at : (slot : ℕ) (order : List ℕ) → OnceBy w order → among slot order ≡ true →
      sum_by (λ k. cond (eqb (w k) (w slot)) 0 (g k)) order + g slot ≡ sum_by g order
  besides-at slot [] once e = absurd cc
  besides-at slot (k ∷ order) once e = by (eqb k slot) refl (λ i. besides-at slot order once.1 i) e
    where
      by : (b : Bool) → eqb k slot ≡ b →
          (among slot order ≡ true → sum_by (λ j. cond (eqb (w j) (w slot)) 0 (g j)) order + g slot ≡ sum_by g order) →
          (b || among slot order) ≡ true →
          sum_by (λ j. cond (eqb (w j) (w slot)) 0 (g j)) (k ∷ order) + g slot ≡ sum_by g (k ∷ order)
      by true is rest e =
          let same = eqb-true k slot is in
          let here : cond (eqb (w k) (w slot)) 0 (g k) ≡ 0 = ap (λ b. cond b 0 (g k)) (eq-eqb (w k) (w slot) (ap w same)) in
          let later = besides-none (w slot) order (ap (λ n. has_number w n order) (sym (ap w same)) ∙ once.0) in
          omega (arith, here, ap g same, later, sum_by-cons g k order, sum_by-cons (λ j. cond (eqb (w j) (w slot)) 0 (g j)) k order)
      by false is rest e =
          let differs = eqb-swap (w slot) (w k) (other-number (w k) slot order once.0 e) in
          let here : cond (eqb (w k) (w slot)) 0 (g k) ≡ g k = ap (λ b. cond b 0 (g k)) differs in
          omega (arith, here, rest e, sum_by-cons g k order, sum_by-cons (λ j. cond (eqb (w j) (w slot)) 0 (g j)) k order)
