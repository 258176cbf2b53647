-- The loop that moves the places behind a slot.
use Rattle.std.proofs.Common.{◌≡◌, ◌≢◌, ◌⊎◌, inl, inr, ℕ, ◌+◌, ◌-◌, ◌<◌, ◌≤◌, List, length, get_or, set, refl, sym, ap, ◌∙◌, arith}
use Rattle.std.proofs.lemmas.List.{ext_get_or, get_or-set_same, get_or-set_other, length-set}
use Rattle.std.proofs.lemmas.Bool.{cases_eq}
use Rattle.window_table.specs.Parts.{moved_after}
use Rattle.window_table.proofs.PlaceLemmas.{get_or-moved_before, get_or-moved_behind, length-moved_after}

-- the places below k are moved, the others as before
pub record MovedSoFar (old now : List ℕ) (slot taken given k : ℕ) : Type 0 where
  pub long : length now ≡ length old
  pub before : (j : ℕ) → j < k → get_or now j 0 ≡ get_or (moved_after slot taken given old) j 0
  pub behind : (j : ℕ) → k ≤ j → get_or now j 0 ≡ get_or old j 0

pub moved-start : (old : List ℕ) (slot taken given : ℕ) → MovedSoFar old old slot taken given (slot + 1)
moved-start old slot taken given = record {
  long = refl;
  before = λ j l. sym (get_or-moved_before slot taken given old j (omega arith));
  behind = λ j l. refl;
}

module _ (old now : List ℕ) (slot taken given k : ℕ) (so_far : MovedSoFar old now slot taken given k) where
  moved-place : slot < k → k < length old → (j : ℕ) → j < k + 1 → (j ≡ k) ⊎ (j ≢ k) →
      get_or (set now k (get_or now k 0 - taken + given)) j 0 ≡ get_or (moved_after slot taken given old) j 0
  moved-place above inside j l (inl same) =
      ap (λ n. get_or (set now k (get_or now k 0 - taken + given)) n 0) same
      ∙ get_or-set_same now k (get_or now k 0 - taken + given) 0 (omega (arith, so_far.long))
      ∙ ap (λ p. p - taken + given) (so_far.behind k (omega arith))
      ∙ sym (get_or-moved_behind slot taken given old k above inside)
      ∙ ap (λ n. get_or (moved_after slot taken given old) n 0) (sym same)
  moved-place above inside j l (inr differs) =
      get_or-set_other now k j (get_or now k 0 - taken + given) 0 differs
      ∙ so_far.before j (omega (arith, differs))

  pub moved-more : slot < k → k < length old → MovedSoFar old (set now k (get_or now k 0 - taken + given)) slot taken given (k + 1)
  moved-more above inside = record {
    long = length-set now k (get_or now k 0 - taken + given) ∙ so_far.long;
    before = λ j l. moved-place above inside j l (cases_eq j k);
    behind = λ j l. get_or-set_other now k j (get_or now k 0 - taken + given) 0 (λ e. omega (arith, e)) ∙ so_far.behind j (omega arith);
  }

  pub moved-end : length old ≤ k → now ≡ moved_after slot taken given old
  moved-end le =
      ext_get_or 0 now (moved_after slot taken given old) (so_far.long ∙ sym (length-moved_after slot taken given old))
      (λ j l. so_far.before j (omega (arith, so_far.long)))
