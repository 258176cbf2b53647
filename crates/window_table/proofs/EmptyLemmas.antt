-- A table without windows.
use Rattle.std.proofs.Common.{◌≡◌, ℕ, zero, suc, List, [], length, get_or, sum_by, count_by, is_some, refl, ap, ◌∙◌, arith}
use Rattle.std.proofs.lemmas.List.Sums.{sum_by-cons}
use Rattle.slab.specs.Slab.{Slab}
use Rattle.window_table.specs.declared.held.Held.{Held}
use Rattle.window_table.specs.Kept.{IsKept}
use Rattle.window_table.specs.Parts.{no_lists}

-- no references together
pub zeros-none : (n : ℕ) → sum_by length (no_lists n) ≡ 0
unfolding no_lists
zeros-none zero = refl
zeros-none (suc n) = omega (arith, sum_by-cons length [] (no_lists n), zeros-none n)

none-at : (n k : ℕ) → get_or (no_lists n) k [] ≡ []
unfolding no_lists
none-at zero k = refl
none-at (suc n) zero = refl
none-at (suc n) (suc k) = none-at n k

lists-long : (n : ℕ) → length (no_lists n) ≡ n
unfolding no_lists
lists-long zero = refl
lists-long (suc n) = ap suc (lists-long n)

pub kept-none : (held : Slab Held) (lists : List (List ℕ)) → held.slots ≡ [] → held.capacity ≡ 1024 → lists ≡ no_lists 1024 → IsKept held lists []
unfolding no_lists
kept-none held lists none capacity empty = record {
  slots = ap length empty ∙ lists-long 1024;
  capacity = capacity;
  each = λ k in_. absurd cc;
  below = λ k in_. absurd cc;
  count = ap (λ s. count_by is_some s) none;
  few = omega arith;
  unused = λ k e. ap (λ ls. get_or ls k []) empty ∙ none-at 1024 k;
  together = ap (λ ls. sum_by length ls) empty ∙ zeros-none 1024;
  apart = record { windows = refl; slots = refl };
}
