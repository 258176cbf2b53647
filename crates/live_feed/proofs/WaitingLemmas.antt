-- Taking bytes off the front of two rows, one behind the other.
use Rattle.std.proofs.Common.{◌≡◌, ℕ, ◌+◌, ◌-◌, ◌≤◌, List, ◌++◌, length, drop, sym, ap, ◌∙◌, inl, inr, arith}
use Rattle.std.proofs.lemmas.List.{drop-append-le, drop_all}
use Rattle.std.proofs.Math.Seq.{drop-append-add}
use Rattle.std.proofs.lemmas.Bool.{cases_Bool}
use Rattle.std.proofs.lemmas.Bool.Decides.{nat_tests}
use Rattle.std.specs.Prelude.{nat_le}

within_first : (n : ℕ) (xs ys : List ℕ) → n ≤ length xs → drop n (xs ++ ys) ≡ drop n xs ++ drop (n - length xs) ys
within_first n xs ys within =
    let none : 0 ≡ n - length xs = omega arith in
    drop-append-le n xs ys within ∙ ap (λ k. drop n xs ++ drop k ys) none

past_first : (n : ℕ) (xs ys : List ℕ) → length xs ≤ n → drop n (xs ++ ys) ≡ drop n xs ++ drop (n - length xs) ys
past_first n xs ys past =
    let both : n ≡ length xs + (n - length xs) = omega arith in
    ap (λ k. drop k (xs ++ ys)) both
    ∙ drop-append-add xs ys (n - length xs)
    ∙ ap (λ front. front ++ drop (n - length xs) ys) (sym (drop_all n xs past))

-- off the first, and what is more off the second
pub drop_both : (n : ℕ) (xs ys : List ℕ) → drop n (xs ++ ys) ≡ drop n xs ++ drop (n - length xs) ys
drop_both n xs ys = elim (cases_Bool (nat_le n (length xs))) [
  | inl within ↦ within_first n xs ys (grind (arith, nat_tests, within))
  | inr past ↦ past_first n xs ys (grind (arith, nat_tests, past))
]
