-- A pair that is put among pairs in order.
use Rattle.std.proofs.Common.{◌≡◌, ℕ, suc, ◌+◌, List, [], ◌∷◌, ◌≤◌, Bool, not, cond, Some, None, length, position, insert, refl, ap, ◌∙◌, inl, inr, arith}
use Rattle.std.proofs.lemmas.Bool.{cases_Bool}
use Rattle.std.proofs.lemmas.Bool.Decides.{nat_tests}
use Rattle.std.proofs.lemmas.List.Sums.{prefix_len-le-length}
use Rattle.std.specs.Prelude.{nat_lt}
use Rattle.std.specs.Option.{unwrap_or}
use Rattle.std.specs.List.{position_or_len}
use Rattle.desk_laws.specs.declared.setup.Pair.{Pair}
use Rattle.desk_laws.specs.Rules.{is_before}
use Rattle.guid_config.specs.Pairs.{put_in}

-- behind the first
one_behind : (p pair : Pair) (pairs : List Pair) (n : ℕ) → insert (p ∷ pairs) (1 + n) pair ≡ p ∷ insert pairs n pair
one_behind p pair pairs n = let next : 1 + n ≡ suc n = omega arith in rw next

-- the place before the first that it comes before
pub inserted_in : (pair : Pair) (pairs : List Pair) → insert pairs (position_or_len (is_before pair) pairs) pair ≡ put_in pair pairs
inserted_in pair [] = refl
inserted_in pair (p ∷ pairs) =
    elim (cases_Bool (is_before pair p)) [
      | inl before ↦ rw before
      | inr behind ↦ rw behind (one_behind p pair pairs (position_or_len (is_before pair) pairs) ∙ ap (λ l. p ∷ l) (inserted_in pair pairs))
    ]

-- where none passes the place is behind all
pub place_or_len : {A : Type 0} (test : A → Bool) (xs : List A) → unwrap_or (position test xs) (length xs) ≡ position_or_len test xs
place_or_len test xs = or_len (position_or_len test xs) (length xs) (prefix_len-le-length (λ x. not (test x)) xs)
  where
    or_len : (n len : ℕ) → n ≤ len → unwrap_or (cond (nat_lt n len) (Some n) None) len ≡ n
    or_len n len within = elim (cases_Bool (nat_lt n len)) [
      | inl below ↦ rw below
      | inr past ↦ rw past (grind (arith, nat_tests, past, within))
    ]
