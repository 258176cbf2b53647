-- What the rules of a setup say of its numbers.
use Rattle.std.proofs.Common.{◌≡◌, ℕ, zero, suc, nat_le, get_or, ◌+◌, ◌≤◌, Bool, true, false, List, [], ◌∷◌, length, Option, Some, None, refl}
use Rattle.std.proofs.lemmas.Bool.{and_parts, leb-true}
use Rattle.desk_laws.specs.declared.setup.Setup.{Setup}
use Rattle.desk_laws.specs.Rules.{within, rules, later_rules, or_later, first_false, first_broken}

-- the ranges that a desktop needs
pub record HasRanges (s : Setup) : Type 0 where
  pub some : 1 ≤ length s.guests
  pub few : length s.guests ≤ 16
  pub wide : s.width ≤ 8192
  pub high : s.height ≤ 8192
  pub narrow : s.border ≤ 16

-- where no rule is broken, each holds
rule-holds : (n : ℕ) (bs : List Bool) (k : ℕ) → first_false n bs ≡ None → get_or bs k true ≡ true
rule-holds n [] k is = refl
rule-holds n (true ∷ bs) zero is = refl
rule-holds n (true ∷ bs) (suc k) is = rule-holds (n + 1) bs k is
rule-holds n (false ∷ bs) k is = cc

most : (least n m : ℕ) → within least n m ≡ true → m ≤ n
most least n m is = leb-true m n (and_parts (nat_le least m) (nat_le m n) is).1

least : (n m k : ℕ) → within n m k ≡ true → n ≤ k
least n m k is = leb-true n k (and_parts (nat_le n k) (nat_le k m) is).0

-- no earlier rule is broken where none is
earlier : (o later : Option ℕ) → or_later o later ≡ None → o ≡ None
earlier None later is = refl
earlier (Some n) later is = cc

pub ranges-kept : (s : Setup) → first_broken s ≡ None → HasRanges s
ranges-kept s kept = let is : first_false 1 (rules s) ≡ None = earlier (first_false 1 (rules s)) (first_false 17 (later_rules s)) kept in record {
  some = least 1 16 (length s.guests) (rule-holds 1 (rules s) 0 is);
  few = most 1 16 (length s.guests) (rule-holds 1 (rules s) 0 is);
  wide = most 1 8192 s.width (rule-holds 1 (rules s) 1 is);
  high = most 1 8192 s.height (rule-holds 1 (rules s) 2 is);
  narrow = most 1 16 s.border (rule-holds 1 (rules s) 4 is);
}
