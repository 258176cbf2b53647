-- What holds of a setup that breaks no rule.
use Rattle.std.proofs.Common.{◌≡◌, ℕ, zero, suc, get_or, ◌+◌, ◌*◌, ◌≤◌, ◌<◌, Bool, true, false, List, [], ◌∷◌, length, Option, None, Some, refl, arith}
use Rattle.std.proofs.lemmas.Bool.{and_parts}
use Rattle.std.proofs.lemmas.Bool.Decides.{nat_tests}
use Rattle.std.specs.Prelude.{nat_le, ◌==◌, ◌&&◌}
use Rattle.std.specs.List.{list_all}
use Rattle.desk_laws.specs.declared.setup.Setup.{Setup}
use Rattle.desk_laws.specs.declared.setup.Pair.{Pair}
use Rattle.desk_laws.specs.Rules.{within, rules, later_rules, is_pair, is_before, rise, or_later, first_false, first_broken, Fits, FitsLater}

rule_holds : (n : ℕ) (bs : List Bool) (k : ℕ) → first_false n bs ≡ None → get_or bs k true ≡ true
rule_holds n [] k is = refl
rule_holds n (true ∷ bs) zero is = refl
rule_holds n (true ∷ bs) (suc k) is = rule_holds (n + 1) bs k is
rule_holds n (false ∷ bs) k is = cc

least : (a b n : ℕ) → within a b n ≡ true → a ≤ n
least a b n is = grind (arith, nat_tests, is)

most : (a b n : ℕ) → within a b n ≡ true → n ≤ b
most a b n is = grind (arith, nat_tests, is)

at_most : (n b : ℕ) → nat_le n b ≡ true → n ≤ b
at_most n b is = grind (arith, nat_tests, is)

-- where no rule is broken, none of either list is
none_broken : (a b : Option ℕ) → or_later a b ≡ None → (a ≡ None) × (b ≡ None)
none_broken None b is = (refl, is)
none_broken (Some n) b is = absurd (cc)

later_of : (s : Setup) → first_false 17 (later_rules s) ≡ None → FitsLater s
later_of s is = record {
  some_outputs = least 1 8 (length s.outputs) (rule_holds 17 (later_rules s) 0 is);
  outputs = most 1 8 (length s.outputs) (rule_holds 17 (later_rules s) 0 is);
  in_plane = rule_holds 17 (later_rules s) 1 is;
  apart = rule_holds 17 (later_rules s) 2 is;
  some_clip = least 1 2 s.clip (rule_holds 17 (later_rules s) 3 is);
  clip = most 1 2 s.clip (rule_holds 17 (later_rules s) 3 is);
  pairs = rule_holds 17 (later_rules s) 4 is;
  rising = rule_holds 17 (later_rules s) 5 is;
}

pub fits_of : (s : Setup) → first_broken s ≡ None → Fits s
fits_of s none =
    let two = none_broken (first_false 1 (rules s)) (first_false 17 (later_rules s)) none in
    let is = two.0 in
    record {
      some_guests = least 1 16 (length s.guests) (rule_holds 1 (rules s) 0 is);
      guests = most 1 16 (length s.guests) (rule_holds 1 (rules s) 0 is);
      some_columns = least 1 8192 s.width (rule_holds 1 (rules s) 1 is);
      width = most 1 8192 s.width (rule_holds 1 (rules s) 1 is);
      some_rows = least 1 8192 s.height (rule_holds 1 (rules s) 2 is);
      height = most 1 8192 s.height (rule_holds 1 (rules s) 2 is);
      pixels = at_most (s.width * s.height) 33177600 (rule_holds 1 (rules s) 3 is);
      some_border = least 1 16 s.border (rule_holds 1 (rules s) 4 is);
      border = most 1 16 s.border (rule_holds 1 (rules s) 4 is);
      some_pages = least 1 16384 s.pages (rule_holds 1 (rules s) 5 is);
      pages = most 1 16384 s.pages (rule_holds 1 (rules s) 5 is);
      some_tiles = least 1 4096 s.tiles (rule_holds 1 (rules s) 6 is);
      tiles = most 1 4096 s.tiles (rule_holds 1 (rules s) 6 is);
      some_percent = least 1 90 s.percent (rule_holds 1 (rules s) 7 is);
      percent = most 1 90 s.percent (rule_holds 1 (rules s) 7 is);
      background = at_most s.background.0 16777215 (rule_holds 1 (rules s) 8 is);
      colours = rule_holds 1 (rules s) 9 is;
      names = rule_holds 1 (rules s) 10 is;
      later = later_of s two.1;
    }

-- ---- how many pairs there are

-- where a pair stands among all pairs of 16 guests
abbrev place : Pair → ℕ
place pair = pair.from * 16 + pair.to

before_is : (a b : Pair) → is_before a b ≡ true → a.to < 16 → place a < place b
before_is a b is small = grind (arith, nat_tests, is, small)

pair_small : (guests : ℕ) (pair : Pair) → guests ≤ 16 → is_pair guests pair ≡ true → (pair.from < 16) × (pair.to < 16)
pair_small guests pair few is = (grind (arith, nat_tests, is, few), grind (arith, nat_tests, is, few))

-- a pair that rises from another has a place behind it
rising_few : (guests : ℕ) (a : Pair) (pairs : List Pair) → guests ≤ 16 → list_all (is_pair guests) (a ∷ pairs) ≡ true → rise (a ∷ pairs) ≡ true → place a + length (a ∷ pairs) ≤ 256
rising_few guests a [] few all up =
    let small = pair_small guests a few (and_parts (is_pair guests a) true all).0 in
    omega (arith, small.0, small.1)
rising_few guests a (b ∷ pairs) few all up =
    let here = and_parts (is_pair guests a) (list_all (is_pair guests) (b ∷ pairs)) all in
    let next = and_parts (is_before a b) (rise (b ∷ pairs)) up in
    let small = pair_small guests a few here.0 in
    let step : place a < place b = before_is a b next.0 small.1 in
    omega (arith, step, rising_few guests b pairs few here.1 next.1)

first_some : (guests : ℕ) (a : Pair) → is_pair guests a ≡ true → 1 ≤ place a
first_some guests a is = let apart : (a.from == a.to) ≡ false = grind (arith, nat_tests, is) in grind (arith, nat_tests, apart)

-- at most 16 guests have at most 255 pairs that rise
pub few_pairs : (guests : ℕ) (pairs : List Pair) → guests ≤ 16 → list_all (is_pair guests) pairs ≡ true → rise pairs ≡ true → length pairs ≤ 255
few_pairs guests [] few all up = omega arith
few_pairs guests (a ∷ pairs) few all up =
    let one = first_some guests a (and_parts (is_pair guests a) (list_all (is_pair guests) pairs) all).0 in
    omega (arith, one, rising_few guests a pairs few all up)

pair_of_more : (guests : ℕ) (pair : Pair) → guests ≤ 16 → is_pair guests pair ≡ true → is_pair 256 pair ≡ true
pair_of_more guests pair few is = grind (arith, nat_tests, is, few)

-- pairs of few guests are pairs of more
pub pairs_of_more : (guests : ℕ) (pairs : List Pair) → guests ≤ 16 → list_all (is_pair guests) pairs ≡ true → list_all (is_pair 256) pairs ≡ true
pairs_of_more guests [] few all = refl
pairs_of_more guests (a ∷ pairs) few all =
    let parts = and_parts (is_pair guests a) (list_all (is_pair guests) pairs) all in
    λ i. pair_of_more guests a few parts.0 i && pairs_of_more guests pairs few parts.1 i
