-- The order of spots.
use Rattle.std.proofs.Common.{◌≡◌, ℕ, true, false, ◌&&◌, eqb, ap, ◌∙◌, arith}
use Rattle.std.proofs.lemmas.Bool.{and_parts, eqb-true}
use Rattle.std.proofs.lemmas.Bool.Decides.{nat_tests}
use Rattle.tile_store.specs.declared.spot.Spot.{Spot}
use Rattle.tile_store.specs.Spots.{before, same}

pub before-trans : (a b c : Spot) → before a b ≡ true → before b c ≡ true → before a c ≡ true
before-trans a b c p q = grind (arith, nat_tests)

pub before-not-same : (a b : Spot) → before a b ≡ true → same a b ≡ false
before-not-same a b p = grind (arith, nat_tests)

pub same-not-before : (a b : Spot) → same a b ≡ true → before a b ≡ false
same-not-before a b p = grind (arith, nat_tests)

pub before-same : (a b c : Spot) → before a b ≡ true → same b c ≡ true → before a c ≡ true
before-same a b c p q = grind (arith, nat_tests)

pub before-total : (a b : Spot) → before a b ≡ false → same a b ≡ false → before b a ≡ true
before-total a b p q = grind (arith, nat_tests)

pub same-refl : (a : Spot) → same a a ≡ true
same-refl a = grind (arith, nat_tests)

pub same-sym : (a b : Spot) → same a b ≡ same b a
same-sym a b = grind (arith, nat_tests)

pub same-is : (a b : Spot) → same a b ≡ true → a ≡ b
same-is a b p =
    let parts = and_parts (eqb a.slot b.slot && eqb a.row b.row) (eqb a.column b.column) p in
    let firsts = and_parts (eqb a.slot b.slot) (eqb a.row b.row) parts.0 in
    let at : ℕ → ℕ → ℕ → Spot = λ s c r. record { slot = s; column = c; row = r } in
    let e1 : at a.slot a.column a.row ≡ at b.slot a.column a.row = ap (λ s. at s a.column a.row) (eqb-true a.slot b.slot firsts.0) in
    let e2 : at b.slot a.column a.row ≡ at b.slot b.column a.row = ap (λ n. at b.slot n a.row) (eqb-true a.column b.column parts.1) in
    let e3 : at b.slot b.column a.row ≡ at b.slot b.column b.row = ap (λ n. at b.slot b.column n) (eqb-true a.row b.row firsts.1) in
    e1 ∙ e2 ∙ e3
