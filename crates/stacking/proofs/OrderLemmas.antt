-- The order of ids.
use Rattle.std.proofs.Common.{◌≡◌, true, false, arith}
use Rattle.std.proofs.lemmas.Bool.Decides.{nat_tests}
use Rattle.desk_laws.specs.declared.row_id.RowId.{RowId}
use Rattle.desk_laws.specs.Rows.{same_row}
use Rattle.stacking.specs.Keys.{before, first_id, next_id}

pub none-first : (a : RowId) → before a first_id ≡ false
none-first a = grind (arith, nat_tests)

pub from-trans : (a b c : RowId) → before b c ≡ false → before a b ≡ false → before a c ≡ false
from-trans a b c p q = grind (arith, nat_tests)

pub from-next : (a b c : RowId) → before b c ≡ false → before a (next_id b) ≡ false → before a c ≡ false
from-next a b c p q = grind (arith, nat_tests)

pub next-from : (a b : RowId) → before a b ≡ false → before (next_id a) b ≡ false
next-from a b p = grind (arith, nat_tests)

pub below-differs : (a b c : RowId) → before a c ≡ true → before b c ≡ false → same_row a b ≡ false
below-differs a b c p q = grind (arith, nat_tests)

pub below-next : (a b c : RowId) → before a c ≡ true → before b c ≡ false → before a (next_id b) ≡ true
below-next a b c p q = grind (arith, nat_tests)

pub at-next : (a b : RowId) → before b a ≡ false → before a (next_id b) ≡ true
at-next a b p = grind (arith, nat_tests)

pub before-next : (a b : RowId) → before a b ≡ true → before b (next_id a) ≡ false
before-next a b p = grind (arith, nat_tests)

pub apart-next : (a b : RowId) → before b a ≡ false → same_row a b ≡ false → before b (next_id a) ≡ false
apart-next a b p q = grind (arith, nat_tests)

pub before-differs : (a b : RowId) → before a b ≡ true → same_row b a ≡ false
before-differs a b p = grind (arith, nat_tests)

pub below-get : (a b c : RowId) → before a b ≡ true → before a (next_id c) ≡ false → before c b ≡ true
below-get a b c p q = grind (arith, nat_tests)

pub same-through : (a b c : RowId) → same_row a b ≡ true → same_row c b ≡ same_row c a
same-through a b c p = grind (arith, nat_tests)

pub behind-differs : (a b : RowId) → before a (next_id b) ≡ false → same_row a b ≡ false
behind-differs a b p = grind (arith, nat_tests)
