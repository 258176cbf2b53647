-- The pairs of guests between which no paste goes, as a configuration names them.
use Rattle.std.specs.Prelude.{ℕ, List, [], ◌∷◌, length, min, position, if◌then◌else◌}
use Rattle.std.specs.Option.{unwrap_or}
use Rattle.std.specs.Str.{bytes_eq}
use Rattle.desk_laws.specs.declared.setup.GuestSetup.{GuestSetup}
use Rattle.desk_laws.specs.declared.setup.Pair.{Pair}
use Rattle.desk_laws.specs.Rules.{is_before}

-- the number of the first guest of this name, and the number of all guests where none has it; at most 4294967295
abbrev pub number_named : List ℕ → List GuestSetup → ℕ
number_named name guests = min (unwrap_or (position (λ g. bytes_eq g.name name) guests) (length guests)) 4294967295

-- pairs in order with one more, which stands before the first that it comes before
abbrev pub put_in : Pair → List Pair → List Pair
put_in pair [] = pair ∷ []
put_in pair (p ∷ pairs) = if is_before pair p then pair ∷ p ∷ pairs else p ∷ put_in pair pairs

-- pairs in order with all of these
abbrev pub all_put_in : List Pair → List Pair → List Pair
all_put_in sorted [] = sorted
all_put_in sorted (p ∷ pairs) = all_put_in (put_in p sorted) pairs

-- the same pairs in order
abbrev pub in_order : List Pair → List Pair
in_order pairs = all_put_in [] pairs
