-- Pairs that are put in one by one come in order.
use Rattle.std.proofs.Common.{◌≡◌, List, [], ◌∷◌, ◌++◌, true, false, not, refl, sym, subst, inl, inr, arith, append_assoc, append-nil, IsPermutation}
use Rattle.std.proofs.lemmas.Bool.{cases_Bool, and_parts}
use Rattle.std.proofs.lemmas.Bool.Decides.{nat_tests}
use Rattle.std.proofs.lemmas.List.Sorted.{IsPermutation-refl, IsPermutation-to_front, IsPermutation-insert, IsPermutation-append_left, IsPermutation-trans}
use Rattle.std.specs.List.{position_or_len}
use Rattle.desk_laws.specs.declared.setup.Pair.{Pair}
use Rattle.desk_laws.specs.Rules.{is_before}
use Rattle.guid_config.specs.Pairs.{put_in, all_put_in}
use Rattle.guid_config.specs.Laws.{none_behind, PairsAreInOrder}
use Rattle.guid_config.proofs.PairLemmas.{inserted_in}

-- of two pairs at most one comes before the other
not_both : (a b : Pair) → is_before a b ≡ true → is_before b a ≡ false
not_both a b before = grind (arith, nat_tests, before)

-- behind a pair that it doesn't come before, a pair is put in as behind any other
behind_first : (a p : Pair) (pairs : List Pair) → is_before p a ≡ false → none_behind (a ∷ pairs) ≡ true → none_behind (put_in p pairs) ≡ true → none_behind (a ∷ put_in p pairs) ≡ true
behind_first a p [] behind sorted put = rw behind
behind_first a p (b ∷ pairs) behind sorted put = elim (cases_Bool (is_before p b)) [
  | inl before ↦ rw (before, behind) (rw before at put)
  | inr later ↦ rw (later, (and_parts (not (is_before b a)) (none_behind (b ∷ pairs)) sorted).0) (rw later at put)
]

put_keeps : (p : Pair) (pairs : List Pair) → none_behind pairs ≡ true → none_behind (put_in p pairs) ≡ true
put_keeps p [] sorted = refl
put_keeps p (a ∷ pairs) sorted = elim (cases_Bool (is_before p a)) [
  | inl before ↦ rw (before, not_both p a before) sorted
  | inr behind ↦ rw behind (behind_first a p pairs behind sorted (put_keeps p pairs (rest_of a pairs sorted)))
]
  where
    rest_of : (a : Pair) (pairs : List Pair) → none_behind (a ∷ pairs) ≡ true → none_behind pairs ≡ true
    rest_of a [] sorted = refl
    rest_of a (b ∷ pairs) sorted = (and_parts (not (is_before b a)) (none_behind (b ∷ pairs)) sorted).1

all_keep : (sorted pairs : List Pair) → none_behind sorted ≡ true → none_behind (all_put_in sorted pairs) ≡ true
all_keep sorted [] h = h
all_keep sorted (p ∷ pairs) h = all_keep (put_in p sorted) pairs (put_keeps p sorted h)

-- one pair put in, and those that are still to come
put_moves : (p : Pair) (sorted pairs : List Pair) → IsPermutation (sorted ++ p ∷ pairs) (put_in p sorted ++ pairs)
put_moves p sorted pairs =
    let place = position_or_len (is_before p) sorted in
    let front : IsPermutation (sorted ++ p ∷ []) (put_in p sorted) =
    IsPermutation-trans _ _ _ (IsPermutation-to_front sorted p) (subst (λ l. IsPermutation (p ∷ sorted) l) (inserted_in p sorted) (IsPermutation-insert sorted place p)) in
    subst (λ l. IsPermutation l (put_in p sorted ++ pairs)) (append_assoc sorted (p ∷ []) pairs)
    (IsPermutation-append_left pairs (sorted ++ p ∷ []) (put_in p sorted) front)

all_moved : (sorted pairs : List Pair) → IsPermutation (sorted ++ pairs) (all_put_in sorted pairs)
all_moved sorted [] = subst (λ l. IsPermutation l sorted) (sym (append-nil sorted)) (IsPermutation-refl sorted)
all_moved sorted (p ∷ pairs) = IsPermutation-trans _ _ _ (put_moves p sorted pairs) (all_moved (put_in p sorted) pairs)

pub pairs_are_in_order : PairsAreInOrder
pairs_are_in_order pairs = (all_moved [] pairs, all_keep [] pairs refl)
