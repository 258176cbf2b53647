-- Keys in the order of their ids.
use Rattle.std.proofs.Common.{◌≡◌, ℕ, zero, suc, ◌-◌, ◌<◌, Bool, true, false, cond, eqb, not, filter, List, [], ◌∷◌, length, drop, get_or, Option, Some, None, is_some, refl, sym, ap, ◌∙◌, subst, arith}
use Rattle.std.specs.List.{insert, remove}
use Rattle.std.proofs.lemmas.Bool.{both_ways, cond-true, cond-false}
use Rattle.desk_laws.specs.declared.row_id.RowId.{RowId}
use Rattle.desk_laws.specs.Rows.{same_row}
use Rattle.stacking.specs.declared.index.Key.{Key}
use Rattle.stacking.specs.Keys.{before, next_id, layer_in, first_layer, RiseFrom, IsPlaceFor}
use Rattle.stacking.proofs.OrderLemmas.{from-trans, from-next, next-from, below-differs, below-next, at-next, before-next, apart-next, before-differs, behind-differs, below-get, same-through}
use Rattle.stacking.proofs.CountLemmas.{same-is, same-swapped}

rise-lower : (low high : RowId) (keys : List Key) → before high low ≡ false → RiseFrom high keys → RiseFrom low keys
rise-lower low high [] le rising = tt
rise-lower low high (key ∷ keys) le rising = (from-trans key.id high low le rising.0, rising.1)

rise-get : (low : RowId) (keys : List Key) (i : ℕ) (d : Key) → RiseFrom low keys → i < length keys → before (get_or keys i d).id low ≡ false
rise-get low [] i d rising inside = absurd (omega arith)
rise-get low (key ∷ keys) zero d rising inside = rising.0
rise-get low (key ∷ keys) (suc i) d rising inside =
    from-next (get_or keys i d).id key.id low rising.0 (rise-get (next_id key.id) keys i d rising.1 (omega arith))

pub same-not-before : (a b : RowId) → same_row a b ≡ true → before a b ≡ false
same-not-before a b p = by (before a b) refl
  where
    by : (c : Bool) → before a b ≡ c → c ≡ false
    by true e = absurd (both_ways (same_row b a) (before-differs a b e) (same-swapped b a ∙ p))
    by false e = refl

-- a row below all of them has none
pub none-below : (low id : RowId) (keys : List Key) → RiseFrom low keys → before id low ≡ true → layer_in id keys ≡ None
none-below low id [] rising less = refl
none-below low id (key ∷ keys) rising less =
    cond-false (same_row id key.id) (Some key.over) (layer_in id keys) (below-differs id key.id low less rising.0)
    ∙ none-below (next_id key.id) id keys rising.1 (below-next id key.id low less rising.0)

-- the rest of a place
place-tail : (id : RowId) (key : Key) (keys : List Key) (i : ℕ) → IsPlaceFor id (key ∷ keys) (suc i) → IsPlaceFor id keys i
place-tail id key keys zero place = record {
  within = omega arith;
  behind = λ d h. absurd (omega arith);
  ahead = λ d h. place.ahead d (omega arith);
}
place-tail id key keys (suc i) place = record {
  within = omega (arith, place.within);
  behind = λ d h.
      let there : suc (suc i) - 1 ≡ suc i = omega arith in
      let here : suc i - 1 ≡ i = omega arith in
      let P : ℕ → Type 0 = λ n. before (get_or (key ∷ keys) n d).id id ≡ true in
      let Q : ℕ → Type 0 = λ n. before (get_or keys n d).id id ≡ true in
      subst Q (sym here) (subst P there (place.behind d (omega arith)));
  ahead = λ d h. place.ahead d (omega arith);
}

-- the first key comes before an id whose place is behind it
first-before : (id low : RowId) (key : Key) (keys : List Key) (i : ℕ) → RiseFrom low (key ∷ keys) → IsPlaceFor id (key ∷ keys) (suc i) →
    before key.id id ≡ true
first-before id low key keys zero rising place =
    let here : suc zero - 1 ≡ zero = omega arith in
    let P : ℕ → Type 0 = λ n. before (get_or (key ∷ keys) n key).id id ≡ true in
    subst P here (place.behind key (omega arith))
first-before id low key keys (suc i) rising place =
    let there : suc (suc i) - 1 ≡ suc i = omega arith in
    let P : ℕ → Type 0 = λ n. before (get_or (key ∷ keys) n key).id id ≡ true in
    let last : before (get_or keys i key).id id ≡ true = subst P there (place.behind key (omega arith)) in
    below-get (get_or keys i key).id id key.id last (rise-get (next_id key.id) keys i key rising.1 (omega (arith, place.within)))

-- what is found at a row's place
pub layer-here : (id low : RowId) (keys : List Key) (i : ℕ) → RiseFrom low keys → IsPlaceFor id keys i →
    layer_in id keys ≡ first_layer id (drop i keys)
layer-here id low [] zero rising place = refl
layer-here id low [] (suc i) rising place = absurd (omega (arith, place.within))
layer-here id low (key ∷ keys) zero rising place =
    ap (λ o. cond (same_row id key.id) (Some key.over) o)
    (none-below (next_id key.id) id keys rising.1 (at-next id key.id (place.ahead key (omega arith))))
layer-here id low (key ∷ keys) (suc i) rising place =
    cond-false (same_row id key.id) (Some key.over) (layer_in id keys) (before-differs key.id id (first-before id low key keys i rising place))
    ∙ layer-here id (next_id key.id) keys i rising.1 (place-tail id key keys i place)

-- what is found at any place is what is found
pub layer-near : (id : RowId) (over : Bool) (low : RowId) (keys : List Key) (i : ℕ) → RiseFrom low keys → first_layer id (drop i keys) ≡ Some over →
    (before id low ≡ false) × (layer_in id keys ≡ Some over)
layer-near id over low [] zero rising found = absurd cc
layer-near id over low [] (suc i) rising found = absurd cc
layer-near id over low (key ∷ keys) zero rising found = by (same_row id key.id) refl found
  where
    by : (b : Bool) → same_row id key.id ≡ b → cond b (Some key.over) None ≡ Some over →
        (before id low ≡ false) × (cond b (Some key.over) (layer_in id keys) ≡ Some over)
    by true is found = (ap (λ (x : RowId). before x low) (same-is id key.id is) ∙ rising.0, found)
    by false is found = absurd cc
layer-near id over low (key ∷ keys) (suc i) rising found =
    let rest = layer-near id over (next_id key.id) keys i rising.1 found in (
      from-next id key.id low rising.0 rest.0,
      cond-false (same_row id key.id) (Some key.over) (layer_in id keys) (behind-differs id key.id rest.0) ∙ rest.1,
    )

-- where a row has no key, the first key is of another
other-first : (id : RowId) (key : Key) (keys : List Key) → layer_in id (key ∷ keys) ≡ None →
    (same_row id key.id ≡ false) × (layer_in id keys ≡ None)
other-first id key keys none = by (same_row id key.id) refl none
  where
    by : (b : Bool) → same_row id key.id ≡ b → cond b (Some key.over) (layer_in id keys) ≡ None →
        (same_row id key.id ≡ false) × (layer_in id keys ≡ None)
    by true is none = absurd cc
    by false is none = (is, none)

-- one key more
pub rise-put : (id : RowId) (over : Bool) (low : RowId) (keys : List Key) (i : ℕ) → RiseFrom low keys → IsPlaceFor id keys i → layer_in id keys ≡ None →
    before id low ≡ false → RiseFrom low (insert keys i (record { id = id; over = over }))
rise-put id over low [] zero rising place none le = (le, tt)
rise-put id over low [] (suc i) rising place none le = absurd (omega (arith, place.within))
rise-put id over low (key ∷ keys) zero rising place none le =
    (le, (apart-next id key.id (place.ahead key (omega arith)) (other-first id key keys none).0, rising.1))
rise-put id over low (key ∷ keys) (suc i) rising place none le =
    let less = first-before id low key keys i rising place in (
      rising.0,
      rise-put id over (next_id key.id) keys i rising.1 (place-tail id key keys i place) (other-first id key keys none).1 (before-next key.id id less),
    )

pub layer-put : (id : RowId) (over : Bool) (other : RowId) (keys : List Key) (i : ℕ) → layer_in id keys ≡ None →
    layer_in other (insert keys i (record { id = id; over = over })) ≡ cond (same_row id other) (Some over) (layer_in other keys)
layer-put id over other keys zero none = ap (λ b. cond b (Some over) (layer_in other keys)) (same-swapped other id)
layer-put id over other [] (suc i) none = ap (λ b. cond b (Some over) None) (same-swapped other id)
layer-put id over other (key ∷ keys) (suc i) none =
    let rest = other-first id key keys none in
    by (same_row other key.id) refl rest.0 (layer-put id over other keys i rest.1)
  where
    by : (b : Bool) → same_row other key.id ≡ b → same_row id key.id ≡ false →
        layer_in other (insert keys i (record { id = id; over = over })) ≡ cond (same_row id other) (Some over) (layer_in other keys) →
        cond b (Some key.over) (layer_in other (insert keys i (record { id = id; over = over })))
        ≡ cond (same_row id other) (Some over) (cond b (Some key.over) (layer_in other keys))
    by true is differs rest =
        sym (cond-false (same_row id other) (Some over) (Some key.over) (sym (same-through other key.id id is) ∙ differs))
    by false is differs rest = rest

-- one key less
pub has-first : (id : RowId) (keys : List Key) (i : ℕ) → is_some (first_layer id (drop i keys)) ≡ true → i < length keys
has-first id [] zero some = absurd cc
has-first id [] (suc i) some = absurd cc
has-first id (key ∷ keys) zero some = omega arith
has-first id (key ∷ keys) (suc i) some = let rest = has-first id keys i some in omega (arith, rest)

first-id : (id : RowId) (key : Key) (keys : List Key) → is_some (first_layer id (key ∷ keys)) ≡ true → same_row id key.id ≡ true
first-id id key keys some = by (same_row id key.id) refl some
  where
    by : (b : Bool) → same_row id key.id ≡ b → is_some (cond b (Some key.over) None) ≡ true → same_row id key.id ≡ true
    by true is some = is
    by false is some = absurd cc

pub rise-remove : (low : RowId) (keys : List Key) (i : ℕ) → RiseFrom low keys → RiseFrom low (remove keys i)
rise-remove low [] zero rising = tt
rise-remove low [] (suc i) rising = tt
rise-remove low (key ∷ keys) zero rising = rise-lower low (next_id key.id) keys (next-from key.id low rising.0) rising.1
rise-remove low (key ∷ keys) (suc i) rising = (rising.0, rise-remove (next_id key.id) keys i rising.1)

pub layer-remove : (id other low : RowId) (keys : List Key) (i : ℕ) → RiseFrom low keys → IsPlaceFor id keys i →
    is_some (first_layer id (drop i keys)) ≡ true → layer_in other (remove keys i) ≡ cond (same_row id other) None (layer_in other keys)
layer-remove id other low [] zero rising place some = absurd cc
layer-remove id other low [] (suc i) rising place some = absurd cc
layer-remove id other low (key ∷ keys) zero rising place some =
    let here = first-id id key keys some in
    by (same_row id other) refl here (same-through id key.id other here)
  where
    by : (b : Bool) → same_row id other ≡ b → same_row id key.id ≡ true → same_row other key.id ≡ same_row other id →
        layer_in other keys ≡ cond b None (cond (same_row other key.id) (Some key.over) (layer_in other keys))
    by true is here through =
        none-below (next_id key.id) other keys rising.1
        (at-next other key.id (same-not-before key.id other (same-swapped key.id other ∙ through ∙ same-swapped other id ∙ is)))
    by false is here through =
        sym (cond-false (same_row other key.id) (Some key.over) (layer_in other keys) (through ∙ same-swapped other id ∙ is))
layer-remove id other low (key ∷ keys) (suc i) rising place some =
    by (same_row other key.id) refl (first-before id low key keys i rising place)
    (layer-remove id other (next_id key.id) keys i rising.1 (place-tail id key keys i place) some)
  where
    by : (b : Bool) → same_row other key.id ≡ b → before key.id id ≡ true →
        layer_in other (remove keys i) ≡ cond (same_row id other) None (layer_in other keys) →
        cond b (Some key.over) (layer_in other (remove keys i)) ≡ cond (same_row id other) None (cond b (Some key.over) (layer_in other keys))
    by true is less rest =
        sym (cond-false (same_row id other) None (Some key.over) (sym (same-through other key.id id is) ∙ before-differs key.id id less))
    by false is less rest = rest

-- those of other guests
pub rise-filter : (p : Key → Bool) (low : RowId) (keys : List Key) → RiseFrom low keys → RiseFrom low (filter p keys)
rise-filter p low [] rising = tt
rise-filter p low (key ∷ keys) rising = by (p key) (rise-filter p (next_id key.id) keys rising.1)
  where
    by : (b : Bool) → RiseFrom (next_id key.id) (filter p keys) → RiseFrom low (cond b (key ∷ filter p keys) (filter p keys))
    by true rest = (rising.0, rest)
    by false rest = rise-lower low (next_id key.id) (filter p keys) (next-from key.id low rising.0) rest

pub layer-filter : (guest : ℕ) (other : RowId) (keys : List Key) →
    layer_in other (filter (λ key. not (eqb key.id.guest guest)) keys) ≡ cond (eqb other.guest guest) None (layer_in other keys)
layer-filter guest other [] = by (eqb other.guest guest)
  where
    nothing : Option Bool
    nothing = None

    by : (b : Bool) → None ≡ cond b nothing None
    by true = refl
    by false = refl
layer-filter guest other (key ∷ keys) = by (same_row other key.id) refl (eqb key.id.guest guest) refl (layer-filter guest other keys)
  where
    of-guest : same_row other key.id ≡ true → eqb other.guest guest ≡ eqb key.id.guest guest
    of-guest is = ap (λ (id : RowId). eqb id.guest guest) (same-is other key.id is)

    by : (s : Bool) → same_row other key.id ≡ s → (g : Bool) → eqb key.id.guest guest ≡ g →
        layer_in other (filter (λ k. not (eqb k.id.guest guest)) keys) ≡ cond (eqb other.guest guest) None (layer_in other keys) →
        layer_in other (cond (not g) (key ∷ filter (λ k. not (eqb k.id.guest guest)) keys) (filter (λ k. not (eqb k.id.guest guest)) keys))
        ≡ cond (eqb other.guest guest) None (cond s (Some key.over) (layer_in other keys))
    by true is true e rest =
        let gone = of-guest is ∙ e in
        rest ∙ cond-true (eqb other.guest guest) None (layer_in other keys) gone ∙ sym (cond-true (eqb other.guest guest) None (Some key.over) gone)
    by true is false e rest =
        cond-true (same_row other key.id) (Some key.over) (layer_in other (filter (λ k. not (eqb k.id.guest guest)) keys)) is
        ∙ sym (cond-false (eqb other.guest guest) None (Some key.over) (of-guest is ∙ e))
    by false is true e rest = rest
    by false is false e rest = ap (λ b. cond b (Some key.over) (layer_in other (filter (λ k. not (eqb k.id.guest guest)) keys))) is ∙ rest
