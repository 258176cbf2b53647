-- Tiles in their order: where a spot stands among them.
use Rattle.std.proofs.Common.{◌≡◌, ℕ, zero, suc, ◌-◌, ◌<◌, ◌≤◌, Bool, true, false, cond, List, [], ◌∷◌, ◌++◌, length, take, drop, get_or, set, map, Option, Some, None, is_some, refl, sym, ap, ◌∙◌, subst, arith}
use Rattle.std.specs.List.{list_all}
use Rattle.std.proofs.lemmas.Bool.{and_parts, cond-true, cond-false, both_ways}
use Rattle.tile_store.specs.declared.spot.Spot.{Spot}
use Rattle.tile_store.specs.Tile.{Tile}
use Rattle.tile_store.specs.Spots.{before, same}
use Rattle.tile_store.specs.Held.{tile_at, is_held, pixel_in, rises, placed}
use Rattle.tile_store.specs.Places.{IsPlaceFor, first_at, is_first}
use Rattle.tile_store.proofs.OrderLemmas.{before-trans, before-not-same, before-same, same-not-before}

-- what comes behind a tile
abbrev pub after : Tile → Tile → Bool
after t u = before t.spot u.spot

pub all-at : (p : Tile → Bool) (ts : List Tile) (i : ℕ) (d : Tile) → list_all p ts ≡ true → i < length ts → p (get_or ts i d) ≡ true
all-at p [] i d all inside = absurd (omega arith)
all-at p (t ∷ ts) zero d all inside = (and_parts (p t) (list_all p ts) all).0
all-at p (t ∷ ts) (suc i) d all inside = all-at p ts i d (and_parts (p t) (list_all p ts) all).1 (omega arith)

-- the rest of a place
place-tail : (spot : Spot) (t : Tile) (ts : List Tile) (i : ℕ) → IsPlaceFor spot (t ∷ ts) (suc i) → IsPlaceFor spot ts i
place-tail spot t ts zero place = record {
  within = omega arith;
  behind = λ d h. absurd (omega arith);
  ahead = λ d h. place.ahead d (omega arith);
}
place-tail spot t ts (suc i) place = record {
  within = omega (arith, place.within);
  behind = λ d h.
      let there : suc (suc i) - 1 ≡ suc i = omega arith in
      let here : suc i - 1 ≡ i = omega arith in
      let P : ℕ → Type 0 = λ n. before (get_or (t ∷ ts) n d).spot spot ≡ true in
      let Q : ℕ → Type 0 = λ n. before (get_or ts n d).spot spot ≡ true in
      subst Q (sym here) (subst P there (place.behind d (omega arith)));
  ahead = λ d h. place.ahead d (omega arith);
}

-- the first of rising tiles comes before a spot whose place is behind it
pub first-before : (spot : Spot) (t : Tile) (ts : List Tile) (i : ℕ) → list_all (after t) ts ≡ true → IsPlaceFor spot (t ∷ ts) (suc i) →
    before t.spot spot ≡ true
first-before spot t ts zero all place =
    let here : suc zero - 1 ≡ zero = omega arith in
    let P : ℕ → Type 0 = λ n. before (get_or (t ∷ ts) n t).spot spot ≡ true in
    subst P here (place.behind t (omega arith))
first-before spot t ts (suc i) all place =
    let there : suc (suc i) - 1 ≡ suc i = omega arith in
    let P : ℕ → Type 0 = λ n. before (get_or (t ∷ ts) n t).spot spot ≡ true in
    let last : before (get_or ts i t).spot spot ≡ true = subst P there (place.behind t (omega arith)) in
    before-trans t.spot (get_or ts i t).spot spot (all-at (after t) ts i t all (omega (arith, place.within))) last

-- behind a tile that does not come before a spot none lies at it
pub other-spot : (spot : Spot) (t u : Tile) → before t.spot spot ≡ false → after t u ≡ true → same u.spot spot ≡ false
other-spot spot t u not-before behind = by (same u.spot spot) refl
  where
    by : (b : Bool) → same u.spot spot ≡ b → b ≡ false
    by true e = absurd (both_ways (before t.spot spot) not-before (before-same t.spot u.spot spot behind e))
    by false e = refl

pub none-behind : (spot : Spot) (t : Tile) (ts : List Tile) → before t.spot spot ≡ false → list_all (after t) ts ≡ true → tile_at spot ts ≡ None
none-behind spot t [] not-before all = refl
none-behind spot t (u ∷ us) not-before all =
    let parts = and_parts (after t u) (list_all (after t) us) all in
    cond-false (same u.spot spot) (Some u) (tile_at spot us) (other-spot spot t u not-before parts.0)
    ∙ none-behind spot t us not-before parts.1

-- what stands at a spot, as it is looked for
pub found-here : (spot : Spot) (held : List Tile) (i : ℕ) → rises held ≡ true → IsPlaceFor spot held i → tile_at spot held ≡ first_at spot (drop i held)
found-here spot [] zero rising place = refl
found-here spot [] (suc i) rising place = absurd (omega (arith, place.within))
found-here spot (t ∷ ts) zero rising place =
    let parts = and_parts (list_all (after t) ts) (rises ts) rising in
    ap (λ o. cond (same t.spot spot) (Some t) o) (none-behind spot t ts (place.ahead t (omega arith)) parts.0)
found-here spot (t ∷ ts) (suc i) rising place =
    let parts = and_parts (list_all (after t) ts) (rises ts) rising in
    let front = first-before spot t ts i parts.0 place in
    cond-false (same t.spot spot) (Some t) (tile_at spot ts) (before-not-same t.spot spot front)
    ∙ found-here spot ts i parts.1 (place-tail spot t ts i place)

pub first-some : (spot : Spot) (ts : List Tile) → is_first spot ts ≡ is_some (first_at spot ts)
first-some spot [] = refl
first-some spot (t ∷ ts) = by (same t.spot spot)
  where
    by : (b : Bool) → b ≡ is_some (cond b (Some t) None)
    by true = refl
    by false = refl

pub held-here : (spot : Spot) (held : List Tile) (i : ℕ) → rises held ≡ true → IsPlaceFor spot held i → is_first spot (drop i held) ≡ is_held spot held
held-here spot held i rising place = first-some spot (drop i held) ∙ ap is_some (sym (found-here spot held i rising place))

-- the tile at a place, as the code reads it
pub first-get : (spot : Spot) (held : List Tile) (i : ℕ) (x : Tile) → i < length held → x ≡ get_or held i x → first_at spot (drop i held) ≡ cond (same x.spot spot) (Some x) None
first-get spot [] i x inside e = absurd (omega arith)
first-get spot (t ∷ ts) zero x inside e = ap (λ (u : Tile). cond (same u.spot spot) (Some u) None) (sym e)
first-get spot (t ∷ ts) (suc i) x inside e = first-get spot ts i x (omega arith) e

pub is-first-get : (spot : Spot) (held : List Tile) (i : ℕ) (x : Tile) → i < length held → x ≡ get_or held i x → same x.spot spot ≡ is_first spot (drop i held)
is-first-get spot [] i x inside e = absurd (omega arith)
is-first-get spot (t ∷ ts) zero x inside e = ap (λ (u : Tile). same u.spot spot) e
is-first-get spot (t ∷ ts) (suc i) x inside e = is-first-get spot ts i x (omega arith) e

pub is-first-end : (spot : Spot) (held : List Tile) (i : ℕ) → length held ≤ i → is_first spot (drop i held) ≡ false
is-first-end spot [] zero past = refl
is-first-end spot [] (suc i) past = refl
is-first-end spot (t ∷ ts) zero past = absurd (omega arith)
is-first-end spot (t ∷ ts) (suc i) past = is-first-end spot ts i (omega arith)

-- the tile at a place, where it lies at a spot
first-same : (spot : Spot) (held : List Tile) (i : ℕ) (d : Tile) → is_first spot (drop i held) ≡ true → same (get_or held i d).spot spot ≡ true
first-same spot [] zero d e = absurd (cc)
first-same spot [] (suc i) d e = absurd (cc)
first-same spot (t ∷ ts) zero d e = e
first-same spot (t ∷ ts) (suc i) d e = first-same spot ts i d e

first-inside : (spot : Spot) (held : List Tile) (i : ℕ) → is_first spot (drop i held) ≡ true → i < length held
first-inside spot [] zero e = absurd (cc)
first-inside spot [] (suc i) e = absurd (cc)
first-inside spot (t ∷ ts) zero e = omega arith
first-inside spot (t ∷ ts) (suc i) e = let m = first-inside spot ts i e in omega arith

place-more : (spot : Spot) (t : Tile) (ts : List Tile) (i : ℕ) → before t.spot spot ≡ true → IsPlaceFor spot ts i → IsPlaceFor spot (t ∷ ts) (suc i)
place-more spot t ts zero front place = record {
  within = omega (arith, place.within);
  behind = λ d h.
      let here : suc zero - 1 ≡ zero = omega arith in
      let P : ℕ → Type 0 = λ n. before (get_or (t ∷ ts) n d).spot spot ≡ true in
      subst P (sym here) front;
  ahead = λ d h. place.ahead d (omega arith);
}
place-more spot t ts (suc i) front place = record {
  within = omega (arith, place.within);
  behind = λ d h.
      let there : suc (suc i) - 1 ≡ suc i = omega arith in
      let here : suc i - 1 ≡ i = omega arith in
      let P : ℕ → Type 0 = λ n. before (get_or (t ∷ ts) n d).spot spot ≡ true in
      let Q : ℕ → Type 0 = λ n. before (get_or ts n d).spot spot ≡ true in
      subst P (sym there) (subst Q here (place.behind d (omega arith)));
  ahead = λ d h. place.ahead d (omega arith);
}

-- the place of a tile that lies at a spot is the spot's
pub there-place : (spot : Spot) (held : List Tile) (i : ℕ) → rises held ≡ true → is_first spot (drop i held) ≡ true → IsPlaceFor spot held i
there-place spot [] zero rising e = absurd (cc)
there-place spot [] (suc i) rising e = absurd (cc)
there-place spot (t ∷ ts) zero rising e = record {
  within = omega arith;
  behind = λ d h. absurd (omega arith);
  ahead = λ d h. same-not-before t.spot spot e;
}
there-place spot (t ∷ ts) (suc i) rising e =
    let parts = and_parts (list_all (after t) ts) (rises ts) rising in
    let front : before t.spot (get_or ts i t).spot ≡ true = all-at (after t) ts i t parts.0 (first-inside spot ts i e) in
    place-more spot t ts i (before-same t.spot (get_or ts i t).spot spot front (first-same spot ts i t e)) (there-place spot ts i parts.1 e)

-- a spot that is held has its place among the tiles
pub held-inside : (spot : Spot) (held : List Tile) (i : ℕ) → is_first spot (drop i held) ≡ true → i < length held
held-inside spot [] zero e = absurd cc
held-inside spot [] (suc i) e = absurd cc
held-inside spot (t ∷ ts) zero e = omega arith
held-inside spot (t ∷ ts) (suc i) e = let h = held-inside spot ts i e in omega (arith, h)

-- one more tile
pub placed-here : (t : Tile) (held : List Tile) (i : ℕ) → rises held ≡ true → IsPlaceFor t.spot held i → placed t held ≡ take i held ++ t ∷ drop i held
placed-here t [] zero rising place = refl
placed-here t [] (suc i) rising place = absurd (omega (arith, place.within))
placed-here t (u ∷ us) zero rising place =
    cond-false (before u.spot t.spot) (u ∷ placed t us) (t ∷ u ∷ us) (place.ahead u (omega arith))
placed-here t (u ∷ us) (suc i) rising place =
    let parts = and_parts (list_all (after u) us) (rises us) rising in
    cond-true (before u.spot t.spot) (u ∷ placed t us) (t ∷ u ∷ us) (first-before t.spot u us i parts.0 place)
    ∙ ap (λ rest. u ∷ rest) (placed-here t us i parts.1 (place-tail t.spot u us i place))

-- a tile with other pixels
abbrev pub with_square : List (Option ℕ) → Tile → Tile
with_square square t = record t { square = square }

-- a change of the pixels of the tile at a spot
module _ (spot : Spot) (f : List (Option ℕ) → List (Option ℕ)) where
  abbrev pub changed_in : Tile → Tile
  changed_in t = cond (same t.spot spot) (with_square (f t.square) t) t

  changed-none : (t : Tile) (ts : List Tile) → before t.spot spot ≡ false → list_all (after t) ts ≡ true → map changed_in ts ≡ ts
  changed-none t [] not-before all = refl
  changed-none t (u ∷ us) not-before all =
      let parts = and_parts (after t u) (list_all (after t) us) all in
      let here : changed_in u ≡ u = cond-false (same u.spot spot) (with_square (f u.square) u) u (other-spot spot t u not-before parts.0) in
      ap (λ v. v ∷ map changed_in us) here ∙ ap (λ rest. u ∷ rest) (changed-none t us not-before parts.1)

  pub changed-here : (held : List Tile) (i : ℕ) (x : Tile) (square : List (Option ℕ)) →
      rises held ≡ true → IsPlaceFor spot held i → is_first spot (drop i held) ≡ true → x ≡ get_or held i x →
      square ≡ f x.square → set held i (with_square square x) ≡ map changed_in held
  changed-here [] zero x square rising place first e sq = absurd cc
  changed-here [] (suc i) x square rising place first e sq = absurd cc
  changed-here (t ∷ ts) zero x square rising place first e sq =
      let parts = and_parts (list_all (after t) ts) (rises ts) rising in
      let new : with_square square x ≡ with_square (f t.square) t =
      ap (λ s. with_square s x) sq ∙ ap (λ (u : Tile). with_square (f u.square) u) e in
      ap (λ u. u ∷ ts) (new ∙ sym (cond-true (same t.spot spot) (with_square (f t.square) t) t first))
      ∙ ap (λ rest. changed_in t ∷ rest) (sym (changed-none t ts (place.ahead t (omega arith)) parts.0))
  changed-here (t ∷ ts) (suc i) x square rising place first e sq =
      let parts = and_parts (list_all (after t) ts) (rises ts) rising in
      let other = before-not-same t.spot spot (first-before spot t ts i parts.0 place) in
      ap (λ rest. t ∷ rest) (changed-here ts i x square parts.1 (place-tail spot t ts i place) first e sq)
      ∙ ap (λ u. u ∷ map changed_in ts) (sym (cond-false (same t.spot spot) (with_square (f t.square) t) t other))

-- what the code reads of the tile at a place
pub read-here : (spot : Spot) (held : List Tile) (i k : ℕ) (x : Tile) → rises held ≡ true → IsPlaceFor spot held i →
    is_first spot (drop i held) ≡ true → x ≡ get_or held i x → get_or x.square k None ≡ pixel_in k (tile_at spot held)
read-here spot held i k x rising place first e =
    let inside = held-inside spot held i first in
    let here : same x.spot spot ≡ true = is-first-get spot held i x inside e ∙ first in
    let found : tile_at spot held ≡ Some x =
    found-here spot held i rising place ∙ first-get spot held i x inside e ∙ cond-true (same x.spot spot) (Some x) None here in
    ap (pixel_in k) (sym found)

first-none : (spot : Spot) (ts : List Tile) → is_first spot ts ≡ false → first_at spot ts ≡ None
first-none spot [] e = refl
first-none spot (t ∷ ts) e = cond-false (same t.spot spot) (Some t) None e

pub read-none : (spot : Spot) (held : List Tile) (i k : ℕ) → rises held ≡ true → IsPlaceFor spot held i →
    is_first spot (drop i held) ≡ false → None ≡ pixel_in k (tile_at spot held)
read-none spot held i k rising place first =
    ap (pixel_in k) (sym (found-here spot held i rising place ∙ first-none spot (drop i held) first))

-- another tile at a spot's place, and of the spot, is found there
pub found-set : (spot : Spot) (held : List Tile) (i : ℕ) (y : Tile) → rises held ≡ true → IsPlaceFor spot held i →
    is_first spot (drop i held) ≡ true → same y.spot spot ≡ true → tile_at spot (set held i y) ≡ Some y
found-set spot [] zero y rising place first here = absurd cc
found-set spot [] (suc i) y rising place first here = absurd cc
found-set spot (t ∷ ts) zero y rising place first here = cond-true (same y.spot spot) (Some y) (tile_at spot ts) here
found-set spot (t ∷ ts) (suc i) y rising place first here =
    let parts = and_parts (list_all (after t) ts) (rises ts) rising in
    let other = before-not-same t.spot spot (first-before spot t ts i parts.0 place) in
    cond-false (same t.spot spot) (Some t) (tile_at spot (set ts i y)) other
    ∙ found-set spot ts i y parts.1 (place-tail spot t ts i place) first here

-- what the code finds out of a spot, where it sees the tiles by two slices
pub known-held : (spot : Spot) (held seen seen2 : List Tile) (i : ℕ) (found b : Bool) → rises held ≡ true → seen ≡ held → seen2 ≡ held →
    IsPlaceFor spot seen i → found ≡ is_first spot (drop i seen2) → found ≡ b → is_held spot held ≡ b
known-held spot held seen seen2 i found b rising e e2 place is was =
    let P : List Tile → Type 0 = λ ts. IsPlaceFor spot ts i in
    sym (held-here spot held i rising (subst P e place)) ∙ ap (λ ts. is_first spot (drop i ts)) (sym e2) ∙ sym is ∙ was
