-- What is read and written by entries, and squares that are taken.
use Rattle.std.proofs.Common.{◌≡◌, ℕ, zero, suc, ◌+◌, ◌<◌, Bool, true, false, cond, eqb, List, [], ◌∷◌, ◌++◌, length, take, drop, get_or, set, map, Option, Some, None, refl, sym, ap, ◌∙◌, arith}
use Rattle.std.proofs.lemmas.Bool.{cond-false}
use Rattle.std.proofs.lemmas.List.{length-map, length-set, length-append, get_or_default, get_or-set_same, get_or-set_other}
use Rattle.tile_store.specs.declared.spot.Spot.{Spot}
use Rattle.tile_store.specs.declared.shelf.Entry.{Entry}
use Rattle.tile_store.specs.Tile.{Tile}
use Rattle.tile_store.specs.Spots.{same}
use Rattle.tile_store.specs.Squares.{blank}
use Rattle.tile_store.specs.Held.{tile_at, is_held, pixel_in, rises, blank_tile, placed, with_tile}
use Rattle.tile_store.specs.Places.{IsPlaceFor, is_first}
use Rattle.tile_store.specs.Kept.{tile_in, tiles_in, laid, numbers, times, known, AreOnce, AreOwned, TakesSquare}
use Rattle.tile_store.proofs.HeldLemmas.{held-here, held-inside, is-first-get, placed-here, changed_in, changed-here, read-here, found-set, known-held}
use Rattle.tile_store.proofs.EntryLemmas.{laid-first, laid-place, get-tile, times-here, known-most, known-below, number-below, tiles-alike, set-square, once-one}

pub first-below : (spot : Spot) (held : List Entry) (i : ℕ) → is_first spot (drop i (laid held)) ≡ true → i < length held
first-below spot held i first =
    let below = held-inside spot (laid held) i first in
    omega (arith, below, length-map held (λ (e : Entry). blank_tile e.spot))

-- the entry at a place, read with any default
pub own-default : (held : List Entry) (i : ℕ) (d : Entry) → i < length held → get_or held i d ≡ get_or held i (get_or held i d)
own-default held i d inside = get_or_default held i d (get_or held i d) inside

pub number-in : (held : List Entry) (count i : ℕ) (d : Entry) → AreOnce (numbers held) count → i < length held → (let e : Entry = get_or held i d in e.number) < count
number-in held count i d once inside = number-below held count i (get_or held i d) once inside (own-default held i d inside)

pub read-entry : (squares : List (List (Option ℕ))) (held : List Entry) (spot : Spot) (i k : ℕ) (d : Entry) (x : List (Option ℕ)) →
    rises (tiles_in squares held) ≡ true → AreOnce (numbers held) (length squares) → IsPlaceFor spot (laid held) i → is_first spot (drop i (laid held)) ≡ true →
    x ≡ get_or squares (let e : Entry = get_or held i d in e.number) x → get_or x k None ≡ pixel_in k (tile_at spot (tiles_in squares held))
read-entry squares held spot i k d x rising once place first is =
    let e : Entry = get_or held i d in
    let inside = first-below spot held i first in
    let own = own-default held i d inside in
    let below = number-below held (length squares) i e once inside own in
    ap (λ s. get_or s k None) (is ∙ get_or_default squares e.number x blank below)
    ∙ read-here spot (tiles_in squares held) i k (tile_in squares e) rising (laid-place squares spot held i place)
    (sym (laid-first squares spot held i) ∙ first) (get-tile squares held i e inside own)

-- a tile that is held is found at its place
pub held-first : (squares : List (List (Option ℕ))) (held : List Entry) (spot : Spot) (i : ℕ) → rises (tiles_in squares held) ≡ true →
    IsPlaceFor spot (laid held) i → is_held spot (tiles_in squares held) ≡ true → is_first spot (drop i (laid held)) ≡ true
held-first squares held spot i rising place there =
    laid-first squares spot held i ∙ held-here spot (tiles_in squares held) i rising (laid-place squares spot held i place) ∙ there

module _ (squares : List (List (Option ℕ))) (held : List Entry) (spot : Spot) (i : ℕ) (d : Entry) (rising : rises (tiles_in squares held) ≡ true)
    (once : AreOnce (numbers held) (length squares)) (place : IsPlaceFor spot (laid held) i) (there : is_held spot (tiles_in squares held) ≡ true) where
  abbrev pub e : Entry
  e = get_or held i d

  pub held-below : i < length held
  held-below = first-below spot held i (held-first squares held spot i rising place there)

  own : e ≡ get_or held i e
  own = own-default held i d held-below

  pub held-number : e.number < length squares
  held-number = number-below held (length squares) i e once held-below own

  first : is_first spot (drop i (tiles_in squares held)) ≡ true
  first = held-here spot (tiles_in squares held) i rising (laid-place squares spot held i place) ∙ there

  -- a change of the square of a tile that is held
  pub changed-entry : (f : List (Option ℕ) → List (Option ℕ)) (x square : List (Option ℕ)) → x ≡ get_or squares e.number x → square ≡ f x →
      tiles_in (set squares e.number square) held ≡ map (changed_in spot f) (tiles_in squares held)
  changed-entry f x square is new =
      let was : square ≡ f (get_or squares e.number blank) = new ∙ ap f (is ∙ get_or_default squares e.number x blank held-number) in
      set-square squares held i e square (once-one held (length squares) once) held-number held-below own
      ∙ changed-here spot f (tiles_in squares held) i (tile_in squares e) square rising (laid-place squares spot held i place) first
      (get-tile squares held i e held-below own) was

  pub changed-found : (square : List (Option ℕ)) → tile_at spot (tiles_in (set squares e.number square) held) ≡ Some (record { spot = e.spot; square = square })
  changed-found square =
      let here : same e.spot spot ≡ true =
      is-first-get spot (tiles_in squares held) i (tile_in squares e) (omega (arith, held-below, length-map held (tile_in squares)))
      (get-tile squares held i e held-below own) ∙ first in
      ap (tile_at spot) (set-square squares held i e square (once-one held (length squares) once) held-number held-below own)
      ∙ found-set spot (tiles_in squares held) i (record { spot = e.spot; square = square }) rising (laid-place squares spot held i place) first here

-- what the code finds out of a spot, where it sees the entries by two slices
pub known-laid : (squares : List (List (Option ℕ))) (spot : Spot) (held seen seen2 : List Entry) (i : ℕ) (found b : Bool) →
    rises (tiles_in squares held) ≡ true → seen ≡ held → seen2 ≡ held → IsPlaceFor spot (laid seen) i →
    found ≡ is_first spot (drop i (laid seen2)) → found ≡ b → is_held spot (tiles_in squares held) ≡ b
known-laid squares spot held seen seen2 i found b rising e e2 place is was =
    known-held spot (tiles_in squares held) (tiles_in squares seen) (tiles_in squares seen2) i found b rising (ap (tiles_in squares) e) (ap (tiles_in squares) e2)
    (laid-place squares spot seen i place) (is ∙ laid-first squares spot seen2 i) was

-- one more entry
pub tiles-insert : (f : Entry → Tile) (e : Entry) (held : List Entry) (i : ℕ) → map f (take i held ++ e ∷ drop i held) ≡ take i (map f held) ++ f e ∷ drop i (map f held)
tiles-insert f e [] zero = refl
tiles-insert f e [] (suc i) = refl
tiles-insert f e (x ∷ xs) zero = refl
tiles-insert f e (x ∷ xs) (suc i) = ap (λ rest. f x ∷ rest) (tiles-insert f e xs i)

one-and-rest : (n m : ℕ) (ms : List ℕ) → times n (m ∷ ms) ≡ times n (m ∷ []) + times n ms
one-and-rest n m ms = by (eqb m n)
  where
    by : (b : Bool) → cond b (suc (times n ms)) (times n ms) ≡ cond b 1 0 + times n ms
    by true = omega arith
    by false = omega arith

pub times-insert : (n : ℕ) (e : Entry) (held : List Entry) (i : ℕ) →
    times n (numbers (take i held ++ e ∷ drop i held)) ≡ times n (e.number ∷ []) + times n (numbers held)
times-insert n e [] zero = omega arith
times-insert n e [] (suc i) = omega arith
times-insert n e (x ∷ xs) zero = one-and-rest n e.number (numbers (x ∷ xs))
times-insert n e (x ∷ xs) (suc i) =
    let rest = times-insert n e xs i in
    omega (arith, rest, one-and-rest n x.number (numbers (take i xs ++ e ∷ drop i xs)), one-and-rest n x.number (numbers xs))

times-last : (n m : ℕ) (ms : List ℕ) → times n (ms ++ m ∷ []) ≡ times n ms + times n (m ∷ [])
times-last n m [] = omega arith
times-last n m (k ∷ ks) =
    let rest = times-last n m ks in
    omega (arith, rest, one-and-rest n k (ks ++ m ∷ []), one-and-rest n k ks)

-- a square that was given back is taken
pub spare-below : (count number : ℕ) (spare spare2 : List ℕ) → AreOnce spare count → spare ≡ spare2 ++ number ∷ [] → number < count
spare-below count number spare spare2 once is =
    let there : times number spare ≡ times number spare2 + times number (number ∷ []) = ap (times number) is ∙ times-last number number spare2 in
    known-below number count (omega (arith, once number, there, times-here number []))

pub taken-again : (old : List (List (Option ℕ))) (spare spare2 : List ℕ) (number : ℕ) (square : List (Option ℕ)) → AreOnce spare (length old) →
    spare ≡ spare2 ++ number ∷ [] → square ≡ blank → TakesSquare old (set old number square) spare spare2 number
taken-again old spare spare2 number square once is empty =
    let below = spare-below (length old) number spare spare2 once is in
    let long : length (set old number square) ≡ length old = length-set old number square in
    let more : length spare ≡ length spare2 + 1 = ap length is ∙ length-append spare2 (number ∷ []) in
    record {
      inside = omega (arith, below, long);
      blanked = get_or-set_same old number square blank below ∙ empty;
      others = λ m h other. get_or-set_other old number m square blank other;
      balance = λ n.
          let all : times n spare ≡ times n spare2 + times n (number ∷ []) = ap (times n) is ∙ times-last n number spare2 in
          ap (λ t. t + known n (length old)) (sym all) ∙ ap (λ k. times n spare + known n k) (sym long);
      together = omega (arith, long, more);
      few = λ most h less. omega (arith, h, long);
    }

-- a tile for a spot, with a square that was taken
module _ (squares squares2 : List (List (Option ℕ))) (held : List Entry) (spare spare2 : List ℕ) (number : ℕ)
    (owned : AreOwned held spare (length squares)) (takes : TakesSquare squares squares2 spare spare2 number) where
  fresh : times number (numbers held) ≡ 0
  fresh =
      omega (arith, takes.balance number, owned number, times-here number [], known-most number (length squares2))

  kept : tiles_in squares2 held ≡ tiles_in squares held
  kept =
      tiles-alike squares2 squares held
      (λ m h. takes.others m (known-below m (length squares) (omega (arith, h, owned m)))
      (λ same. let there = ap (λ n. times n (numbers held)) same in omega (arith, h, there, fresh)))

  pub added-tile : (spot : Spot) (i : ℕ) → rises (tiles_in squares held) ≡ true → IsPlaceFor spot (laid held) i → is_held spot (tiles_in squares held) ≡ false →
      tiles_in squares2 (take i held ++ (record { spot = spot; number = number }) ∷ drop i held) ≡ with_tile spot (tiles_in squares held)
  added-tile spot i rising place out =
      let e : Entry = record { spot = spot; number = number } in
      let ts = tiles_in squares held in
      let empty : tile_in squares2 e ≡ blank_tile spot = ap (λ s. let t : Tile = record { spot = spot; square = s } in t) takes.blanked in
      tiles-insert (tile_in squares2) e held i
      ∙ ap (λ us. take i us ++ tile_in squares2 e ∷ drop i us) kept
      ∙ ap (λ t. take i ts ++ t ∷ drop i ts) empty
      ∙ sym (placed-here (blank_tile spot) ts i rising (laid-place squares spot held i place))
      ∙ sym (cond-false (is_held spot ts) ts (placed (blank_tile spot) ts) out)

  pub added-owned : (spot : Spot) (i : ℕ) → AreOwned (take i held ++ (record { spot = spot; number = number }) ∷ drop i held) spare2 (length squares2)
  added-owned spot i n =
      let e : Entry = record { spot = spot; number = number } in
      omega (arith, times-insert n e held i, takes.balance n, owned n)
