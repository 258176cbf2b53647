-- Colours that are put at a row of a tile at once.
use Rattle.std.proofs.Common.{◌≡◌, ℕ, suc, ◌+◌, ◌*◌, ◌/◌, ◌%◌, ◌^◌, ◌<◌, ◌≤◌, Bool, true, false, cond, eqb, List, [], ◌∷◌, length, get_or, set, Some, refl, sym, ap, ◌∙◌, arith}
use Rattle.tile_store.specs.declared.spot.Spot.{Spot}
use Rattle.tile_store.specs.Tile.{Tile}
use Rattle.tile_store.specs.Spots.{same, spot_of}
use Rattle.tile_store.specs.Squares.{coloured_from}
use Rattle.tile_store.specs.Held.{is_held, is_whole, are_whole, rises, written, row_written_in, row_written, places_in_row}
use Rattle.tile_store.specs.Contents.{KeepsHeld, tiles_coloured}
use Rattle.tile_store.proofs.SquareLemmas.{length-coloured}
use Rattle.tile_store.proofs.RiseLemmas.{rises-map, found-map}
use Rattle.tile_store.proofs.WholeLemmas.{all-keeps}

-- no colours change nothing
nothing-put : (spot : Spot) (k : ℕ) (ts : List Tile) → row_written spot k [] ts ≡ ts
nothing-put spot k [] = refl
nothing-put spot k (t ∷ ts) =
    ap (λ u. u ∷ row_written spot k [] ts) (by (same t.spot spot)) ∙ ap (λ rest. t ∷ rest) (nothing-put spot k ts)
  where
    by : (b : Bool) → cond b (record t { square = t.square }) t ≡ t
    by true = refl
    by false = refl

-- a colour and then those behind it
one-more : (spot : Spot) (k colour : ℕ) (colours : List ℕ) (ts : List Tile) →
    row_written spot (suc k) colours (written spot k colour ts) ≡ row_written spot k (colour ∷ colours) ts
one-more spot k colour colours [] = refl
one-more spot k colour colours (t ∷ ts) =
    ap (λ u. u ∷ row_written spot (suc k) colours (written spot k colour ts)) (by (same t.spot spot) refl)
    ∙ ap (λ rest. row_written_in spot k (colour ∷ colours) t ∷ rest) (one-more spot k colour colours ts)
  where
    one : Tile
    one = record t { square = set t.square k (Some colour) }

    all : Tile
    all = record t { square = coloured_from (suc k) colours (set t.square k (Some colour)) }

    by : (b : Bool) → same t.spot spot ≡ b → row_written_in spot (suc k) colours (cond b one t) ≡ cond b all t
    by true e = ap (λ v. cond v all one) e
    by false e = ap (λ v. cond v (record t { square = coloured_from (suc k) colours t.square }) t) e

-- colours at a row of a tile, one after the other
pub row-coloured : (slot y x : ℕ) (colours : List ℕ) (ts : List Tile) → x % 64 + length colours ≤ 64 →
    ((i : ℕ) → i < length colours → get_or colours i 0 ≤ 16777215) →
    row_written (spot_of slot (x / 64, y / 64)) (y % 64 * 64 + x % 64) colours ts ≡ tiles_coloured slot (places_in_row y x (length colours)) colours ts
row-coloured slot y x [] ts fits few = nothing-put (spot_of slot (x / 64, y / 64)) (y % 64 * 64 + x % 64) ts
row-coloured slot y x (c ∷ []) ts fits few =
    let first : c ≤ 16777215 = few 0 (omega arith) in
    let low : c ≡ c % 2 ^ 24 = omega (arith, first) in
    ap (λ n. written (spot_of slot (x / 64, y / 64)) (y % 64 * 64 + x % 64) n ts) low
row-coloured slot y x (c ∷ d ∷ cs) ts fits few =
    let spot = spot_of slot (x / 64, y / 64) in
    let k : ℕ = y % 64 * 64 + x % 64 in
    let first : c ≤ 16777215 = few 0 (omega arith) in
    let low : c ≡ c % 2 ^ 24 = omega (arith, first) in
    let column : x / 64 ≡ suc x / 64 = omega (arith, fits) in
    let next : suc k ≡ y % 64 * 64 + suc x % 64 = omega (arith, fits) in
    let more : List Tile = written spot k (c % 2 ^ 24) ts in
    sym (one-more spot k c (d ∷ cs) ts)
    ∙ ap (λ n. row_written spot (suc k) (d ∷ cs) (written spot k n ts)) low
    ∙ ap (λ n. row_written spot n (d ∷ cs) more) next
    ∙ ap (λ n. row_written (spot_of slot (n, y / 64)) (y % 64 * 64 + suc x % 64) (d ∷ cs) more) column
    ∙ row-coloured slot y (suc x) (d ∷ cs) more (omega (arith, fits)) (λ i h. few (suc i) (omega (arith, h)))

pub row-stays : (spot : Spot) (k : ℕ) (colours : List ℕ) (t : Tile) → (row_written_in spot k colours t).spot ≡ t.spot
row-stays spot k colours t = by (same t.spot spot)
  where
    by : (b : Bool) → (let u : Tile = cond b (record t { square = coloured_from k colours t.square }) t in u.spot) ≡ t.spot
    by true = refl
    by false = refl

pub rises-row : (spot : Spot) (k : ℕ) (colours : List ℕ) (ts : List Tile) → rises ts ≡ true → rises (row_written spot k colours ts) ≡ true
rises-row spot k colours ts rising = rises-map (row_written_in spot k colours) (row-stays spot k colours) ts ∙ rising

pub whole-row : (spot : Spot) (k : ℕ) (colours : List ℕ) (ts : List Tile) → are_whole ts ≡ true → are_whole (row_written spot k colours ts) ≡ true
whole-row spot k colours ts whole = all-keeps is_whole (row_written_in spot k colours) one ts ∙ whole
  where
    one : (t : Tile) → is_whole (row_written_in spot k colours t) ≡ is_whole t
    one t = by (same t.spot spot)
      where
        by : (b : Bool) → is_whole (cond b (record t { square = coloured_from k colours t.square }) t) ≡ is_whole t
        by true = ap (λ n. eqb n 4096) (length-coloured k colours t.square)
        by false = refl

pub held-row : (spot : Spot) (k : ℕ) (colours : List ℕ) (old new : List Tile) → new ≡ row_written spot k colours old → KeepsHeld old new
held-row spot k colours old new e q there =
    ap (is_held q) e ∙ found-map (row_written_in spot k colours) (row-stays spot k colours) q old ∙ there
