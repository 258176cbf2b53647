-- Tiles that are opened one after another, and how many that takes.
use Rattle.std.proofs.Common.{◌≡◌, ℕ, suc, ◌+◌, ◌-◌, ◌/◌, ◌<◌, ◌≤◌, Bool, true, false, cond, not, List, [], ◌∷◌, ◌++◌, length, filter, Some, is_some, refl, sym, ap, ◌∙◌, arith}
use Rattle.std.proofs.lemmas.Bool.{both_ways}
use Rattle.std.proofs.lemmas.List.{length-append}
use Rattle.std.proofs.lemmas.List.Elements.{filter-append}
use Rattle.desk_laws.specs.Rows.{grid}
use Rattle.tile_store.specs.declared.spot.Spot.{Spot}
use Rattle.tile_store.specs.Tile.{Tile}
use Rattle.tile_store.specs.Spots.{before, same, spot_of}
use Rattle.tile_store.specs.Held.{tile_at, is_held, blank_tile, placed, with_tile, opened, missing, places_in_row, tiles_along}

pub length-placed : (t : Tile) (ts : List Tile) → length (placed t ts) ≡ suc (length ts)
length-placed t [] = refl
length-placed t (u ∷ us) = by (before u.spot t.spot) (length-placed t us)
  where
    by : (b : Bool) → length (placed t us) ≡ suc (length us) → length (cond b (u ∷ placed t us) (t ∷ u ∷ us)) ≡ suc (suc (length us))
    by true rest = ap suc rest
    by false rest = refl

-- whoever is held stays so
held-placed : (spot : Spot) (t : Tile) (ts : List Tile) → is_held spot ts ≡ true → is_held spot (placed t ts) ≡ true
held-placed spot t [] there = absurd cc
held-placed spot t (u ∷ us) there = by (before u.spot t.spot) (λ e. held-placed spot t us e)
  where
    front : (b : Bool) → is_some (cond b (Some t) (tile_at spot (u ∷ us))) ≡ true
    front true = refl
    front false = there

    inner : (b : Bool) → (is_held spot us ≡ true → is_held spot (placed t us) ≡ true) →
        is_some (cond b (Some u) (tile_at spot us)) ≡ true → is_some (cond b (Some u) (tile_at spot (placed t us))) ≡ true
    inner true rest e = refl
    inner false rest e = rest e

    by : (b : Bool) → (is_held spot us ≡ true → is_held spot (placed t us) ≡ true) → is_held spot (cond b (u ∷ placed t us) (t ∷ u ∷ us)) ≡ true
    by true rest = inner (same u.spot spot) rest there
    by false rest = front (same t.spot spot)

pub held-with : (spot other : Spot) (ts : List Tile) → is_held spot ts ≡ true → is_held spot (with_tile other ts) ≡ true
held-with spot other ts there = by (is_held other ts)
  where
    by : (b : Bool) → is_held spot (cond b ts (placed (blank_tile other) ts)) ≡ true
    by true = there
    by false = held-placed spot (blank_tile other) ts there

-- what lacks a tile with more tiles held did so before
pub missing-less : (slot : ℕ) (places : List (ℕ × ℕ)) (other : Spot) (ts : List Tile) → missing slot places (with_tile other ts) ≤ missing slot places ts
missing-less slot [] other ts = omega arith
missing-less slot (p ∷ ps) other ts =
    by (is_held (spot_of slot p) ts) (is_held (spot_of slot p) (with_tile other ts)) (held-with (spot_of slot p) other ts)
    (missing-less slot ps other ts)
  where
    less : List (ℕ × ℕ)
    less = filter (λ place. not (is_held (spot_of slot place) (with_tile other ts))) ps

    more : List (ℕ × ℕ)
    more = filter (λ place. not (is_held (spot_of slot place) ts)) ps

    by : (was now : Bool) → (was ≡ true → now ≡ true) → length less ≤ length more →
        length (cond (not now) (p ∷ less) less) ≤ length (cond (not was) (p ∷ more) more)
    by true true stays rest = rest
    by true false stays rest = absurd (both_ways false refl (stays refl))
    by false true stays rest = omega (arith, rest)
    by false false stays rest = omega (arith, rest)

pub missing-append : (slot : ℕ) (ps qs : List (ℕ × ℕ)) (ts : List Tile) → missing slot (ps ++ qs) ts ≡ missing slot ps ts + missing slot qs ts
missing-append slot ps qs ts =
    let p : ℕ × ℕ → Bool = λ place. not (is_held (spot_of slot place) ts) in
    ap length (filter-append p ps qs) ∙ length-append (filter p ps) (filter p qs)

-- one more of the places is open
room-next : (slot : ℕ) (p : ℕ × ℕ) (ps : List (ℕ × ℕ)) (ts : List Tile) →
    length (with_tile (spot_of slot p) ts) + missing slot ps (with_tile (spot_of slot p) ts) ≤ length ts + missing slot (p ∷ ps) ts
room-next slot p ps ts = by (is_held (spot_of slot p) ts) refl
  where
    rest : List (ℕ × ℕ)
    rest = filter (λ place. not (is_held (spot_of slot place) ts)) ps

    less : missing slot ps (with_tile (spot_of slot p) ts) ≤ missing slot ps ts
    less = missing-less slot ps (spot_of slot p) ts

    by : (b : Bool) → is_held (spot_of slot p) ts ≡ b →
        length (cond b ts (placed (blank_tile (spot_of slot p)) ts)) + missing slot ps (with_tile (spot_of slot p) ts) ≤ length ts + length (cond (not b) (p ∷ rest) rest)
    by true e = omega (arith, less)
    by false e = omega (arith, less, length-placed (blank_tile (spot_of slot p)) ts)

-- places that are still to be opened: with them the tiles become these, and there is room for all
pub record Opening (slot number : ℕ) (places : List (ℕ × ℕ)) (held goal : List Tile) : Type 0 where
  pub ends : opened slot places held ≡ goal
  pub room : length held + missing slot places held ≤ number

pub opening-next : {slot number : ℕ} {p : ℕ × ℕ} {ps : List (ℕ × ℕ)} {held goal : List Tile} →
    Opening slot number (p ∷ ps) held goal → Opening slot number ps (with_tile (spot_of slot p) held) goal
opening-next {slot} {number} {p} {ps} {held} {goal} o = record {
  ends = o.ends;
  room = omega (arith, o.room, room-next slot p ps held);
}

pub opening-part : {slot number : ℕ} (ps : List (ℕ × ℕ)) {qs : List (ℕ × ℕ)} {held goal : List Tile} →
    Opening slot number (ps ++ qs) held goal → Opening slot number qs (opened slot ps held) goal
opening-part [] o = o
opening-part (p ∷ ps) o = opening-part ps (opening-next o)

pub opening-front : {slot number : ℕ} (ps qs : List (ℕ × ℕ)) {held goal : List Tile} →
    Opening slot number (ps ++ qs) held goal → length held + missing slot ps held ≤ number
opening-front {slot} {number} ps qs {held} {goal} o = omega (arith, o.room, missing-append slot ps qs held)

pub opening-room : {slot number : ℕ} {p : ℕ × ℕ} {ps : List (ℕ × ℕ)} {held goal : List Tile} →
    Opening slot number (p ∷ ps) held goal → is_held (spot_of slot p) held ≡ false → length held < number
opening-room {slot} {number} {p} {ps} {held} {goal} o out =
    let rest = filter (λ place. not (is_held (spot_of slot place) held)) ps in
    let one : missing slot (p ∷ ps) held ≡ suc (length rest) = ap (λ b. length (cond (not b) (p ∷ rest) rest)) out in
    omega (arith, o.room, one)

-- the places of a row from a column on begin with the one at it
pub row-next : (row k to : ℕ) → k < to → places_in_row row k (to - k) ≡ (k, row) ∷ places_in_row row (k + 1) (to - (k + 1))
row-next row k to inside =
    let size : to - k ≡ suc (to - (k + 1)) = omega arith in
    let one : suc k ≡ k + 1 = omega arith in
    ap (places_in_row row k) size ∙ ap (λ n. (k, row) ∷ places_in_row row n (to - (k + 1))) one

-- the places of rows begin with those of the first
pub grid-next : (from n top below : ℕ) → top < below → grid from top n (below - top) ≡ places_in_row top from n ++ grid from (top + 1) n (below - (top + 1))
grid-next from n top below inside =
    let size : below - top ≡ suc (below - (top + 1)) = omega arith in
    let one : suc top ≡ top + 1 = omega arith in
    ap (grid from top n) size ∙ ap (λ k. places_in_row top from n ++ grid from k n (below - (top + 1))) one

pub row-end : (row to : ℕ) → places_in_row row to (to - to) ≡ []
row-end row to = let none : to - to ≡ 0 = omega arith in ap (places_in_row row to) none

pub grid-end : (from n below : ℕ) → grid from below n (below - below) ≡ []
grid-end from n below = let none : below - below ≡ 0 = omega arith in ap (grid from below n) none

-- what the tile at a column adds to those that are missing
pub missing-next : (slot row k to : ℕ) (held : List Tile) (b : Bool) → k < to → is_held (spot_of slot (k, row)) held ≡ b →
    missing slot (places_in_row row k (to - k)) held ≡ cond b 0 1 + missing slot (places_in_row row (k + 1) (to - (k + 1))) held
missing-next slot row k to held b inside is =
    let more = places_in_row row (k + 1) (to - (k + 1)) in
    let rest = filter (λ place. not (is_held (spot_of slot place) held)) more in
    ap (λ places. missing slot places held) (row-next row k to inside)
    ∙ ap (λ v. length (cond (not v) ((k, row) ∷ rest) rest)) is
    ∙ by b rest
  where
    by : (b : Bool) (rest : List (ℕ × ℕ)) → length (cond (not b) ((k, row) ∷ rest) rest) ≡ cond b 0 1 + length rest
    by true rest = omega arith
    by false rest = omega arith

-- once all rows are open nothing is left to be opened
pub opening-done : {slot number : ℕ} (from n row below : ℕ) {held goal : List Tile} → row ≡ below →
    Opening slot number (grid from row n (below - row)) held goal → held ≡ goal
opening-done {slot} {number} from n row below {held} {goal} last o =
    let none : below - row ≡ 0 = omega arith in
    sym (ap (λ k. opened slot (grid from row n k) held) none) ∙ o.ends

-- the tiles between these columns and rows are those that a rectangle meets
pub met-between : (x y w h from to top below : ℕ) → from ≡ x / 64 → to ≡ x / 64 + tiles_along x w → top ≡ y / 64 → below ≡ y / 64 + tiles_along y h →
    grid from top (to - from) (below - top) ≡ grid (x / 64) (y / 64) (tiles_along x w) (tiles_along y h)
met-between x y w h from to top below e1 e2 e3 e4 =
    let across : to - from ≡ tiles_along x w = omega arith in
    let down : below - top ≡ tiles_along y h = omega arith in
    ap (λ a. grid a top (to - from) (below - top)) e1
    ∙ ap (λ b. grid (x / 64) b (to - from) (below - top)) e3
    ∙ ap (λ n. grid (x / 64) (y / 64) n (below - top)) across
    ∙ ap (λ n. grid (x / 64) (y / 64) (tiles_along x w) n) down
