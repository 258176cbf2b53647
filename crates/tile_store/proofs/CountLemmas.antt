-- As many tiles are held once a rectangle is open as were held and were missing.
use Rattle.std.proofs.Common.{◌≡◌, ℕ, zero, suc, ◌+◌, ◌/◌, ◌≤◌, Bool, true, false, cond, not, ◌&&◌, eqb, List, [], ◌∷◌, length, filter, Some, is_some, refl, sym, ap, ◌∙◌, arith}
use Rattle.std.proofs.lemmas.Bool.{ne_eqb, and_left, and_right}
use Rattle.gui_num.specs.declared.Rect.{Rect}
use Rattle.gui_num.specs.Rects.{nat_of}
use Rattle.desk_laws.specs.Rows.{grid}
use Rattle.tile_store.specs.declared.spot.Spot.{Spot}
use Rattle.tile_store.specs.Tile.{Tile}
use Rattle.tile_store.specs.Spots.{same, spot_of}
use Rattle.tile_store.specs.Held.{tile_at, is_held, blank_tile, placed, with_tile, opened, missing, places_in_row, tiles_along, tiles_met}
use Rattle.tile_store.specs.Contents.{HoldsAll}
use Rattle.tile_store.proofs.OpenLemmas.{length-placed, missing-append}
use Rattle.tile_store.proofs.ContentLemmas.{found-placed, opened-append, opened-holds}

-- one more tile changes nothing of another spot
other-with : (q spot : Spot) (ts : List Tile) → same spot q ≡ false → is_held q (with_tile spot ts) ≡ is_held q ts
other-with q spot ts other = by (is_held spot ts) refl
  where
    by : (b : Bool) → is_held spot ts ≡ b → is_held q (cond b ts (placed (blank_tile spot) ts)) ≡ is_held q ts
    by true there = refl
    by false out =
        ap is_some (found-placed q (blank_tile spot) ts out) ∙ ap (λ b. is_some (cond b (Some (blank_tile spot)) (tile_at q ts))) other

other-column : (slot k row k2 row2 : ℕ) → (k ≡ k2 → ⊥) → same (spot_of slot (k, row)) (spot_of slot (k2, row2)) ≡ false
other-column slot k row k2 row2 other = and_right (eqb slot slot && eqb row row2) (eqb k k2) (ne_eqb k k2 other)

other-row : (slot k row k2 row2 : ℕ) → (row ≡ row2 → ⊥) → same (spot_of slot (k, row)) (spot_of slot (k2, row2)) ≡ false
other-row slot k row k2 row2 other =
    and_left (eqb slot slot && eqb row row2) (eqb k k2) (and_right (eqb slot slot) (eqb row row2) (ne_eqb row row2 other))

-- what lacks a tile depends on what is held at the places alone
module _ (slot : ℕ) (xs ys : List Tile) where
  alike : (p : ℕ × ℕ) (ps : List (ℕ × ℕ)) → is_held (spot_of slot p) xs ≡ is_held (spot_of slot p) ys → missing slot ps xs ≡ missing slot ps ys →
      missing slot (p ∷ ps) xs ≡ missing slot (p ∷ ps) ys
  alike p ps here rest =
      let a = filter (λ place. not (is_held (spot_of slot place) xs)) ps in
      let b = filter (λ place. not (is_held (spot_of slot place) ys)) ps in
      ap (λ v. length (cond (not v) (p ∷ a) a)) here ∙ by (is_held (spot_of slot p) ys) a b rest
    where
      by : (v : Bool) (a b : List (ℕ × ℕ)) → length a ≡ length b → length (cond (not v) (p ∷ a) a) ≡ length (cond (not v) (p ∷ b) b)
      by true a b e = e
      by false a b e = ap suc e

  row-alike : (row from n : ℕ) → ((k : ℕ) → from ≤ k → is_held (spot_of slot (k, row)) xs ≡ is_held (spot_of slot (k, row)) ys) →
      missing slot (places_in_row row from n) xs ≡ missing slot (places_in_row row from n) ys
  row-alike row from zero same = refl
  row-alike row from (suc n) same =
      alike (from, row) (places_in_row row (suc from) n) (same from (omega arith)) (row-alike row (suc from) n (λ k h. same k (omega arith)))

  grid-alike : (from n top m : ℕ) → ((k j : ℕ) → top ≤ j → is_held (spot_of slot (k, j)) xs ≡ is_held (spot_of slot (k, j)) ys) →
      missing slot (grid from top n m) xs ≡ missing slot (grid from top n m) ys
  grid-alike from n top zero same = refl
  grid-alike from n top (suc m) same =
      let here = row-alike top from n (λ k h. same k top (omega arith)) in
      let rest = grid-alike from n (suc top) m (λ k j h. same k j (omega arith)) in
      omega (
        arith,
        here,
        rest,
        missing-append slot (places_in_row top from n) (grid from (suc top) n m) xs,
        missing-append slot (places_in_row top from n) (grid from (suc top) n m) ys,
      )

-- one more of the places is open
one-more : (slot : ℕ) (p : ℕ × ℕ) (ps : List (ℕ × ℕ)) (ts : List Tile) → missing slot ps (with_tile (spot_of slot p) ts) ≡ missing slot ps ts →
    length (with_tile (spot_of slot p) ts) + missing slot ps (with_tile (spot_of slot p) ts) ≡ length ts + missing slot (p ∷ ps) ts
one-more slot p ps ts same = by (is_held (spot_of slot p) ts)
  where
    rest : List (ℕ × ℕ)
    rest = filter (λ place. not (is_held (spot_of slot place) ts)) ps

    by : (b : Bool) → length (cond b ts (placed (blank_tile (spot_of slot p)) ts)) + missing slot ps (with_tile (spot_of slot p) ts) ≡ length ts + length (cond (not b) (p ∷ rest) rest)
    by true = omega (arith, same)
    by false = omega (arith, same, length-placed (blank_tile (spot_of slot p)) ts)

row-count : (slot row from n : ℕ) (ts : List Tile) → length (opened slot (places_in_row row from n) ts) ≡ length ts + missing slot (places_in_row row from n) ts
row-count slot row from zero ts = omega arith
row-count slot row from (suc n) ts =
    let more = with_tile (spot_of slot (from, row)) ts in
    let same = row-alike slot more ts row (suc from) n
    (λ k h. other-with (spot_of slot (k, row)) (spot_of slot (from, row)) ts (other-column slot from row k row (λ e. omega (arith, h, e)))) in
    row-count slot row (suc from) n more ∙ one-more slot (from, row) (places_in_row row (suc from) n) ts same

row-leaves : (slot row from n k j : ℕ) (ts : List Tile) → (row ≡ j → ⊥) →
    is_held (spot_of slot (k, j)) (opened slot (places_in_row row from n) ts) ≡ is_held (spot_of slot (k, j)) ts
row-leaves slot row from zero k j ts other = refl
row-leaves slot row from (suc n) k j ts other =
    row-leaves slot row (suc from) n k j (with_tile (spot_of slot (from, row)) ts) other
    ∙ other-with (spot_of slot (k, j)) (spot_of slot (from, row)) ts (other-row slot from row k j other)

grid-count : (slot from n top m : ℕ) (ts : List Tile) → length (opened slot (grid from top n m) ts) ≡ length ts + missing slot (grid from top n m) ts
grid-count slot from n top zero ts = omega arith
grid-count slot from n top (suc m) ts =
    let first = places_in_row top from n in
    let rest = grid from (suc top) n m in
    let more = opened slot first ts in
    let same = grid-alike slot more ts from n (suc top) m (λ k j h. row-leaves slot top from n k j ts (λ e. omega (arith, h, e))) in
    let all = ap length (opened-append slot first rest ts) ∙ grid-count slot from n (suc top) m more in
    omega (arith, all, same, row-count slot top from n ts, missing-append slot first rest ts)

pub opened-count : (slot : ℕ) (r : Rect) (ts : List Tile) → length (opened slot (tiles_met r) ts) ≡ length ts + missing slot (tiles_met r) ts
opened-count slot r ts = grid-count slot (nat_of r.x / 64) (tiles_along (nat_of r.x) r.w) (nat_of r.y / 64) (tiles_along (nat_of r.y) r.h) ts

-- where none is missing nothing is opened
pub none-missing : (slot : ℕ) (places : List (ℕ × ℕ)) (ts : List Tile) → missing slot places ts ≡ 0 → opened slot places ts ≡ ts
none-missing slot [] ts none = refl
none-missing slot (p ∷ ps) ts none = by (is_held (spot_of slot p) ts) refl none (λ h. none-missing slot ps ts h)
  where
    rest : List (ℕ × ℕ)
    rest = filter (λ place. not (is_held (spot_of slot place) ts)) ps

    by : (b : Bool) → is_held (spot_of slot p) ts ≡ b → length (cond (not b) (p ∷ rest) rest) ≡ 0 → (length rest ≡ 0 → opened slot ps ts ≡ ts) →
        opened slot ps (cond b ts (placed (blank_tile (spot_of slot p)) ts)) ≡ ts
    by true e none next = next none
    by false e none next = absurd (omega (arith, none))

pub needs-none : (slot : ℕ) (r : Rect) (ts : List Tile) → missing slot (tiles_met r) ts ≡ 0 → HoldsAll slot r ts
needs-none slot r ts none x y a b c d =
    ap (is_held (spot_of slot (x / 64, y / 64))) (sym (none-missing slot (tiles_met r) ts none)) ∙ opened-holds slot r ts x y a b c d
