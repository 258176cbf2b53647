-- What is read of a slot's pixel after each call.
use Rattle.std.proofs.Common.{◌≡◌, ℕ, zero, suc, ◌+◌, ◌-◌, ◌*◌, ◌/◌, ◌%◌, ◌<◌, ◌≤◌, Bool, true, false, cond, ◌&&◌, eqb, List, [], ◌∷◌, ◌++◌, get_or, set, map, Option, Some, None, is_some, option_map, ◌⊎◌, inl, inr, refl, sym, ap, ◌∙◌, subst, arith}
use Rattle.std.proofs.lemmas.Bool.{and_parts, and_from, both_ways, cond-false, cases_Bool, eq-eqb, eqb-true, eqb-false, ne_eqb}
use Rattle.gui_num.specs.declared.Point.{Point}
use Rattle.gui_num.specs.declared.Rect.{Rect}
use Rattle.gui_num.specs.Rects.{nat_of}
use Rattle.desk_laws.specs.Rows.{grid}
use Rattle.tile_store.specs.declared.spot.Spot.{Spot}
use Rattle.tile_store.specs.Tile.{Tile}
use Rattle.tile_store.specs.Spots.{before, same, spot_of, spot_at, pixel_of}
use Rattle.tile_store.specs.Squares.{blanks}
use Rattle.tile_store.specs.Held.{tile_at, is_held, pixel_in, colour_at, blank_tile, placed, with_tile, opened, places_in_row, tiles_along, tiles_met, written_in, written}
use Rattle.tile_store.specs.Contents.{KeepsAll, HoldsAll, KeepsHeld, ColoursOne}
use Rattle.tile_store.proofs.OrderLemmas.{same-is, same-refl}
use Rattle.tile_store.proofs.RiseLemmas.{none-first, written-stays, found-map}
use Rattle.tile_store.proofs.OpenLemmas.{held-with}

-- a tile of which nothing was read has no colour
pub blank-pixel : (n k : ℕ) → get_or (blanks n) k None ≡ None
unfolding blanks
blank-pixel zero k = refl
blank-pixel (suc n) zero = refl
blank-pixel (suc n) (suc k) = blank-pixel n k

none-held : (spot : Spot) (ts : List Tile) → is_held spot ts ≡ false → tile_at spot ts ≡ None
none-held spot ts e = by (tile_at spot ts) e
  where
    by : (o : Option Tile) → is_some o ≡ false → o ≡ None
    by None e = refl
    by (Some t) e = absurd cc

-- what is found with one more tile
pub found-placed : (q : Spot) (t : Tile) (ts : List Tile) → is_held t.spot ts ≡ false → tile_at q (placed t ts) ≡ cond (same t.spot q) (Some t) (tile_at q ts)
found-placed q t [] out = refl
found-placed q t (u ∷ us) out =
    let outs = none-first t.spot u us out in
    by (before u.spot t.spot) outs.0 (found-placed q t us outs.1)
  where
    swap : (a b : Bool) → same t.spot q ≡ a → same u.spot q ≡ b → same u.spot t.spot ≡ false →
        cond b (Some u) (cond a (Some t) (tile_at q us)) ≡ cond a (Some t) (cond b (Some u) (tile_at q us))
    swap true true e f other =
        let there : same u.spot t.spot ≡ true = ap (same u.spot) (same-is t.spot q e) ∙ f in
        absurd (both_ways (same u.spot t.spot) other there)
    swap true false e f other = refl
    swap false b e f other = refl

    by : (b : Bool) → same u.spot t.spot ≡ false → tile_at q (placed t us) ≡ cond (same t.spot q) (Some t) (tile_at q us) →
        tile_at q (cond b (u ∷ placed t us) (t ∷ u ∷ us)) ≡ cond (same t.spot q) (Some t) (tile_at q (u ∷ us))
    by true other rest = ap (cond (same u.spot q) (Some u)) rest ∙ swap (same t.spot q) (same u.spot q) refl refl other
    by false other rest = refl

-- opening changes no pixel
pixel-with : (q spot : Spot) (k : ℕ) (ts : List Tile) → pixel_in k (tile_at q (with_tile spot ts)) ≡ pixel_in k (tile_at q ts)
pixel-with q spot k ts = by (is_held spot ts) refl
  where
    here : (a : Bool) → same spot q ≡ a → is_held spot ts ≡ false → pixel_in k (cond a (Some (blank_tile spot)) (tile_at q ts)) ≡ pixel_in k (tile_at q ts)
    here true e out =
        blank-pixel 4096 k ∙ ap (pixel_in k) (sym (none-held spot ts out)) ∙ ap (λ s. pixel_in k (tile_at s ts)) (same-is spot q e)
    here false e out = refl

    by : (b : Bool) → is_held spot ts ≡ b → pixel_in k (tile_at q (cond b ts (placed (blank_tile spot) ts))) ≡ pixel_in k (tile_at q ts)
    by true there = refl
    by false out = ap (pixel_in k) (found-placed q (blank_tile spot) ts out) ∙ here (same spot q) refl out

pub opened-keeps : (slot : ℕ) (places : List (ℕ × ℕ)) (ts : List Tile) → KeepsAll ts (opened slot places ts)
opened-keeps slot [] ts s x y = refl
opened-keeps slot (p ∷ ps) ts s x y =
    opened-keeps slot ps (with_tile (spot_of slot p) ts) s x y
    ∙ pixel-with (spot_of s (x / 64, y / 64)) (spot_of slot p) (y % 64 * 64 + x % 64) ts

-- who is held stays so
pub opened-held : (slot : ℕ) (places : List (ℕ × ℕ)) (ts : List Tile) → KeepsHeld ts (opened slot places ts)
opened-held slot [] ts spot there = there
opened-held slot (p ∷ ps) ts spot there =
    opened-held slot ps (with_tile (spot_of slot p) ts) spot (held-with spot (spot_of slot p) ts there)

here-with : (spot : Spot) (ts : List Tile) → is_held spot (with_tile spot ts) ≡ true
here-with spot ts = by (is_held spot ts) refl
  where
    by : (b : Bool) → is_held spot ts ≡ b → is_held spot (cond b ts (placed (blank_tile spot) ts)) ≡ true
    by true there = there
    by false out =
        ap is_some (found-placed spot (blank_tile spot) ts out)
        ∙ ap (λ b. is_some (cond b (Some (blank_tile spot)) (tile_at spot ts))) (same-refl spot)

pub opened-append : (slot : ℕ) (ps qs : List (ℕ × ℕ)) (ts : List Tile) → opened slot (ps ++ qs) ts ≡ opened slot qs (opened slot ps ts)
opened-append slot [] qs ts = refl
opened-append slot (p ∷ ps) qs ts = opened-append slot ps qs (with_tile (spot_of slot p) ts)

row-opened : (slot row from n k : ℕ) (ts : List Tile) → from ≤ k → k < from + n → is_held (spot_of slot (k, row)) (opened slot (places_in_row row from n) ts) ≡ true
row-opened slot row from zero k ts low high = absurd (omega arith)
row-opened slot row from (suc n) k ts low high =
    by (cases_Bool (eqb k from)) (λ h. row-opened slot row (suc from) n k (with_tile (spot_of slot (from, row)) ts) h (omega arith))
  where
    rest : List (ℕ × ℕ)
    rest = places_in_row row (suc from) n

    by : (eqb k from ≡ true) ⊎ (eqb k from ≡ false) →
        (suc from ≤ k → is_held (spot_of slot (k, row)) (opened slot rest (with_tile (spot_of slot (from, row)) ts)) ≡ true) →
        is_held (spot_of slot (k, row)) (opened slot rest (with_tile (spot_of slot (from, row)) ts)) ≡ true
    by (inl e) next =
        let it : spot_of slot (k, row) ≡ spot_of slot (from, row) = ap (λ n. spot_of slot (n, row)) (eqb-true k from e) in
        opened-held slot rest (with_tile (spot_of slot (from, row)) ts) (spot_of slot (k, row))
        (ap (λ s. is_held s (with_tile (spot_of slot (from, row)) ts)) it ∙ here-with (spot_of slot (from, row)) ts)
    by (inr e) next = next (let other = eqb-false k from e in grind (arith, other))

grid-opened : (slot from n top m k j : ℕ) (ts : List Tile) → from ≤ k → k < from + n → top ≤ j → j < top + m →
    is_held (spot_of slot (k, j)) (opened slot (grid from top n m) ts) ≡ true
grid-opened slot from n top zero k j ts a b low high = absurd (omega arith)
grid-opened slot from n top (suc m) k j ts a b low high =
    ap (is_held (spot_of slot (k, j))) (opened-append slot (places_in_row top from n) (grid from (suc top) n m) ts)
    ∙ by (cases_Bool (eqb j top)) (λ h. grid-opened slot from n (suc top) m k j (opened slot (places_in_row top from n) ts) a b h (omega arith))
  where
    rest : List (ℕ × ℕ)
    rest = grid from (suc top) n m

    by : (eqb j top ≡ true) ⊎ (eqb j top ≡ false) →
        (suc top ≤ j → is_held (spot_of slot (k, j)) (opened slot rest (opened slot (places_in_row top from n) ts)) ≡ true) →
        is_held (spot_of slot (k, j)) (opened slot rest (opened slot (places_in_row top from n) ts)) ≡ true
    by (inl e) next =
        let it : spot_of slot (k, j) ≡ spot_of slot (k, top) = ap (λ n. spot_of slot (k, n)) (eqb-true j top e) in
        opened-held slot rest (opened slot (places_in_row top from n) ts) (spot_of slot (k, j))
        (ap (λ s. is_held s (opened slot (places_in_row top from n) ts)) it ∙ row-opened slot top from n k ts a b)
    by (inr e) next = next (let other = eqb-false j top e in grind (arith, other))

-- a pixel's tile is among those that its rectangle meets
along : (a n x : ℕ) → a ≤ x → x < a + n → (a / 64 ≤ x / 64) × (x / 64 < a / 64 + tiles_along a n)
along a zero x low high = absurd (omega arith)
along a (suc n) x low high =
    let some : tiles_along a (suc n) ≡ (a + suc n + 63) / 64 - a / 64 =
    cond-false (eqb (suc n) 0) 0 ((a + suc n + 63) / 64 - a / 64) (ne_eqb (suc n) 0 (λ e. omega (arith, e))) in
    (omega arith, omega (arith, some))

pub opened-holds : (slot : ℕ) (r : Rect) (ts : List Tile) → HoldsAll slot r (opened slot (tiles_met r) ts)
opened-holds slot r ts x y xl xh yl yh =
    let across = along (nat_of r.x) r.w x xl xh in
    let down = along (nat_of r.y) r.h y yl yh in
    grid-opened slot (nat_of r.x / 64) (tiles_along (nat_of r.x) r.w) (nat_of r.y / 64) (tiles_along (nat_of r.y) r.h) (x / 64) (y / 64) ts across.0 across.1 down.0 down.1

-- a change that leaves tiles where they lie is a change of what is found
module _ (f : Tile → Tile) (stays : (t : Tile) → (f t).spot ≡ t.spot) where
  pub changed-found : (q : Spot) (ts : List Tile) → tile_at q (map f ts) ≡ option_map f (tile_at q ts)
  changed-found q [] = refl
  changed-found q (t ∷ ts) =
      ap (λ s. cond (same s q) (Some (f t)) (tile_at q (map f ts))) (stays t) ∙ by (same t.spot q) (changed-found q ts)
    where
      by : (b : Bool) → tile_at q (map f ts) ≡ option_map f (tile_at q ts) →
          cond b (Some (f t)) (tile_at q (map f ts)) ≡ option_map f (cond b (Some t) (tile_at q ts))
      by true rest = refl
      by false rest = rest

-- what is found lies at the spot
pub found-same : (q : Spot) (ts : List Tile) (t : Tile) → tile_at q ts ≡ Some t → same t.spot q ≡ true
found-same q [] t e = absurd cc
found-same q (u ∷ us) t e = by (same u.spot q) refl (λ h. found-same q us t h) e
  where
    by : (b : Bool) → same u.spot q ≡ b → (tile_at q us ≡ Some t → same t.spot q ≡ true) → cond b (Some u) (tile_at q us) ≡ Some t → same t.spot q ≡ true
    by true is rest e = let it : u ≡ t = cc in ap (λ (v : Tile). same v.spot q) (sym it) ∙ is
    by false is rest e = rest e

set-other : (xs : List (Option ℕ)) (k j : ℕ) (o : Option ℕ) → (j ≡ k → ⊥) → get_or (set xs k o) j None ≡ get_or xs j None
set-other [] k j o other = refl
set-other (x ∷ xs) zero zero o other = absurd (other refl)
set-other (x ∷ xs) zero (suc j) o other = refl
set-other (x ∷ xs) (suc k) zero o other = refl
set-other (x ∷ xs) (suc k) (suc j) o other = set-other xs k j o (λ e. other (ap suc e))

-- a colour at a pixel changes no other
pub written-other : (spot q : Spot) (k j colour : ℕ) (ts : List Tile) → (same q spot ≡ true → j ≡ k → ⊥) →
    pixel_in j (tile_at q (written spot k colour ts)) ≡ pixel_in j (tile_at q ts)
written-other spot q k j colour ts other =
    ap (pixel_in j) (changed-found (written_in spot k colour) (written-stays spot k colour) q ts) ∙ by (tile_at q ts) (found-same q ts)
  where
    inner : (t : Tile) (b : Bool) → same t.spot spot ≡ b → same t.spot q ≡ true →
        pixel_in j (Some (cond b (record t { square = set t.square k (Some colour) }) t)) ≡ get_or t.square j None
    inner t true is here =
        let there : same q spot ≡ true = ap (λ s. same s spot) (sym (same-is t.spot q here)) ∙ is in
        set-other t.square k j (Some colour) (other there)
    inner t false is here = refl

    by : (o : Option Tile) → ((t : Tile) → o ≡ Some t → same t.spot q ≡ true) → pixel_in j (option_map (written_in spot k colour) o) ≡ pixel_in j o
    by None here = refl
    by (Some t) here = inner t (same t.spot spot) refl (here t refl)

-- two pixels of one tile with one number are the same
one-pixel : (x y a b : ℕ) → x / 64 ≡ a / 64 → y / 64 ≡ b / 64 → y % 64 * 64 + x % 64 ≡ b % 64 * 64 + a % 64 → (x ≡ a) × (y ≡ b)
one-pixel x y a b e f g = (omega arith, omega arith)

pub written-colours : (slot : ℕ) (p : Point) (colour : ℕ) (ts : List Tile) →
    colour_at slot (nat_of p.x) (nat_of p.y) (written (spot_of slot (nat_of p.x / 64, nat_of p.y / 64)) (nat_of p.y % 64 * 64 + nat_of p.x % 64) colour ts) ≡ Some colour →
    ColoursOne slot p colour ts (written (spot_of slot (nat_of p.x / 64, nat_of p.y / 64)) (nat_of p.y % 64 * 64 + nat_of p.x % 64) colour ts)
written-colours slot p colour ts read s x y = by (eqb s slot && eqb x (nat_of p.x) && eqb y (nat_of p.y)) refl
  where
    a : ℕ
    a = nat_of p.x

    b : ℕ
    b = nat_of p.y

    new : List Tile
    new = written (spot_of slot (a / 64, b / 64)) (b % 64 * 64 + a % 64) colour ts

    by : (v : Bool) → (eqb s slot && eqb x a && eqb y b) ≡ v → colour_at s x y new ≡ cond v (Some colour) (colour_at s x y ts)
    by true e =
        let parts = and_parts (eqb s slot && eqb x a) (eqb y b) e in
        let firsts = and_parts (eqb s slot) (eqb x a) parts.0 in
        ap (λ n. colour_at n x y new) (eqb-true s slot firsts.0)
        ∙ ap (λ n. colour_at slot n y new) (eqb-true x a firsts.1)
        ∙ ap (λ n. colour_at slot a n new) (eqb-true y b parts.1)
        ∙ read
    by false e =
        written-other (spot_of slot (a / 64, b / 64)) (spot_of s (x / 64, y / 64)) (b % 64 * 64 + a % 64) (y % 64 * 64 + x % 64) colour ts
        (λ here one.
        let parts = and_parts (eqb s slot && eqb (y / 64) (b / 64)) (eqb (x / 64) (a / 64)) here in
        let firsts = and_parts (eqb s slot) (eqb (y / 64) (b / 64)) parts.0 in
        let both = one-pixel x y a b (eqb-true (x / 64) (a / 64) parts.1) (eqb-true (y / 64) (b / 64) firsts.1) one in
        both_ways (eqb s slot && eqb x a && eqb y b) e
        (and_from (eqb s slot && eqb x a) (eqb y b) (and_from (eqb s slot) (eqb x a) firsts.0 (eq-eqb x a both.0)) (eq-eqb y b both.1)))

pub written-held : (spot : Spot) (k colour : ℕ) (ts : List Tile) → KeepsHeld ts (written spot k colour ts)
written-held spot k colour ts q there = found-map (written_in spot k colour) (written-stays spot k colour) q ts ∙ there

-- what a call of `put` wrote, as the code has it
pub put-colours : (slot : ℕ) (p : Point) (colour k : ℕ) (spot : Spot) (old new : List Tile) → spot ≡ spot_at slot p → k ≡ pixel_of p →
    new ≡ written spot k colour old → pixel_in k (tile_at spot new) ≡ Some colour → ColoursOne slot p colour old new
put-colours slot p colour k spot old new e f g read =
    let is : new ≡ written (spot_at slot p) (pixel_of p) colour old =
    g ∙ ap (λ s. written s k colour old) e ∙ ap (λ n. written (spot_at slot p) n colour old) f in
    let there : pixel_in (pixel_of p) (tile_at (spot_at slot p) (written (spot_at slot p) (pixel_of p) colour old)) ≡ Some colour =
    sym (ap (λ n. pixel_in k (tile_at spot n)) is ∙ ap (λ s. pixel_in k (tile_at s (written (spot_at slot p) (pixel_of p) colour old))) e
    ∙ ap (λ n. pixel_in n (tile_at (spot_at slot p) (written (spot_at slot p) (pixel_of p) colour old))) f)
    ∙ read in
    let P : List Tile → Type 0 = λ ts. ColoursOne slot p colour old ts in
    subst P (sym is) (written-colours slot p colour old there)

pub put-held : (spot : Spot) (k colour : ℕ) (old new : List Tile) → new ≡ written spot k colour old → KeepsHeld old new
put-held spot k colour old new e q there = ap (is_held q) e ∙ written-held spot k colour old q there
