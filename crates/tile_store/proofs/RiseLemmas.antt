-- What keeps tiles in their order.
use Rattle.std.proofs.Common.{◌≡◌, ℕ, suc, ◌-◌, ◌*◌, Bool, true, false, cond, not, ◌&&◌, ◌||◌, eqb, List, [], ◌∷◌, set, map, filter, Option, Some, None, is_some, refl, sym, ap, ◌∙◌, arith}
use Rattle.std.specs.List.{list_all}
use Rattle.std.proofs.lemmas.Bool.{and_parts, and_from, both_ways, le-ltb}
use Rattle.tile_store.specs.declared.spot.Spot.{Spot}
use Rattle.tile_store.specs.Tile.{Tile}
use Rattle.tile_store.specs.Spots.{before, same}
use Rattle.tile_store.specs.Squares.{has_pixel, is_inside, cut_from}
use Rattle.tile_store.specs.Held.{tile_at, is_held, rises, blank_tile, placed, with_tile, written_in, written, cut_tile, is_left, swept, dropped}
use Rattle.tile_store.proofs.OrderLemmas.{before-trans, before-total}
use Rattle.tile_store.proofs.HeldLemmas.{after}

pub all-filter : (p q : Tile → Bool) (ts : List Tile) → list_all p ts ≡ true → list_all p (filter q ts) ≡ true
all-filter p q [] all = refl
all-filter p q (t ∷ ts) all =
    let parts = and_parts (p t) (list_all p ts) all in
    by (q t) parts.0 (all-filter p q ts parts.1)
  where
    by : (b : Bool) → p t ≡ true → list_all p (filter q ts) ≡ true → list_all p (cond b (t ∷ filter q ts) (filter q ts)) ≡ true
    by true here rest = and_from (p t) (list_all p (filter q ts)) here rest
    by false here rest = rest

pub rises-filter : (q : Tile → Bool) (ts : List Tile) → rises ts ≡ true → rises (filter q ts) ≡ true
rises-filter q [] rising = refl
rises-filter q (t ∷ ts) rising =
    let parts = and_parts (list_all (after t) ts) (rises ts) rising in
    by (q t) (all-filter (after t) q ts parts.0) (rises-filter q ts parts.1)
  where
    by : (b : Bool) → list_all (after t) (filter q ts) ≡ true → rises (filter q ts) ≡ true → rises (cond b (t ∷ filter q ts) (filter q ts)) ≡ true
    by true here rest = and_from (list_all (after t) (filter q ts)) (rises (filter q ts)) here rest
    by false here rest = rest

-- a change that leaves each tile where it lies
module _ (f : Tile → Tile) (stays : (t : Tile) → (f t).spot ≡ t.spot) where
  all-map : (t : Tile) (ts : List Tile) → list_all (after (f t)) (map f ts) ≡ list_all (after t) ts
  all-map t [] = refl
  all-map t (u ∷ us) =
      ap (λ b. b && list_all (after (f t)) (map f us)) (ap (λ s. before s (f u).spot) (stays t) ∙ ap (before t.spot) (stays u))
      ∙ ap (λ b. before t.spot u.spot && b) (all-map t us)

  pub rises-map : (ts : List Tile) → rises (map f ts) ≡ rises ts
  rises-map [] = refl
  rises-map (t ∷ ts) = ap (λ b. b && rises (map f ts)) (all-map t ts) ∙ ap (λ b. list_all (after t) ts && b) (rises-map ts)

  pub found-map : (spot : Spot) (ts : List Tile) → is_held spot (map f ts) ≡ is_held spot ts
  found-map spot [] = refl
  found-map spot (t ∷ ts) = ap (λ s. is_some (cond (same s spot) (Some (f t)) (tile_at spot (map f ts)))) (stays t)
      ∙ by (same t.spot spot) (found-map spot ts)
    where
      by : (b : Bool) → is_held spot (map f ts) ≡ is_held spot ts → is_some (cond b (Some (f t)) (tile_at spot (map f ts))) ≡ is_some (cond b (Some t) (tile_at spot ts))
      by true rest = refl
      by false rest = rest

pub written-stays : (spot : Spot) (k colour : ℕ) (t : Tile) → (written_in spot k colour t).spot ≡ t.spot
written-stays spot k colour t = by (same t.spot spot)
  where
    by : (b : Bool) → (let u : Tile = cond b (record t { square = set t.square k (Some colour) }) t in u.spot) ≡ t.spot
    by true = refl
    by false = refl

pub cut-stays : (slot w h : ℕ) (t : Tile) → (cut_tile slot w h t).spot ≡ t.spot
cut-stays slot w h t = by (eqb t.spot.slot slot)
  where
    by : (b : Bool) → (let u : Tile = cond b (record t { square = cut_from 0 (w - 64 * t.spot.column) (h - 64 * t.spot.row) t.square }) t in u.spot) ≡ t.spot
    by true = refl
    by false = refl

pub rises-written : (spot : Spot) (k colour : ℕ) (ts : List Tile) → rises ts ≡ true → rises (written spot k colour ts) ≡ true
rises-written spot k colour ts rising = rises-map (written_in spot k colour) (written-stays spot k colour) ts ∙ rising

pub rises-swept : (slot w h : ℕ) (ts : List Tile) → rises ts ≡ true → rises (swept slot w h ts) ≡ true
rises-swept slot w h ts rising =
    rises-filter (is_left slot) (map (cut_tile slot w h) ts) (rises-map (cut_tile slot w h) (cut-stays slot w h) ts ∙ rising)

-- one more tile
pub all-placed : (p : Tile → Bool) (t : Tile) (ts : List Tile) → p t ≡ true → list_all p ts ≡ true → list_all p (placed t ts) ≡ true
all-placed p t [] here all = and_from (p t) true here refl
all-placed p t (u ∷ us) here all =
    let parts = and_parts (p u) (list_all p us) all in
    by (before u.spot t.spot) parts.0 (all-placed p t us here parts.1)
  where
    by : (b : Bool) → p u ≡ true → list_all p (placed t us) ≡ true → list_all p (cond b (u ∷ placed t us) (t ∷ u ∷ us)) ≡ true
    by true there rest = and_from (p u) (list_all p (placed t us)) there rest
    by false there rest = and_from (p t) (p u && list_all p us) here all

all-behind : (t u : Tile) (us : List Tile) → after t u ≡ true → list_all (after u) us ≡ true → list_all (after t) us ≡ true
all-behind t u [] front all = refl
all-behind t u (v ∷ vs) front all =
    let parts = and_parts (after u v) (list_all (after u) vs) all in
    and_from (after t v) (list_all (after t) vs) (before-trans t.spot u.spot v.spot front parts.0) (all-behind t u vs front parts.1)

-- where none lies at a spot the first doesn't either, nor one behind it
pub none-first : (spot : Spot) (t : Tile) (ts : List Tile) → is_held spot (t ∷ ts) ≡ false → (same t.spot spot ≡ false) × (is_held spot ts ≡ false)
none-first spot t ts e = by (same t.spot spot) refl
  where
    by : (b : Bool) → same t.spot spot ≡ b → (same t.spot spot ≡ false) × (is_held spot ts ≡ false)
    by true is = absurd (both_ways (is_held spot (t ∷ ts)) e (ap (λ b. is_some (cond b (Some t) (tile_at spot ts))) is))
    by false is = (is, sym (ap (λ b. is_some (cond b (Some t) (tile_at spot ts))) is) ∙ e)

pub rises-placed : (t : Tile) (ts : List Tile) → is_held t.spot ts ≡ false → rises ts ≡ true → rises (placed t ts) ≡ true
rises-placed t [] out rising = refl
rises-placed t (u ∷ us) out rising =
    let parts = and_parts (list_all (after u) us) (rises us) rising in
    let outs = none-first t.spot u us out in
    by (before u.spot t.spot) refl parts outs.0 (rises-placed t us outs.1 parts.1)
  where
    by : (b : Bool) → before u.spot t.spot ≡ b → (list_all (after u) us ≡ true) × (rises us ≡ true) → same u.spot t.spot ≡ false →
        rises (placed t us) ≡ true → rises (cond b (u ∷ placed t us) (t ∷ u ∷ us)) ≡ true
    by true front parts other rest =
        and_from (list_all (after u) (placed t us)) (rises (placed t us)) (all-placed (after u) t us front parts.0) rest
    by false front parts other rest =
        let behind : after t u ≡ true = before-total u.spot t.spot front other in
        and_from (list_all (after t) (u ∷ us)) (rises (u ∷ us))
        (and_from (after t u) (list_all (after t) us) behind (all-behind t u us behind parts.0)) rising

pub rises-with : (spot : Spot) (ts : List Tile) → rises ts ≡ true → rises (with_tile spot ts) ≡ true
rises-with spot ts rising = by (is_held spot ts) refl
  where
    by : (b : Bool) → is_held spot ts ≡ b → rises (cond b ts (placed (blank_tile spot) ts)) ≡ true
    by true there = rising
    by false out = rises-placed (blank_tile spot) ts out rising

-- a slot cut to nothing has no tile left
nothing-left : (k w h : ℕ) (pixels : List (Option ℕ)) → w ≡ 0 → has_pixel (cut_from k w h pixels) ≡ false
nothing-left k w h [] none = refl
nothing-left k w h (pixel ∷ pixels) none =
    let outside : is_inside w h k ≡ false = grind (arith, le-ltb) in
    ap (λ b. is_some (cond b pixel None) || has_pixel (cut_from (suc k) w h pixels)) outside ∙ nothing-left (suc k) w h pixels none

-- such a tile is not left, and another slot's stays as it is
cut-gone : (slot : ℕ) (t : Tile) → eqb t.spot.slot slot ≡ true → is_left slot (cut_tile slot 0 0 t) ≡ false
cut-gone slot t is =
    let cut : Tile = record t { square = cut_from 0 (0 - 64 * t.spot.column) (0 - 64 * t.spot.row) t.square } in
    let none : 0 - 64 * t.spot.column ≡ 0 = omega arith in
    ap (λ b. let u : Tile = cond b cut t in is_left slot u) is
    ∙ ap (λ b. not b || has_pixel cut.square) is
    ∙ nothing-left 0 (0 - 64 * t.spot.column) (0 - 64 * t.spot.row) t.square none

pub cut-other : (slot w h : ℕ) (t : Tile) → eqb t.spot.slot slot ≡ false → cut_tile slot w h t ≡ t
cut-other slot w h t is =
    let cut : Tile = record t { square = cut_from 0 (w - 64 * t.spot.column) (h - 64 * t.spot.row) t.square } in
    ap (λ b. cond b cut t) is

pub swept-whole : (slot : ℕ) (ts : List Tile) → swept slot 0 0 ts ≡ dropped slot ts
swept-whole slot [] = refl
swept-whole slot (t ∷ ts) = by (eqb t.spot.slot slot) refl (swept-whole slot ts)
  where
    by : (b : Bool) → eqb t.spot.slot slot ≡ b → swept slot 0 0 ts ≡ dropped slot ts → swept slot 0 0 (t ∷ ts) ≡ dropped slot (t ∷ ts)
    by true is rest =
        ap (λ b. cond b (cut_tile slot 0 0 t ∷ swept slot 0 0 ts) (swept slot 0 0 ts)) (cut-gone slot t is)
        ∙ rest
        ∙ sym (ap (λ b. cond (not b) (t ∷ dropped slot ts) (dropped slot ts)) is)
    by false is rest =
        ap (λ (u : Tile). cond (is_left slot u) (u ∷ swept slot 0 0 ts) (swept slot 0 0 ts)) (cut-other slot 0 0 t is)
        ∙ ap (λ b. cond (not b || has_pixel t.square) (t ∷ swept slot 0 0 ts) (swept slot 0 0 ts)) is
        ∙ ap (λ us. t ∷ us) rest
        ∙ sym (ap (λ b. cond (not b) (t ∷ dropped slot ts) (dropped slot ts)) is)
