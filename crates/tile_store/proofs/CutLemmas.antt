-- What is read of a slot's pixel after a cut.
use Rattle.std.proofs.Common.{◌≡◌, ℕ, zero, suc, ◌+◌, ◌-◌, ◌*◌, ◌/◌, ◌%◌, Bool, true, false, cond, not, ◌&&◌, eqb, ltb, List, [], ◌∷◌, get_or, Option, Some, None, is_some, option_map, ◌⊎◌, inl, inr, refl, sym, ap, ◌∙◌, subst, arith}
use Rattle.std.specs.List.{list_all}
use Rattle.std.proofs.lemmas.Bool.{and_parts, or_parts, cases_Bool, ltb-true, ltb-false, lt-ltb, le-ltb}
use Rattle.std.proofs.lemmas.Bool.Decides.{nat_tests}
use Rattle.tile_store.specs.declared.spot.Spot.{Spot}
use Rattle.tile_store.specs.Tile.{Tile}
use Rattle.tile_store.specs.Spots.{before, same, spot_of}
use Rattle.tile_store.specs.Squares.{has_pixel, is_inside, cut_from}
use Rattle.tile_store.specs.Held.{tile_at, pixel_in, colour_at, rises, cut_tile, is_left, swept, dropped}
use Rattle.tile_store.specs.Contents.{CutsAway, Empties}
use Rattle.tile_store.proofs.OrderLemmas.{same-is}
use Rattle.tile_store.proofs.HeldLemmas.{after, none-behind}
use Rattle.tile_store.proofs.RiseLemmas.{cut-stays, swept-whole}
use Rattle.tile_store.proofs.ContentLemmas.{found-same}

-- no pixels at all
abbrev no_pixels : List (Option ℕ)
no_pixels = []

none-there : (j : ℕ) → get_or no_pixels j None ≡ None
none-there zero = refl
none-there (suc j) = refl

cut-nothing : (b : Bool) (j : ℕ) → get_or no_pixels j None ≡ cond b (get_or no_pixels j None) None
cut-nothing true j = refl
cut-nothing false j = none-there j

pub cut-get : (k w h j : ℕ) (pixels : List (Option ℕ)) → get_or (cut_from k w h pixels) j None ≡ cond (is_inside w h (k + j)) (get_or pixels j None) None
cut-get k w h j [] = cut-nothing (is_inside w h (k + j)) j
cut-get k w h zero (pixel ∷ pixels) =
    let here : k ≡ k + 0 = omega arith in
    ap (λ n. cond (is_inside w h n) pixel None) here
cut-get k w h (suc j) (pixel ∷ pixels) =
    let next : suc k + j ≡ k + suc j = omega arith in
    cut-get (suc k) w h j pixels ∙ ap (λ n. cond (is_inside w h n) (get_or pixels j None) None) next

no-pixel : (pixels : List (Option ℕ)) (j : ℕ) → has_pixel pixels ≡ false → get_or pixels j None ≡ None
no-pixel [] zero e = refl
no-pixel [] (suc j) e = refl
no-pixel (pixel ∷ pixels) zero e = by pixel (or_parts (is_some pixel) (has_pixel pixels) e).0
  where
    by : (o : Option ℕ) → is_some o ≡ false → o ≡ None
    by None e = refl
    by (Some n) e = absurd cc
no-pixel (pixel ∷ pixels) (suc j) e = no-pixel pixels j (or_parts (is_some pixel) (has_pixel pixels) e).1

left-of : (x w : ℕ) → ltb (x % 64) (w - 64 * (x / 64)) ≡ ltb x w
left-of x w = by (cases_Bool (ltb x w))
  where
    by : (ltb x w ≡ true) ⊎ (ltb x w ≡ false) → ltb (x % 64) (w - 64 * (x / 64)) ≡ ltb x w
    by (inl e) = let h = ltb-true x w e in lt-ltb (x % 64) (w - 64 * (x / 64)) (omega (arith, h)) ∙ sym e
    by (inr e) = let h = ltb-false x w e in le-ltb (x % 64) (w - 64 * (x / 64)) (omega (arith, h)) ∙ sym e

-- a pixel of a tile lies inside what the tile is cut to exactly where it lies inside what the slot is cut to
inside-tile : (x y w h : ℕ) → is_inside (w - 64 * (x / 64)) (h - 64 * (y / 64)) (0 + (y % 64 * 64 + x % 64)) ≡ (ltb x w && ltb y h)
inside-tile x y w h =
    let column : (0 + (y % 64 * 64 + x % 64)) % 64 ≡ x % 64 = omega arith in
    let row : (0 + (y % 64 * 64 + x % 64)) / 64 ≡ y % 64 = omega arith in
    ap (λ n. ltb n (w - 64 * (x / 64)) && ltb ((0 + (y % 64 * 64 + x % 64)) / 64) (h - 64 * (y / 64))) column
    ∙ ap (λ n. ltb (x % 64) (w - 64 * (x / 64)) && ltb n (h - 64 * (y / 64))) row
    ∙ ap (λ b. b && ltb (y % 64) (h - 64 * (y / 64))) (left-of x w)
    ∙ ap (λ b. ltb x w && b) (left-of y h)

pub same-not-before : (a b : Spot) → same a b ≡ true → before a b ≡ false
same-not-before a b e = grind (arith, nat_tests)

-- what is read of a tile that was cut, also where it is no longer held
swept-pixel : (slot w h j : ℕ) (q : Spot) (ts : List Tile) → rises ts ≡ true →
    pixel_in j (tile_at q (swept slot w h ts)) ≡ pixel_in j (option_map (cut_tile slot w h) (tile_at q ts))
swept-pixel slot w h j q [] rising = refl
swept-pixel slot w h j q (t ∷ ts) rising =
    let parts = and_parts (list_all (after t) ts) (rises ts) rising in
    by (same t.spot q) (is_left slot (cut_tile slot w h t)) refl refl parts.0 (swept-pixel slot w h j q ts parts.1)
  where
    u : Tile
    u = cut_tile slot w h t

    there : (a : Bool) → same t.spot q ≡ a → same u.spot q ≡ a
    there a e = ap (λ s. same s q) (cut-stays slot w h t) ∙ e

    by : (a b : Bool) → same t.spot q ≡ a → is_left slot u ≡ b → list_all (after t) ts ≡ true →
        pixel_in j (tile_at q (swept slot w h ts)) ≡ pixel_in j (option_map (cut_tile slot w h) (tile_at q ts)) →
        pixel_in j (tile_at q (cond b (u ∷ swept slot w h ts) (swept slot w h ts))) ≡ pixel_in j (option_map (cut_tile slot w h) (cond a (Some t) (tile_at q ts)))
    by true true e f all rest = ap (λ v. pixel_in j (cond v (Some u) (tile_at q (swept slot w h ts)))) (there true e)
    by true false e f all rest =
        rest
        ∙ ap (λ o. pixel_in j (option_map (cut_tile slot w h) o)) (none-behind q t ts (same-not-before t.spot q e) all)
        ∙ sym (no-pixel u.square j (or_parts (not (eqb u.spot.slot slot)) (has_pixel u.square) f).1)
    by false true e f all rest = ap (λ v. pixel_in j (cond v (Some u) (tile_at q (swept slot w h ts)))) (there false e) ∙ rest
    by false false e f all rest = rest

pub swept-cuts : (slot w h : ℕ) (ts : List Tile) → rises ts ≡ true → CutsAway slot w h ts (swept slot w h ts)
swept-cuts slot w h ts rising s x y =
    swept-pixel slot w h (y % 64 * 64 + x % 64) (spot_of s (x / 64, y / 64)) ts rising
    ∙ by (tile_at (spot_of s (x / 64, y / 64)) ts) (found-same (spot_of s (x / 64, y / 64)) ts)
  where
    j : ℕ
    j = y % 64 * 64 + x % 64

    q : Spot
    q = spot_of s (x / 64, y / 64)

    none : (b : Bool) (o : Option ℕ) → o ≡ None → o ≡ cond b None o
    none true o e = e
    none false o e = refl

    turned : (b : Bool) (o : Option ℕ) → cond b o None ≡ cond (true && not b) None o
    turned true o = refl
    turned false o = refl

    inner : (t : Tile) (b : Bool) →
        pixel_in j (Some (cond b (record t { square = cut_from 0 (w - 64 * (x / 64)) (h - 64 * (y / 64)) t.square }) t)) ≡ cond (b && not (ltb x w && ltb y h)) None (get_or t.square j None)
    inner t true =
        cut-get 0 (w - 64 * (x / 64)) (h - 64 * (y / 64)) j t.square
        ∙ ap (λ v. cond v (get_or t.square j None) None) (inside-tile x y w h)
        ∙ turned (ltb x w && ltb y h) (get_or t.square j None)
    inner t false = refl

    by : (o : Option Tile) → ((t : Tile) → o ≡ Some t → same t.spot q ≡ true) →
        pixel_in j (option_map (cut_tile slot w h) o) ≡ cond (eqb s slot && not (ltb x w && ltb y h)) None (pixel_in j o)
    by None here = none (eqb s slot && not (ltb x w && ltb y h)) None refl
    by (Some t) here =
        ap (λ (sp : Spot). pixel_in j (Some (cond (eqb sp.slot slot) (record t { square = cut_from 0 (w - 64 * sp.column) (h - 64 * sp.row) t.square }) t)))
        (same-is t.spot q (here t refl))
        ∙ inner t (eqb s slot)

-- a slot cut to nothing has no pixel
pub cuts-empties : (slot : ℕ) (old new : List Tile) → CutsAway slot 0 0 old new → Empties slot old new
cuts-empties slot old new cuts s x y =
    cuts s x y
    ∙ ap (λ b. cond (eqb s slot && not (b && ltb y 0)) None (colour_at s x y old)) (le-ltb x 0 (omega arith))
    ∙ by (eqb s slot)
  where
    by : (b : Bool) → cond (b && not (false && ltb y 0)) None (colour_at s x y old) ≡ cond b None (colour_at s x y old)
    by true = refl
    by false = refl

-- nor has a slot whose tiles are gone
pub dropped-empties : (slot : ℕ) (ts : List Tile) → rises ts ≡ true → Empties slot ts (dropped slot ts)
dropped-empties slot ts rising =
    let P : List Tile → Type 0 = λ us. Empties slot ts us in
    subst P (swept-whole slot ts) (cuts-empties slot ts (swept slot 0 0 ts) (swept-cuts slot 0 0 ts rising))
