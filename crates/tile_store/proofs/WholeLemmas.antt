-- Each tile that is held has 4096 pixels.
use Rattle.std.proofs.Common.{◌≡◌, ℕ, zero, suc, ◌-◌, ◌*◌, Bool, true, false, cond, ◌&&◌, eqb, List, [], ◌∷◌, length, set, map, Option, Some, refl, ap, ◌∙◌}
use Rattle.std.specs.List.{list_all}
use Rattle.std.proofs.lemmas.Bool.{eq-eqb}
use Rattle.std.proofs.lemmas.List.{length-set}
use Rattle.tile_store.specs.declared.spot.Spot.{Spot}
use Rattle.tile_store.specs.Tile.{Tile}
use Rattle.tile_store.specs.Spots.{same}
use Rattle.tile_store.specs.Squares.{blanks, cut_from}
use Rattle.tile_store.specs.Held.{is_held, is_whole, are_whole, blank_tile, placed, with_tile, written_in, written, cut_tile, is_left, swept}
use Rattle.tile_store.proofs.RiseLemmas.{all-filter, all-placed}

-- a change that keeps a test of each tile keeps it of all
pub all-keeps : (p : Tile → Bool) (f : Tile → Tile) → ((t : Tile) → p (f t) ≡ p t) → (ts : List Tile) → list_all p (map f ts) ≡ list_all p ts
all-keeps p f keeps [] = refl
all-keeps p f keeps (t ∷ ts) = ap (λ b. b && list_all p (map f ts)) (keeps t) ∙ ap (λ b. p t && b) (all-keeps p f keeps ts)

length-cut-from : (k w h : ℕ) (pixels : List (Option ℕ)) → length (cut_from k w h pixels) ≡ length pixels
length-cut-from k w h [] = refl
length-cut-from k w h (pixel ∷ pixels) = ap suc (length-cut-from (suc k) w h pixels)

length-blanks : (n : ℕ) → length (blanks n) ≡ n
unfolding blanks
length-blanks zero = refl
length-blanks (suc n) = ap suc (length-blanks n)

pub whole-written : (spot : Spot) (k colour : ℕ) (ts : List Tile) → are_whole ts ≡ true → are_whole (written spot k colour ts) ≡ true
whole-written spot k colour ts whole = all-keeps is_whole (written_in spot k colour) one ts ∙ whole
  where
    one : (t : Tile) → is_whole (written_in spot k colour t) ≡ is_whole t
    one t = by (same t.spot spot)
      where
        by : (b : Bool) → is_whole (cond b (record t { square = set t.square k (Some colour) }) t) ≡ is_whole t
        by true = ap (λ n. eqb n 4096) (length-set t.square k (Some colour))
        by false = refl

pub whole-swept : (slot w h : ℕ) (ts : List Tile) → are_whole ts ≡ true → are_whole (swept slot w h ts) ≡ true
whole-swept slot w h ts whole =
    all-filter is_whole (is_left slot) (map (cut_tile slot w h) ts) (all-keeps is_whole (cut_tile slot w h) one ts ∙ whole)
  where
    one : (t : Tile) → is_whole (cut_tile slot w h t) ≡ is_whole t
    one t = by (eqb t.spot.slot slot)
      where
        by : (b : Bool) → is_whole (cond b (record t { square = cut_from 0 (w - 64 * t.spot.column) (h - 64 * t.spot.row) t.square }) t) ≡ is_whole t
        by true = ap (λ n. eqb n 4096) (length-cut-from 0 (w - 64 * t.spot.column) (h - 64 * t.spot.row) t.square)
        by false = refl

pub whole-with : (spot : Spot) (ts : List Tile) → are_whole ts ≡ true → are_whole (with_tile spot ts) ≡ true
whole-with spot ts whole = by (is_held spot ts)
  where
    by : (b : Bool) → are_whole (cond b ts (placed (blank_tile spot) ts)) ≡ true
    by true = whole
    by false = all-placed is_whole (blank_tile spot) ts (eq-eqb (length (blanks 4096)) 4096 (length-blanks 4096)) whole
