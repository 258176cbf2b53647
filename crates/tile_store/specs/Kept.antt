-- How the tiles are kept: entries in the order of their spots, each with the number of its square, the
-- squares that were taken so far, and the numbers of those that were given back.
use Rattle.std.specs.Prelude.{ℕ, zero, suc, ◌≡◌, ◌+◌, ◌≤◌, ◌<◌, ◌^◌, Bool, true, not, ◌==◌, nat_lt, List, [], ◌∷◌, length, map, Option, if◌then◌else◌, slice_index_or, slice_set, ◌++◌}
use Rattle.tile_store.specs.declared.shelf.Entry.{Entry}
use Rattle.tile_store.specs.Tile.{Tile}
use Rattle.tile_store.specs.Squares.{blank}
use Rattle.tile_store.specs.Held.{rises, are_whole, blank_tile, cut_tile, is_left}

-- the tile of an entry among these squares
abbrev pub tile_in : List (List (Option ℕ)) → Entry → Tile
tile_in squares e = record { spot = e.spot; square = slice_index_or squares e.number blank }

-- the tiles of entries among these squares
abbrev pub tiles_in : List (List (Option ℕ)) → List Entry → List Tile
tiles_in squares held = map (tile_in squares) held

-- tiles at the spots of entries, as if nothing was read of them
abbrev pub laid : List Entry → List Tile
laid held = map (λ (e : Entry). blank_tile e.spot) held

-- the numbers of entries
abbrev pub numbers : List Entry → List ℕ
numbers held = map (λ (e : Entry). e.number) held

-- how often a number is among others
abbrev pub times : ℕ → List ℕ → ℕ
times n [] = 0
times n (m ∷ ms) = if m == n then suc (times n ms) else times n ms

-- once for a number below a count, and else not at all
abbrev pub known : ℕ → ℕ → ℕ
known n count = if nat_lt n count then 1 else 0

-- of the numbers below a count none is there twice, and no other is
abbrev pub AreOnce : List ℕ → ℕ → Type 0
AreOnce ns count = (n : ℕ) → times n ns ≤ known n count

-- the same of two lists together
abbrev pub AreOwned : List Entry → List ℕ → ℕ → Type 0
AreOwned held spare count = (n : ℕ) → times n (numbers held) + times n spare ≤ known n count

-- a square of which nothing is read was taken: one that was given back, or else a new one
pub record TakesSquare (old new : List (List (Option ℕ))) (spare spare2 : List ℕ) (number : ℕ) : Type 0 where
  pub inside : number < length new
  pub blanked : slice_index_or new number blank ≡ blank
  pub others : (m : ℕ) → m < length old → (m ≡ number → ⊥) → slice_index_or new m blank ≡ slice_index_or old m blank
  pub balance : (n : ℕ) → times n spare2 + times n (number ∷ []) + known n (length old) ≡ times n spare + known n (length new)
  pub together : length spare2 + 1 + length old ≡ length spare + length new
  pub few : (most : ℕ) → length old ≤ most → (length spare ≡ 0 → length old < most) → length new ≤ most

-- the tiles of which the one at a place is cut to w columns and h rows of its slot, if it is a tile of this slot
abbrev pub cut_at : ℕ → ℕ → ℕ → ℕ → List Tile → List Tile
cut_at slot w h i [] = []
cut_at slot w h zero (t ∷ ts) = cut_tile slot w h t ∷ ts
cut_at slot w h (suc i) (t ∷ ts) = t ∷ cut_at slot w h i ts

-- whether a tile stays where a slot gives back those that have no pixel left, or all
abbrev pub stays : Bool → ℕ → Tile → Bool
stays all slot t = if all then not (t.spot.slot == slot) else is_left slot t

-- the entry at place i was moved behind the first so many that stay, or its number given back
pub record ClosesOne (old new : List Entry) (spare spare2 : List ℕ) (kept i : ℕ) (left : Bool) (count : ℕ) : Type 0 where
  pub entries : (d : Entry) → new ≡ (if left then slice_set old kept (slice_index_or old i d) else old)
  pub spares : (d : Entry) → spare2 ≡ (if left then spare else spare ++ (let e : Entry = slice_index_or old i d in e.number) ∷ [])
  pub counts : count ≡ (if left then kept + 1 else kept)

-- the held tiles rise and are whole; their squares and those given back are all that were taken, each once;
-- and there is room for all
pub record IsKept (held : List Entry) (squares : List (List (Option ℕ))) (spare : List ℕ) (held_room squares_room spare_room number : ℕ) : Type 0 where
  pub rising : rises (tiles_in squares held) ≡ true
  pub whole : are_whole (tiles_in squares held) ≡ true
  pub owned : AreOwned held spare (length squares)
  pub together : length held + length spare ≡ length squares
  pub taken : length squares ≤ number
  pub few : number < 2 ^ 32
  pub held_fits : number ≤ held_room
  pub squares_fit : number ≤ squares_room
  pub spare_fits : number ≤ spare_room
