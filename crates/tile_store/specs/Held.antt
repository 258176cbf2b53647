-- The tiles that are held, in the order of their spots.
use Rattle.std.specs.Prelude.{ℕ, ◌+◌, ◌-◌, ◌*◌, ◌/◌, ◌%◌, Bool, true, not, ◌&&◌, ◌||◌, ◌==◌, List, [], ◌∷◌, length, map, filter, find, Option, Some, None, is_some, if◌then◌else◌, pos, int_le, slice_index_or, slice_set}
use Rattle.std.specs.List.{list_all}
use Rattle.desk_laws.specs.declared.limits.TheConstants.{TILE_SIDE}
use Rattle.tile_store.specs.declared.square.TheConstants.{PIXELS}
use Rattle.gui_num.specs.declared.Point.{Point}
use Rattle.gui_num.specs.declared.Rect.{Rect}
use Rattle.gui_num.specs.Rects.{nat_of}
use Rattle.desk_laws.specs.Rows.{span, grid}
use Rattle.tile_store.specs.declared.spot.Spot.{Spot}
use Rattle.tile_store.specs.Tile.{Tile}
use Rattle.tile_store.specs.Spots.{before, same, spot_of}
use Rattle.tile_store.specs.Squares.{blank, has_pixel, coloured_from, cut_from}

-- how many tiles there are, and those that are held
pub record TilesView : Type 0 where
  pub number : ℕ
  pub held : List Tile

-- the tile at a spot
abbrev pub tile_at : Spot → List Tile → Option Tile
tile_at spot held = find (λ t. same t.spot spot) held

-- whether a tile is held
abbrev pub is_held : Spot → List Tile → Bool
is_held spot held = is_some (tile_at spot held)

-- a pixel of a tile, if the tile is there and something was read
abbrev pub pixel_in : ℕ → Option Tile → Option ℕ
pixel_in k None = None
pixel_in k (Some tile) = slice_index_or tile.square k None

-- the colour of a slot's pixel at a column and a row, if something was read there
abbrev pub colour_at : ℕ → ℕ → ℕ → List Tile → Option ℕ
colour_at slot x y held = pixel_in (y % TILE_SIDE * TILE_SIDE + x % TILE_SIDE) (tile_at (spot_of slot (x / TILE_SIDE, y / TILE_SIDE)) held)

-- whether a pixel has no coordinate below 0
abbrev pub is_on : Point → Bool
is_on p = int_le (pos 0) p.x && int_le (pos 0) p.y

-- the colour of a slot's pixel, if something was read there
abbrev pub content : ℕ → Point → List Tile → Option ℕ
content slot p held = if is_on p then colour_at slot (nat_of p.x) (nat_of p.y) held else None

-- whether each tile comes before those behind it
abbrev pub rises : List Tile → Bool
rises [] = true
rises (t ∷ ts) = list_all (λ u. before t.spot u.spot) ts && rises ts

-- whether a tile has all its pixels
abbrev pub is_whole : Tile → Bool
is_whole t = length t.square == PIXELS

-- whether each tile has all its pixels
abbrev pub are_whole : List Tile → Bool
are_whole held = list_all is_whole held

-- a tile of which nothing was read
abbrev pub blank_tile : Spot → Tile
blank_tile spot = record { spot = spot; square = blank }

-- the tiles with one more, before the first that comes behind it
abbrev pub placed : Tile → List Tile → List Tile
placed t [] = t ∷ []
placed t (u ∷ us) = if before u.spot t.spot then u ∷ placed t us else t ∷ u ∷ us

-- the tiles with a tile at a spot: a blank one where there was none
abbrev pub with_tile : Spot → List Tile → List Tile
with_tile spot held = if is_held spot held then held else placed (blank_tile spot) held

-- the tiles with tiles at all of these columns and rows of a slot
abbrev pub opened : ℕ → List (ℕ × ℕ) → List Tile → List Tile
opened slot [] held = held
opened slot (place ∷ places) held = opened slot places (with_tile (spot_of slot place) held)

-- how many of these columns and rows of a slot have no tile
abbrev pub missing : ℕ → List (ℕ × ℕ) → List Tile → ℕ
missing slot places held = length (filter (λ place. not (is_held (spot_of slot place) held)) places)

-- the places of n columns from one on in a row
abbrev pub places_in_row : ℕ → ℕ → ℕ → List (ℕ × ℕ)
places_in_row row from n = map (λ i. (i, row)) (span from n)

-- how many tiles n pixels from a on meet along a side
abbrev pub tiles_along : ℕ → ℕ → ℕ
tiles_along a n = if n == 0 then 0 else (a + n + (TILE_SIDE - 1)) / TILE_SIDE - a / TILE_SIDE

-- the columns and rows of the tiles that a rectangle meets, row by row
abbrev pub tiles_met : Rect → List (ℕ × ℕ)
tiles_met r = grid (nat_of r.x / TILE_SIDE) (nat_of r.y / TILE_SIDE) (tiles_along (nat_of r.x) r.w) (tiles_along (nat_of r.y) r.h)

-- a tile with a colour at a pixel, if it lies at a spot
abbrev pub written_in : Spot → ℕ → ℕ → Tile → Tile
written_in spot k colour t = if same t.spot spot then record t { square = slice_set t.square k (Some colour) } else t

-- the tiles with a colour at a pixel of the one at a spot
abbrev pub written : Spot → ℕ → ℕ → List Tile → List Tile
written spot k colour held = map (written_in spot k colour) held

-- a tile with these colours from a pixel on, if it lies at a spot
abbrev pub row_written_in : Spot → ℕ → List ℕ → Tile → Tile
row_written_in spot k colours t = if same t.spot spot then record t { square = coloured_from k colours t.square } else t

-- the tiles with these colours from a pixel of the one at a spot on
abbrev pub row_written : Spot → ℕ → List ℕ → List Tile → List Tile
row_written spot k colours held = map (row_written_in spot k colours) held

-- a tile without the pixels outside the first w columns and h rows of its slot, if it is a tile of this slot
abbrev pub cut_tile : ℕ → ℕ → ℕ → Tile → Tile
cut_tile slot w h t =
    if t.spot.slot == slot then record t { square = cut_from 0 (w - TILE_SIDE * t.spot.column) (h - TILE_SIDE * t.spot.row) t.square } else t

-- whether a tile is another slot's or has a pixel
abbrev pub is_left : ℕ → Tile → Bool
is_left slot t = not (t.spot.slot == slot) || has_pixel t.square

-- the tiles of a slot cut to w columns and h rows, without those that have no pixel left
abbrev pub swept : ℕ → ℕ → ℕ → List Tile → List Tile
swept slot w h held = filter (is_left slot) (map (cut_tile slot w h) held)

-- the tiles of all slots but this
abbrev pub dropped : ℕ → List Tile → List Tile
dropped slot held = filter (λ t. not (t.spot.slot == slot)) held
