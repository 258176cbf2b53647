-- What each call does to the contents of all slots, pixel by pixel, and to which tiles are held.
use Rattle.std.specs.Prelude.{ℕ, ◌≡◌, ◌+◌, ◌*◌, ◌/◌, ◌%◌, ◌^◌, ◌<◌, ◌≤◌, true, not, ◌&&◌, ◌==◌, nat_lt, List, [], ◌∷◌, map, Option, Some, None, if◌then◌else◌}
use Rattle.desk_laws.specs.declared.limits.TheConstants.{TILE_SIDE}
use Rattle.desk_laws.specs.Rows.{span}
use Rattle.gui_num.specs.declared.Point.{Point}
use Rattle.gui_num.specs.declared.Rect.{Rect}
use Rattle.gui_num.specs.Rects.{nat_of}
use Rattle.tile_store.specs.declared.spot.Spot.{Spot}
use Rattle.tile_store.specs.Tile.{Tile}
use Rattle.tile_store.specs.Spots.{spot_of}
use Rattle.tile_store.specs.Held.{is_held, colour_at, written}

-- all pixels are as before
abbrev pub KeepsAll : List Tile → List Tile → Type 0
KeepsAll old new = (s x y : ℕ) → colour_at s x y new ≡ colour_at s x y old

-- each pixel of a rectangle of a slot has a tile
abbrev pub HoldsAll : ℕ → Rect → List Tile → Type 0
HoldsAll slot r held =
    (x y : ℕ) → nat_of r.x ≤ x → x < nat_of r.x + r.w → nat_of r.y ≤ y → y < nat_of r.y + r.h →
    is_held (spot_of slot (x / TILE_SIDE, y / TILE_SIDE)) held ≡ true

-- who is held stays so
abbrev pub KeepsHeld : List Tile → List Tile → Type 0
KeepsHeld old new = (spot : Spot) → is_held spot old ≡ true → is_held spot new ≡ true

-- one pixel of a slot has this colour, and all others are as before
abbrev pub ColoursOne : ℕ → Point → ℕ → List Tile → List Tile → Type 0
ColoursOne slot p colour old new =
    (s x y : ℕ) → colour_at s x y new ≡ (if s == slot && x == nat_of p.x && y == nat_of p.y then Some colour else colour_at s x y old)

-- the tiles once these pixels of a slot got the colours of these words, one after the other
abbrev pub tiles_coloured : ℕ → List (ℕ × ℕ) → List ℕ → List Tile → List Tile
tiles_coloured slot [] words held = held
tiles_coloured slot (p ∷ ps) [] held = held
tiles_coloured slot (p ∷ ps) (w ∷ ws) held =
    tiles_coloured slot ps ws (written (spot_of slot (p.0 / 64, p.1 / 64)) (p.1 % 64 * 64 + p.0 % 64) (w % 2 ^ 24) held)

-- the pixels of a slot outside its first w columns and h rows have none, and all others are as before
abbrev pub CutsAway : ℕ → ℕ → ℕ → List Tile → List Tile → Type 0
CutsAway slot w h old new =
    (s x y : ℕ) → colour_at s x y new ≡ (if s == slot && not (nat_lt x w && nat_lt y h) then None else colour_at s x y old)

-- the pixels of a slot have none, and all others are as before
abbrev pub Empties : ℕ → List Tile → List Tile → Type 0
Empties slot old new = (s x y : ℕ) → colour_at s x y new ≡ (if s == slot then None else colour_at s x y old)

-- a pixel's colour, or another where nothing was read
abbrev pub colour_or : ℕ → Option ℕ → ℕ
colour_or blank None = blank
colour_or blank (Some colour) = colour

-- the colours of n pixels of a slot's row y from column x on, another where nothing was read
abbrev pub row_colours : ℕ → ℕ → ℕ → ℕ → ℕ → List Tile → List ℕ
row_colours slot blank x y n held = map (λ i. colour_or blank (colour_at slot i y held)) (span x n)
