-- Where a spot stands among the tiles that are held.
use Rattle.std.specs.Prelude.{ℕ, ◌≡◌, ◌-◌, ◌<◌, ◌≤◌, Bool, true, false, List, [], ◌∷◌, length, Option, Some, None, if◌then◌else◌, slice_index_or}
use Rattle.tile_store.specs.declared.spot.Spot.{Spot}
use Rattle.tile_store.specs.Tile.{Tile}
use Rattle.tile_store.specs.Spots.{before, same}

-- the tile in front of this place comes before the spot, and the one at it does not
pub record IsPlaceFor (spot : Spot) (held : List Tile) (i : ℕ) : Type 0 where
  pub within : i ≤ length held
  pub behind : (d : Tile) → 0 < i → before (slice_index_or held (i - 1) d).spot spot ≡ true
  pub ahead : (d : Tile) → i < length held → before (slice_index_or held i d).spot spot ≡ false

-- the first tile, if it lies at the spot
abbrev pub first_at : Spot → List Tile → Option Tile
first_at spot [] = None
first_at spot (t ∷ ts) = if same t.spot spot then Some t else None

-- whether the first tile lies at the spot
abbrev pub is_first : Spot → List Tile → Bool
is_first spot [] = false
is_first spot (t ∷ ts) = same t.spot spot
