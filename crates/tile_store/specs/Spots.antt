-- Where a tile lies, and the order of tiles.
use Rattle.std.specs.Prelude.{ℕ, ◌/◌, ◌*◌, ◌+◌, ◌%◌, Bool, ◌&&◌, ◌||◌, ◌==◌, nat_lt}
use Rattle.desk_laws.specs.declared.limits.TheConstants.{TILE_SIDE}
use Rattle.gui_num.specs.declared.Point.{Point}
use Rattle.gui_num.specs.Rects.{nat_of}
use Rattle.tile_store.specs.declared.spot.Spot.{Spot}

-- whether a spot comes before another: by slot, then by row, then by column
abbrev pub before : Spot → Spot → Bool
before a b = nat_lt a.slot b.slot || (a.slot == b.slot && (nat_lt a.row b.row || (a.row == b.row && nat_lt a.column b.column)))

-- whether two spots are the same
abbrev pub same : Spot → Spot → Bool
same a b = a.slot == b.slot && a.row == b.row && a.column == b.column

-- the spot of a slot's tile at a column and a row
abbrev pub spot_of : ℕ → ℕ × ℕ → Spot
spot_of slot place = record { slot = slot; column = place.0; row = place.1 }

-- the spot in which a slot's pixel lies
abbrev pub spot_at : ℕ → Point → Spot
spot_at slot p = record { slot = slot; column = nat_of p.x / TILE_SIDE; row = nat_of p.y / TILE_SIDE }

-- which of its tile's pixels a pixel is, counted row by row
abbrev pub pixel_of : Point → ℕ
pixel_of p = nat_of p.y % TILE_SIDE * TILE_SIDE + nat_of p.x % TILE_SIDE
