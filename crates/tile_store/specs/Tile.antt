-- A tile that is held.
use Rattle.std.specs.Prelude.{ℕ, List, Option}
use Rattle.tile_store.specs.declared.spot.Spot.{Spot}

-- where it lies, and its pixels
pub record Tile : Type 0 where
  pub spot : Spot
  pub square : List (Option ℕ)
