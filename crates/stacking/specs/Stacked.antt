-- What contracts see of a stacking.
use Rattle.std.specs.Prelude.{ℕ}
use Rattle.desk_laws.specs.Layers.{Layers}

-- the lists, and how many rows there is room for
pub record Stacked : Type 0 where
  pub layers : Layers
  pub rows : ℕ
