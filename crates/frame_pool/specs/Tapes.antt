-- Readings, a list for each guest.
use Rattle.std.specs.Prelude.{ℕ, List}

-- a number of pages, and the readings that are left of each guest
pub record TapesView : Type 0 where
  pub pages : ℕ
  pub tapes : List (List ℕ)
