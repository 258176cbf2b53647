-- What contracts see of a router.
use Rattle.std.specs.Prelude.{ℕ, List, Option, option_map, pos, ◌≤ℤ◌}
use Rattle.gui_num.specs.declared.Point.{Point}
use Rattle.desk_laws.specs.declared.row_id.RowId.{RowId}
use Rattle.desk_laws.specs.Scene.{Grab}

-- the grab of a row with these buttons
abbrev pub grab_with : List ℕ → Option RowId → Option Grab
grab_with buttons row = option_map (λ id. record { row = id; buttons = buttons }) row

-- a pixel that a desktop can have
pub record IsPixel (p : Point) : Type 0 where
  pub x_low : pos 0 ≤ℤ p.x
  pub x_high : p.x ≤ℤ pos 8191
  pub y_low : pos 0 ≤ℤ p.y
  pub y_high : p.y ≤ℤ pos 8191
