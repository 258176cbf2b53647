-- What a desktop shows of its rows.
use Rattle.std.specs.Prelude.{◌≡◌, ℕ, Bool, false, ◌&&◌, Option, Some, None, option_map}
use Rattle.gui_num.specs.declared.Point.{Point}
use Rattle.gui_num.specs.declared.Rect.{Rect}
use Rattle.gui_num.specs.Rects.{has}
use Rattle.desk_laws.specs.declared.row_id.RowId.{RowId}
use Rattle.desk_laws.specs.Rows.{Row, row_at, is_shown, outer}
use Rattle.desk_laws.specs.Scene.{Scene}

-- where a row is, without its border and with it, whether it is shown, and whether it is in the override layer
pub record Spot : Type 0 where
  pub place : Rect
  pub outer : Rect
  pub shown : Bool
  pub over : Bool

-- the spot of a row, with a border of so many pixels
abbrev pub spot_of : ℕ → Row → Spot
spot_of border row = record { place = row.place; outer = outer border row; shown = is_shown row; over = row.over }

-- the spots are those of the scene's rows, and there is no other
abbrev pub Shows : ℕ → (RowId → Option Spot) → Scene → Type 0
Shows border spots scene = (id : RowId) → spots id ≡ option_map (spot_of border) (row_at id scene.rows)

-- ---- what is asked of a row that may not be there

abbrev pub is_shown_at : Option Spot → Bool
is_shown_at None = false
is_shown_at (Some spot) = spot.shown

abbrev pub is_over_at : Option Spot → Bool
is_over_at None = false
is_over_at (Some spot) = spot.over

-- its content has the pixel
abbrev pub has_content : Point → Option Spot → Bool
has_content p None = false
has_content p (Some spot) = has spot.place p

-- it is shown, and its content or its border has the pixel
abbrev pub is_under : Point → Option Spot → Bool
is_under p None = false
is_under p (Some spot) = spot.shown && has spot.outer p
