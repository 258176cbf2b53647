-- The rings around windows: what of a row of pixels is content.
use Rattle.std.specs.Prelude.{Bool, ◌&&◌, ℤ, int_le, int_lt, nat_lt, Option, Some, None, if◌then◌else◌}
use Rattle.gui_num.specs.declared.Rect.{Rect}
use Rattle.gui_num.specs.Rects.{has, on_side, right}

-- whether the rectangle has the pixel in column x of row y
abbrev pub has_at : Rect → ℤ → ℤ → Bool
has_at r x y = has r (record { x = x; y = y })

-- whether a column lies from the first one on and before the past-last one
abbrev pub among : ℤ × ℤ → ℤ → Bool
among columns x = int_le columns.0 x && int_lt x columns.1

-- the first and the past-last column of the rectangle in row y, where it has a pixel there
abbrev pub columns_of : Rect → ℤ → Option (ℤ × ℤ)
columns_of r y = if nat_lt 0 r.w && on_side r.y r.h y then Some (r.x, right r) else None
