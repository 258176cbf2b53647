-- Places and sizes brought into range.
use Rattle.std.specs.Prelude.{ℕ, ◌≤◌, min, max, ℤ, pos, negsuc, ◌≤ℤ◌}
use Rattle.std.specs.Int.{w32, cast_signed, int_min, int_max}
use Rattle.gui_num.specs.declared.Rect.{Rect}
use Rattle.gui_wire.specs.declared.limits.TheConstants.{MAX_WINDOW_WIDTH, MAX_WINDOW_HEIGHT}

-- a place from -32768 to 32767
abbrev pub place_in_range : ℤ → ℤ
place_in_range z = int_max (negsuc 32767) (int_min (pos 32767) z)

-- a width from 1 to the greatest one
abbrev pub width_in_range : ℕ → ℕ
width_in_range n = max 1 (min n MAX_WINDOW_WIDTH)

-- a height from 1 to the greatest one
abbrev pub height_in_range : ℕ → ℕ
height_in_range n = max 1 (min n MAX_WINDOW_HEIGHT)

-- the rectangle of four numbers as they stand in a body
abbrev pub rect_in_range : ℕ → ℕ → ℕ → ℕ → Rect
rect_in_range x y width height = record {
  x = place_in_range (cast_signed w32 x);
  y = place_in_range (cast_signed w32 y);
  w = width_in_range width;
  h = height_in_range height;
}

-- the size that a signed number asks for: 1 where it is below 1
abbrev pub size_of : ℤ → ℕ
size_of (pos n) = n
size_of (negsuc n) = 0

-- a place in range: from -32768 to 32767, and a size from 1 by 1 to that of the greatest window
pub record IsPlace (place : Rect) : Type 0 where
  pub x_low : negsuc 32767 ≤ℤ place.x
  pub x_high : place.x ≤ℤ pos 32767
  pub y_low : negsuc 32767 ≤ℤ place.y
  pub y_high : place.y ≤ℤ pos 32767
  pub w_low : 1 ≤ place.w
  pub w_high : place.w ≤ MAX_WINDOW_WIDTH
  pub h_low : 1 ≤ place.h
  pub h_high : place.h ≤ MAX_WINDOW_HEIGHT
