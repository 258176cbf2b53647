-- Rectangles that are cut out of others. The order of the parts is this project's own.
use Rattle.std.specs.Prelude.{ℕ, ◌+◌, Bool, true, false, ◌||◌, ℤ, pos, negsuc, ◌≤ℤ◌, List, [], ◌∷◌, ◌++◌, if◌then◌else◌}
use Rattle.std.specs.Int.{int_max, int_min}
use Rattle.gui_num.specs.declared.Rect.{Rect}
use Rattle.gui_num.specs.declared.Point.{Point}
use Rattle.gui_num.specs.Rects.{has, right, bottom, is_open, spanned}

-- whether two rectangles have a common point
abbrev pub meets : Rect → Rect → Bool
meets a b = is_open (int_max a.x b.x) (int_max a.y b.y) (int_min (right a) (right b)) (int_min (bottom a) (bottom b))

-- the rectangle from one corner up to another, where it has a point
abbrev pub part : ℤ → ℤ → ℤ → ℤ → List Rect
part x0 y0 x1 y1 = if is_open x0 y0 x1 y1 then spanned x0 y0 x1 y1 ∷ [] else []

-- what of a piece lies above the cut, in the piece's whole width
abbrev pub above : Rect → Rect → List Rect
above cut piece = part piece.x piece.y (right piece) cut.y

-- what of it lies below the cut, in the piece's whole width
abbrev pub below : Rect → Rect → List Rect
below cut piece = part piece.x (bottom cut) (right piece) (bottom piece)

-- what lies left of the cut, in the rows in between
abbrev pub left_of : Rect → Rect → List Rect
left_of cut piece = part piece.x (int_max piece.y cut.y) cut.x (int_min (bottom piece) (bottom cut))

-- what lies right of the cut, in the rows in between
abbrev pub right_of : Rect → Rect → List Rect
right_of cut piece = part (right cut) (int_max piece.y cut.y) (right piece) (int_min (bottom piece) (bottom cut))

-- what is left of a piece when a rectangle that meets it is cut out
abbrev pub parts : Rect → Rect → List Rect
parts cut piece = above cut piece ++ (below cut piece ++ (left_of cut piece ++ right_of cut piece))

-- what is left of a piece when any rectangle is cut out
abbrev pub cut_by : Rect → Rect → List Rect
cut_by cut piece = if meets piece cut then parts cut piece else piece ∷ []

-- each part of a fit rectangle is near: its edges lie where no sum of them leaves 32 bits
pub record IsNear (r : Rect) : Type 0 where
  pub x_low : negsuc 65535 ≤ℤ r.x
  pub y_low : negsuc 65535 ≤ℤ r.y
  pub x_high : right r ≤ℤ pos 98304
  pub y_high : bottom r ≤ℤ pos 98304

-- 1 where it is so
abbrev pub bit : Bool → ℕ
bit true = 1
bit false = 0

-- how many of some rectangles have a point
abbrev pub holders : List Rect → Point → ℕ
holders [] p = 0
holders (r ∷ rects) p = bit (has r p) + holders rects p

-- whether one of some rectangles has a point
abbrev pub in_rects : List Rect → Point → Bool
in_rects [] p = false
in_rects (r ∷ rects) p = has r p || in_rects rects p
