-- What a picture is seen as.
use Rattle.std.specs.Prelude.{◌≡◌, ℕ, ◌*◌, ◌≤◌, ◌^◌, ◌-◌, List, min, pos, ◌≤ℤ◌, sum_by}
use Rattle.gui_num.specs.declared.Rect.{Rect}
use Rattle.gui_num.specs.Rects.{area, right, bottom}

-- a picture: its sides in pixels, its background, its outputs, its colours row by row from the top, and how many pixels were drawn in all
pub record PictureView : Type 0 where
  pub width : ℕ
  pub height : ℕ
  pub background : ℕ
  pub outputs : List Rect
  pub pixels : List ℕ
  pub painted : ℕ

-- sides that a picture may have, and one colour for each of its pixels
pub record HasSides (width height count : ℕ) : Type 0 where
  pub wide : width ≤ 8192
  pub high : height ≤ 8192
  pub whole : count ≡ height * width

-- a rectangle that lies in a plane of this width and height
pub record LiesIn (width height : ℕ) (r : Rect) : Type 0 where
  pub left : pos 0 ≤ℤ r.x
  pub top : pos 0 ≤ℤ r.y
  pub right_edge : right r ≤ℤ pos width
  pub bottom_edge : bottom r ≤ℤ pos height

-- the pixels of outputs, each as often as outputs have it
abbrev pub shown_area : List Rect → ℕ
shown_area outputs = sum_by area outputs

-- a count that stays at 2^64 - 1
abbrev pub counted : ℕ → ℕ
counted n = min n (2 ^ 64 - 1)
