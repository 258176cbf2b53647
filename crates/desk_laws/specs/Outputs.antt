-- The outputs: the rectangles of the plane that pictures are taken of. They are this project's own.
use Rattle.std.specs.Prelude.{ℕ, ◌*◌, max, Bool, ◌&&◌, List, [], ◌∷◌, Option, find, int_le, slice_get}
use Rattle.std.specs.List.{list_any}
use Rattle.gui_num.specs.declared.Rect.{Rect}
use Rattle.gui_num.specs.declared.Point.{Point}
use Rattle.gui_num.specs.Rects.{has, area, right, bottom}
use Rattle.desk_laws.specs.Layers.{or_else}

-- the upper left corner of a rectangle
abbrev pub corner : Rect → Point
corner r = record { x = r.x; y = r.y }

-- the output that has a rectangle's upper left corner, or the first one where none has it
abbrev pub output_of : List Rect → Rect → Option Rect
output_of outputs r = or_else (find (λ output. has output (corner r)) outputs) (slice_get outputs 0)

-- whether some output has the pixel
abbrev pub is_in_output : List Rect → Point → Bool
is_in_output outputs p = list_any (λ output. has output p) outputs

-- whether each pixel of a rectangle is in another, and its edges too
abbrev pub lies_in : Rect → Rect → Bool
lies_in whole r = (int_le whole.x r.x && int_le whole.y r.y) && (int_le (right r) (right whole) && int_le (bottom r) (bottom whole))

-- the pixels of the largest output
abbrev pub largest : List Rect → ℕ
largest [] = 0
largest (output ∷ outputs) = max (area output) (largest outputs)
