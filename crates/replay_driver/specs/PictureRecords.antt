-- The Picture records of the outputs of a plane, from the colours of its pixels.
use Rattle.std.specs.Prelude.{ℕ, ◌*◌, List, ◌++◌, take, drop}
use Rattle.std.specs.List.{flat_map}
use Rattle.gui_num.specs.declared.Rect.{Rect}
use Rattle.gui_num.specs.Rects.{nat_of}
use Rattle.desk_laws.specs.Rows.{span}
use Rattle.compositor.specs.PictureView.{PictureView}
use Rattle.record_format.specs.OutputGrammar.{rgb, picture_head}

-- an output's part of a row of the plane
abbrev pub part_of_row : PictureView → Rect → ℕ → List ℕ
part_of_row plane output y = take output.w (drop (nat_of output.x) (take plane.width (drop (y * plane.width) plane.pixels)))

-- the colours of an output, row by row from its top
abbrev pub colours_of : PictureView → Rect → List ℕ
colours_of plane output = flat_map (part_of_row plane output) (span (nat_of output.y) output.h)

-- how the Picture record of an output begins
abbrev pub head_of : Rect → List ℕ
head_of output = picture_head output.w output.h

-- the Picture record of an output: its head, and three bytes for each pixel
abbrev pub output_record : PictureView → Rect → List ℕ
output_record plane output = head_of output ++ flat_map rgb (colours_of plane output)

-- the Picture records of all outputs in their order
abbrev pub picture_records : PictureView → List ℕ
picture_records plane = flat_map (output_record plane) plane.outputs
