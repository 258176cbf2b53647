-- What is drawn, and how many pixels count as drawn.
use Rattle.std.specs.Prelude.{ℕ, ◌+◌, List, map, sum_by, if◌then◌else◌}
use Rattle.gui_num.specs.declared.Point.{Point}
use Rattle.gui_num.specs.Rects.{area}
use Rattle.desk_laws.specs.declared.setup.Setup.{Setup}
use Rattle.desk_laws.specs.declared.item.Item.{Item}
use Rattle.desk_laws.specs.declared.item.Item.TheVariants as items
use Rattle.desk_laws.specs.Frames.{counted}
use Rattle.desk_laws.specs.Rows.{Row}
use Rattle.desk_laws.specs.Layers.{Layers}
use Rattle.desk_laws.specs.Outputs.{is_in_output}
use Rattle.desk_laws.specs.Picture.{colour_at, pixels}

-- the colour of a pixel of the plane where an output has it, and 0 where none does
abbrev pub colour_in : Setup → List Row → Layers → Point → ℕ
colour_in setup rows layers p = if is_in_output setup.outputs p then colour_at setup rows layers p else 0

-- the colours of all pixels of the plane, row by row from the top
abbrev pub plane : Setup → List Row → Layers → List ℕ
plane setup rows layers = map (colour_in setup rows layers) (pixels 0 0 setup.width setup.height)

-- the picture's count of drawn pixels after an item: each output is drawn whole
abbrev pub painted_after : Setup → Item → ℕ → ℕ
painted_after setup items.Snap painted = counted (painted + sum_by area setup.outputs)
painted_after setup item painted = painted
