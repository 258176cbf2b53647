-- The colours of a window's pixels.
use Rattle.std.specs.Prelude.{List, [], ◌∷◌, if◌then◌else◌}
use Rattle.gui_num.specs.declared.Rect.{Rect}
use Rattle.gui_num.specs.declared.Point.{Point}
use Rattle.gui_num.specs.declared.Colour.{Colour}
use Rattle.agent_tree.specs.declared.boxes.SceneBox.{SceneBox}
use Rattle.agent_tree.specs.Frames.{clip, shows}

-- the colour of a pixel: that of the last box in preorder that shows there, or else the window's own. The last box
-- stands first
abbrev pub colour_over : Rect → Colour → Point → List SceneBox → Colour
colour_over window own p [] = own
colour_over window own p (b ∷ before) = if shows (clip window b before) p then b.colour else colour_over window own p before
