-- A change of one box.
use Rattle.std.specs.Prelude.{ℕ, List, Option, Some, None, if◌then◌else◌}
use Rattle.std.specs.List.{list_any}
use Rattle.agent_tree.specs.declared.boxes.SceneBox.{SceneBox}
use Rattle.agent_tree.specs.declared.edits.BoxEdit.{BoxEdit}
use Rattle.agent_tree.specs.declared.edits.BoxEdit.TheVariants.{Place, Fill}
use Rattle.agent_tree.specs.declared.fault.SceneFault.{SceneFault}
use Rattle.agent_tree.specs.declared.fault.SceneFault.TheVariants.{Unknown}
use Rattle.agent_tree.specs.Frames.{IsPlace}
use Rattle.agent_tree.specs.Lists.{at_first}
use Rattle.agent_tree.specs.Trees.{is_box, clip_of}
use Rattle.agent_tree.specs.Views.{TopView}
use Rattle.agent_tree.specs.Scenes.{changed, whole, holds}

-- the box once it is changed
abbrev pub new_box : BoxEdit → SceneBox → SceneBox
new_box (Place r) b = record b { place = r }
new_box (Fill c) b = record b { colour = c }

-- another place is in its range
abbrev pub IsEdit : BoxEdit → Type 0
IsEdit (Place r) = IsPlace r
IsEdit (Fill c) = Unit {0}

-- the window once its box with an id is changed
abbrev pub box_edited : BoxEdit → ℕ → TopView → TopView
box_edited edit id t = changed (at_first (is_box id) (new_box edit) t.boxes) (clip_of (whole t.place) id t.boxes) (clip_of (whole t.place) id (at_first (is_box id) (new_box edit) t.boxes)) t

-- of a call on a box
abbrev pub held_fault : ℕ → List TopView → Option SceneFault
held_fault id tops = if list_any (holds id) tops then None else Some Unknown
