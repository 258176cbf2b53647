-- What contracts see of the scene.
use Rattle.std.specs.Prelude.{ℕ, List}
use Rattle.gui_num.specs.declared.Rect.{Rect}
use Rattle.gui_num.specs.declared.Colour.{Colour}
use Rattle.agent_tree.specs.declared.boxes.SceneBox.{SceneBox}

-- a top window: its place on the desktop, its boxes in preorder, and the pixels of it that changed, as rectangles
pub record TopView : Type 0 where
  pub id : ℕ
  pub place : Rect
  pub colour : Colour
  pub boxes : List SceneBox
  pub damage : List Rect

-- the top windows, and the ids of those that are shown, in the order in which they became shown
pub record SceneView : Type 0 where
  pub tops : List TopView
  pub shown : List ℕ
