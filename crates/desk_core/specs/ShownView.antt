-- What a shown window is seen as.
use Rattle.std.specs.Prelude.{◌≡◌, true}
use Rattle.gui_num.specs.declared.Point.{Point}
use Rattle.gui_num.specs.Rects.{IsFit, has}
use Rattle.compositor.specs.declared.panes.PaneView.{PaneView}
use Rattle.desk_laws.specs.declared.row_id.RowId.{RowId}

-- a shown window: its id, and its view on the desktop
pub record ShownView : Type 0 where
  pub id : RowId
  pub view : PaneView

-- both rectangles of a view are fit, and its content lies in the outer one
pub record CanBePainted (view : PaneView) : Type 0 where
  pub outer : IsFit view.outer
  pub content : IsFit view.content
  pub inside : (p : Point) → has view.content p ≡ true → has view.outer p ≡ true
