-- What a pane tells of its row.
use Rattle.std.specs.Prelude.{◌≡◌, ℕ, List, Some}
use Rattle.desk_laws.specs.Rows.{Row, row_with}
use Rattle.window_table.specs.declared.pane.Pane.{Pane}

-- the pane is that of a row: all but its guest, its window, its dump and its contents
pub record IsPaneOf (row : Row) (pane : Pane) : Type 0 where
  pub place : pane.place ≡ row.place
  pub mapped : pane.mapped ≡ row.mapped
  pub asked : pane.asked ≡ row.asked
  pub over : pane.over ≡ row.over
  pub parent : pane.parent ≡ row.parent
  pub transient : pane.transient ≡ row.transient
  pub title : pane.title.items ≡ row.title
  pub class : pane.class.items ≡ row.class
  pub name : pane.name.items ≡ row.name
  pub hints : pane.hints ≡ row.hints
  pub flags : pane.flags ≡ row.flags
  pub cursor : pane.cursor ≡ row.cursor
  pub docked : pane.docked ≡ row.docked

-- the pane of a window among these rows
pub record ShowsRow (window : ℕ) (rows : List Row) (pane : Pane) : Type 0 where
  pub row : Row
  pub found : row_with window rows ≡ Some row
  pub is : IsPaneOf row pane
