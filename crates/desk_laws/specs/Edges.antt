-- Contents of two windows never meet in a picture.
use Rattle.std.specs.Prelude.{◌≡◌, ℕ, ◌≤◌, List, Option, Some, pos, ◌+ℤ◌, ◌≤ℤ◌}
use Rattle.gui_num.specs.declared.Point.{Point}
use Rattle.desk_laws.specs.declared.row_id.RowId.{RowId}
use Rattle.desk_laws.specs.Rows.{Row}
use Rattle.desk_laws.specs.Layers.{Layers, topmost}
use Rattle.desk_laws.specs.Settle.{content_owner}

-- two pixels that touch sideways, upright or diagonally, or are one
pub record Touch (p q : Point) : Type 0 where
  pub left : p.x ≤ℤ (q.x +ℤ pos 1)
  pub right : q.x ≤ℤ (p.x +ℤ pos 1)
  pub above : p.y ≤ℤ (q.y +ℤ pos 1)
  pub below : q.y ≤ℤ (p.y +ℤ pos 1)

-- the window whose content a pixel of the picture shows: none in a ring, and on the background
abbrev pub shows_content_of : ℕ → List Row → Layers → Point → Option RowId
shows_content_of border rows layers p = content_owner (topmost border rows layers p) p

-- pixels that touch never show the contents of two windows
abbrev pub EdgesStayApart : ℕ → List Row → Layers → Type 0
EdgesStayApart border rows layers =
    (p q : Point) (a b : RowId) → Touch p q → shows_content_of border rows layers p ≡ Some a → shows_content_of border rows layers q ≡ Some b → a ≡ b

-- this holds of the picture of any windows, in any order, with a border of a pixel or more
abbrev pub PicturesKeepEdges : Type 0
PicturesKeepEdges = (border : ℕ) (rows : List Row) (layers : Layers) → 1 ≤ border → EdgesStayApart border rows layers
