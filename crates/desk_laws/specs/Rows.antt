-- The rows of the desktop: the windows of all guests, in the order of their CREATE.
use Rattle.std.specs.Prelude.{ℕ, zero, suc, ◌+◌, ◌*◌, ◌/◌, ◌%◌, Bool, ◌&&◌, not, ◌==◌, nat_lt, List, [], ◌∷◌, map, filter, find, flat_map, Option, Some, None, if◌then◌else◌, slice_get}
use Rattle.gui_num.specs.declared.Rect.{Rect}
use Rattle.gui_num.specs.Rects.{grown}
use Rattle.gui_wire.specs.declared.limits.TheConstants.{WINDOW_FLAG_MINIMIZE}
use Rattle.desk_laws.specs.declared.row_id.RowId.{RowId}

-- a dump: its size in pixels, and the pages that its pixels lie in
pub record DumpOf : Type 0 where
  pub width : ℕ
  pub height : ℕ
  pub refs : List ℕ

-- a window
pub record Row : Type 0 where
  pub guest : ℕ
  pub window : ℕ
  pub place : Rect
  pub mapped : Bool
  pub asked : Bool
  pub over : Bool
  pub parent : ℕ
  pub transient : ℕ
  pub title : List ℕ
  pub class : List ℕ
  pub name : List ℕ
  pub hints : List ℕ
  pub flags : ℕ
  pub cursor : ℕ
  pub docked : Bool
  pub dump : Option DumpOf
  pub contents : List (Option ℕ)

-- a row's id
abbrev pub id_of : Row → RowId
id_of row = record { guest = row.guest; window = row.window }

-- whether two ids are of one row
abbrev pub same_row : RowId → RowId → Bool
same_row a b = a.guest == b.guest && a.window == b.window

-- the row of a guest's window is this one
abbrev pub is_row : ℕ → ℕ → Row → Bool
is_row guest window row = row.guest == guest && row.window == window

-- the rows of one guest
abbrev pub mine : ℕ → List Row → List Row
mine guest rows = filter (λ row. row.guest == guest) rows

-- the row of a window among the rows of its guest
abbrev pub row_with : ℕ → List Row → Option Row
row_with window rows = find (λ row. row.window == window) rows

-- the row with an id
abbrev pub row_at : RowId → List Row → Option Row
row_at id rows = find (λ row. is_row id.guest id.window row) rows

-- whether a flag, a power of two, is set
abbrev pub has_flag : ℕ → ℕ → Bool
has_flag flag flags = flags / flag % 2 == 1

-- hidden: the flag MINIMIZE is set
abbrev pub is_hidden : Row → Bool
is_hidden row = has_flag WINDOW_FLAG_MINIMIZE row.flags

-- shown: mapped and not hidden
abbrev pub is_shown : Row → Bool
is_shown row = row.mapped && not (is_hidden row)

-- the place with its border
abbrev pub outer : ℕ → Row → Rect
outer border row = grown row.place border

-- n numbers from a on
abbrev pub span : ℕ → ℕ → List ℕ
span a zero = []
span a (suc n) = a ∷ span (suc a) n

-- the columns and rows from (x, y), row by row
abbrev pub grid : ℕ → ℕ → ℕ → ℕ → List (ℕ × ℕ)
grid x y w h = flat_map (λ j. map (λ i. (i, j)) (span x w)) (span y h)

-- the content of a pixel, if something was read there
abbrev pub content_of : Option (Option ℕ) → Option ℕ
content_of None = None
content_of (Some content) = content

-- what was last read at a pixel of a row, if something was
abbrev pub content_at : Row → ℕ → ℕ → Option ℕ
content_at row x y =
    if nat_lt x row.place.w && nat_lt y row.place.h then content_of (slice_get row.contents (y * row.place.w + x)) else None

-- the contents at another size: what is outside is forgotten, what is new has none
abbrev pub contents_at_size : Row → ℕ → ℕ → List (Option ℕ)
contents_at_size row w h = map (λ p. content_at row p.0 p.1) (grid 0 0 w h)

-- the row at another place
abbrev pub placed_at : Rect → Row → Row
placed_at place row = record row { place = place; contents = contents_at_size row place.w place.h }
