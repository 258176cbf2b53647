-- The rows of one guest: the entries of a table with what was read into tiles.
use Rattle.std.specs.Prelude.{ℕ, ◌≡◌, ◌≤◌, ◌<◌, Bool, true, false, ◌&&◌, nat_lt, List, map, length, Option, Some, None, is_some}
use Rattle.std.specs.List.{All, list_all}
use Rattle.gui_wire.specs.declared.limits.TheConstants.{MAX_WINDOW_HEIGHT, MAX_WINDOW_WIDTH}
use Rattle.desk_laws.specs.declared.limits.TheConstants.{MAX_PAGES}
use Rattle.desk_laws.specs.Rows.{Row, DumpOf, grid}
use Rattle.desk_laws.specs.Effects.{Change, Replaced, changed, pages_for}
use Rattle.desk_laws.specs.Ranges.{IsPlace}
use Rattle.window_table.specs.Entries.{Entry, TableView, entry_at, row_of}
use Rattle.tile_store.specs.Tile.{Tile}
use Rattle.tile_store.specs.Squares.{has_pixel}
use Rattle.tile_store.specs.Held.{TilesView, colour_at}

-- a guest's number, how many pages its frames have, how many tiles its windows may take, and its rows
-- in the order of their CREATE
pub record RowsView : Type 0 where
  pub guest : ℕ
  pub pages : ℕ
  pub tiles : ℕ
  pub rows : List Row

-- what was read of a slot's pixels in the first w columns and h rows
abbrev pub contents_in : ℕ → ℕ → ℕ → List Tile → List (Option ℕ)
contents_in slot w h held = map (λ p. colour_at slot p.0 p.1 held) (grid 0 0 w h)

-- an entry as a row of this guest, with what was read of its pixels
abbrev pub own_row : ℕ → List Tile → Entry → Row
own_row guest held e = row_of guest (contents_in e.slot e.pane.place.w e.pane.place.h held) e

-- the entries as rows of this guest
abbrev pub own_rows : ℕ → List Tile → List Entry → List Row
own_rows guest held entries = map (own_row guest held) entries

-- the rows of a table and of what was read
abbrev pub viewed : ℕ → TableView → TilesView → RowsView
viewed guest table tiles = record {
  guest = guest;
  pages = table.pages;
  tiles = tiles.number;
  rows = own_rows guest tiles.held table.entries;
}

-- the references of a dump of this size, in a guest with so many pages
pub record FitsDump (pages width height : ℕ) (refs : List ℕ) : Type 0 where
  pub wide : width ≤ MAX_WINDOW_WIDTH
  pub high : height ≤ MAX_WINDOW_HEIGHT
  pub count : length refs ≡ pages_for width height
  pub below : All (λ ref. ref < pages) refs

-- a dump, if there is one, fits so many pages
abbrev pub HasFitDump : ℕ → Option DumpOf → Type 0
HasFitDump pages None = Unit {0}
HasFitDump pages (Some dump) = FitsDump pages dump.width dump.height dump.refs

-- whether a tile is of a slot that an entry has
abbrev pub is_owned : List Entry → Tile → Bool
is_owned entries t = is_some (entry_at t.spot.slot entries)

-- no pixel outside an entry's size has a colour
abbrev pub StaysInside : List Tile → Entry → Type 0
StaysInside held e = (x y : ℕ) → (nat_lt x e.pane.place.w && nat_lt y e.pane.place.h) ≡ false → colour_at e.slot x y held ≡ None

-- the number of pages is in range, the places are, and the dumps fit; each tile that is held is of an
-- entry's slot and has a pixel, and what was read lies inside its window
pub record AreKept (table : TableView) (held : List Tile) : Type 0 where
  pub pages : table.pages ≤ MAX_PAGES
  pub placed : All (λ e. IsPlace e.pane.place) table.entries
  pub dumps : All (λ e. HasFitDump table.pages e.dump) table.entries
  pub owned : list_all (is_owned table.entries) held ≡ true
  pub inside : All (StaysInside held) table.entries
  pub left : list_all (λ t. has_pixel t.square) held ≡ true

-- the rows after a change of them
abbrev pub with_change : Change → RowsView → RowsView
with_change change rows = record rows { rows = changed rows.guest change rows.rows }

-- the rows with another one in the place of that of the same window
abbrev pub with_row : Row → RowsView → RowsView
with_row row rows = with_change (Replaced row) rows

-- a row with a dump of this size and these references
abbrev pub with_dump : ℕ → ℕ → List ℕ → Row → Row
with_dump width height refs row = record row { dump = Some (record { width = width; height = height; refs = refs }) }
