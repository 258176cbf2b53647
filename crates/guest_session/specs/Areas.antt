-- The part of a window that is read, and the dump that it is read from.
use Rattle.std.specs.Prelude.{◌≡◌, ℕ, ◌+◌, ◌%◌, ◌^◌, ◌≤◌, List, Option, Some, None}
use Rattle.desk_laws.specs.Rows.{DumpOf}
use Rattle.desk_laws.specs.Frames.{PortState, load_all}
use Rattle.desk_laws.specs.Effects.{Area, frame_places}
use Rattle.tile_store.specs.Tile.{Tile}
use Rattle.tile_store.specs.Contents.{tiles_coloured}
use Rattle.window_table.specs.Entries.{Entry, entry_at}
use Rattle.guest_session.specs.declared.read.Reported.{Reported}
use Rattle.guest_session.specs.RowsView.{FitsDump}

-- the area as the definitions have it
abbrev pub area_in : Reported → Area
area_in area = record { x = area.x; y = area.y; w = area.w; h = area.h }

-- the dump of an entry, if there is one
abbrev pub dump_of : Option Entry → Option DumpOf
dump_of None = None
dump_of (Some e) = e.dump

-- the dump of the entry at a slot, if there is one
abbrev pub dump_at : ℕ → List Entry → Option DumpOf
dump_at slot entries = dump_of (entry_at slot entries)

-- an area lies in a dump of this width, whose references fit it
pub record Covers (pages dump_width : ℕ) (area : Area) (dump : Option DumpOf) : Type 0 where
  pub is : DumpOf
  pub here : dump ≡ Some is
  pub width : is.width ≡ dump_width
  pub fits : FitsDump pages is.width is.height is.refs
  pub right : area.x + area.w ≤ is.width
  pub below : area.y + area.h ≤ is.height

-- one row of an area
abbrev pub row_in : Area → ℕ → Area
row_in area y = record { x = area.x; y = y; w = area.w; h = 1 }

-- one pixel
abbrev pub pixel_at : ℕ → ℕ → Area
pixel_at x y = record { x = x; y = y; w = 1; h = 1 }

-- n pixels of a row from a column on
abbrev pub run_at : (x y n : ℕ) → Area
run_at x y n = record { x = x; y = y; w = n; h = 1 }

-- the colour that a word is: its low 24 bits
abbrev pub colour_of : ℕ → ℕ
colour_of word = word % 2 ^ 24

-- the tiles once these pixels of a slot were read from a dump, one after the other
abbrev pub tiles_read : ℕ → Option DumpOf → List (ℕ × ℕ) → PortState → List Tile → List Tile
tiles_read slot dump ps port held = tiles_coloured slot ps (load_all port (frame_places dump ps)).words held

-- the frames once these pixels were read from a dump, one after the other
abbrev pub frames_read : Option DumpOf → List (ℕ × ℕ) → PortState → PortState
frames_read dump ps port = (load_all port (frame_places dump ps)).port
