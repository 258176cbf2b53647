-- What reading an area of a window does to the tiles that are held.
use Rattle.std.specs.Prelude.{◌≡◌, ℕ, ◌-◌, Bool, true, false, List, length, Option, Some, None, Result, Ok, Err}
use Rattle.gui_num.specs.declared.Rect.{Rect}
use Rattle.desk_laws.specs.declared.cause.Cause.{Cause}
use Rattle.desk_laws.specs.declared.cause.Cause.TheVariants.{PixelBudget}
use Rattle.desk_laws.specs.Rows.{DumpOf}
use Rattle.desk_laws.specs.Frames.{PortState}
use Rattle.desk_laws.specs.Effects.{Area, points, no_area, side_within}
use Rattle.window_table.specs.declared.pane.DumpSize.{DumpSize}
use Rattle.tile_store.specs.Tile.{Tile}
use Rattle.tile_store.specs.Held.{TilesView, opened, missing, tiles_met}
use Rattle.tile_store.specs.Contents.{tiles_coloured}
use Rattle.guest_session.specs.Reading.{rect_of, drawn_by, area_loads}

-- the area of an SHMIMAGE clipped to a dump of this size and to a place
abbrev pub clipped_to : Rect → Option DumpSize → ℕ → ℕ → ℕ → ℕ → Area
clipped_to place None x y w h = no_area
clipped_to place (Some size) x y w h =
    record { x = x; y = y; w = side_within x w size.width place.w; h = side_within y h size.height place.h }

-- the width of a dump, 0 where there is none
abbrev pub width_in : Option DumpSize → ℕ
width_in None = 0
width_in (Some size) = size.width

-- how many tiles an area of a slot would newly take
abbrev pub needed : ℕ → Area → List Tile → ℕ
needed slot area held = missing slot (tiles_met (rect_of area)) held

-- the tiles once an area of a slot has tiles and its pixels got the colours of these words
abbrev pub read_into : ℕ → Area → List ℕ → List Tile → List Tile
read_into slot area words held = tiles_coloured slot (points area) words (opened slot (tiles_met (rect_of area)) held)

-- too many tiles would be taken: nothing was read
pub record ReadsNoTiles (port port' : PortState) (old new : TilesView) (result : Result (Option Rect) Cause) (need : ℕ) : Type 0 where
  pub answer : result ≡ Err (PixelBudget need (old.number - length old.held))
  pub tiles : new ≡ old
  pub unread : port' ≡ port

-- an area of a slot was read from the frames
pub record ReadsAreaTiles (port port' : PortState) (old new : TilesView) (result : Result (Option Rect) Cause) (slot : ℕ) (dump : Option DumpOf) (area : Area) : Type 0 where
  pub answer : result ≡ Ok (drawn_by area)
  pub tiles : new ≡ record old { held = read_into slot area (area_loads port dump area).words old.held }
  pub frames : port' ≡ (area_loads port dump area).port

-- what became of an area of a slot, by whether it would take too many tiles
abbrev pub ReadsTiles : PortState → PortState → TilesView → TilesView → Result (Option Rect) Cause → ℕ → Option DumpOf → Area → Bool → Type 0
ReadsTiles port port' old new result slot dump area true = ReadsNoTiles port port' old new result (needed slot area old.held)
ReadsTiles port port' old new result slot dump area false = ReadsAreaTiles port port' old new result slot dump area
