-- What a change of one window does to its pane and to its row.
use Rattle.std.specs.Prelude.{ℕ, ℤ, pos, negsuc, ◌≤◌, ◌≤ℤ◌, true, false, List, length}
use Rattle.gui_num.specs.declared.Rect.{Rect}
use Rattle.desk_laws.specs.Rows.{Row, placed_at}
use Rattle.gui_wire.specs.declared.limits.TheConstants.{WINDOW_FLAG_MINIMIZE}
use Rattle.desk_laws.specs.Effects.{text_of, flags_without, unmapped_row}
use Rattle.desk_laws.specs.Ranges.{IsPlace}
use Rattle.window_table.specs.declared.pane.Pane.{Pane}
use Rattle.tile_store.specs.Tile.{Tile}
use Rattle.tile_store.specs.Held.{swept}
use Rattle.tile_store.specs.Contents.{KeepsAll, CutsAway}
use Rattle.guest_session.specs.declared.edit.Edit.{Edit}
use Rattle.guest_session.specs.declared.edit.Edit.TheVariants.{Map, Unmap, Configure, Title, Dock, Hints, Flags, Fill, Class, Cursor}

-- a place with its corner elsewhere
abbrev pub moved_to : ℤ → ℤ → Rect → Rect
moved_to x y place = record place { x = x; y = y }

-- the pane after a change
abbrev pub pane_edited : Edit → Pane → Pane
pane_edited (Map asked transient x y over) pane =
    record pane { place = moved_to x y pane.place; mapped = true; asked = asked; over = over; transient = transient }
pane_edited Unmap pane = record pane { mapped = false; over = false; flags = flags_without pane.flags WINDOW_FLAG_MINIMIZE }
pane_edited (Configure place asked over) pane = record pane { place = place; asked = asked; over = over }
pane_edited (Title text) pane = record pane { title = record { items = text_of text.now } }
pane_edited Dock pane = record pane { docked = true }
pane_edited (Hints hints) pane = record pane { hints = hints }
pane_edited (Flags flags) pane = record pane { flags = flags }
pane_edited (Fill flags place) pane = record pane { flags = flags; place = place }
pane_edited (Class class name) pane =
    record pane { class = record { items = text_of class.now }; name = record { items = text_of name.now } }
pane_edited (Cursor cursor) pane = record pane { cursor = cursor }

-- the tiles after a change of the window at a slot: what lies outside its new size is forgotten
abbrev pub tiles_edited : Edit → ℕ → List Tile → List Tile
tiles_edited (Configure place asked over) slot held = swept slot place.w place.h held
tiles_edited (Fill flags place) slot held = swept slot place.w place.h held
tiles_edited edit slot held = held

-- what a change of the window at a slot does to all pixels
abbrev pub EditsPixels : Edit → ℕ → List Tile → List Tile → Type 0
EditsPixels (Configure place asked over) slot old new = CutsAway slot place.w place.h old new
EditsPixels (Fill flags place) slot old new = CutsAway slot place.w place.h old new
EditsPixels edit slot old new = KeepsAll old new

-- the row after a change
abbrev pub row_edited : Edit → Row → Row
row_edited (Map asked transient x y over) row =
    record row { place = moved_to x y row.place; mapped = true; asked = asked; over = over; transient = transient }
row_edited Unmap row = unmapped_row row
row_edited (Configure place asked over) row = record (placed_at place row) { asked = asked; over = over }
row_edited (Title text) row = record row { title = text_of text.now }
row_edited Dock row = record row { docked = true }
row_edited (Hints hints) row = record row { hints = hints }
row_edited (Flags flags) row = record row { flags = flags }
row_edited (Fill flags place) row = placed_at place (record row { flags = flags })
row_edited (Class class name) row = record row { class = text_of class.now; name = text_of name.now }
row_edited (Cursor cursor) row = record row { cursor = cursor }

-- a corner in range: from -32768 to 32767
pub record IsCorner (x y : ℤ) : Type 0 where
  pub x_low : negsuc 32767 ≤ℤ x
  pub x_high : x ≤ℤ pos 32767
  pub y_low : negsuc 32767 ≤ℤ y
  pub y_high : y ≤ℤ pos 32767

-- a change that fits a pane: a place in range, and texts that have room
abbrev pub FitsEdit : Edit → Type 0
FitsEdit (Map asked transient x y over) = IsCorner x y
FitsEdit (Configure place asked over) = IsPlace place
FitsEdit (Title text) = length text.now ≤ 128
FitsEdit (Fill flags place) = IsPlace place
FitsEdit (Class class name) = (length class.now ≤ 64) × (length name.now ≤ 64)
FitsEdit edit = Unit {0}
