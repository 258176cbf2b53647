-- What is read of a window's frame.
use Rattle.std.specs.Prelude.{◌≡◌, ℕ, ◌||◌, ◌==◌, Option, Some, None, if◌then◌else◌, pos, Result, Ok, Err}
use Rattle.gui_num.specs.declared.Rect.{Rect}
use Rattle.desk_laws.specs.declared.cause.Cause.{Cause}
use Rattle.desk_laws.specs.Rows.{Row, DumpOf, content_at}
use Rattle.desk_laws.specs.Frames.{PortState, Loads, load_all}
use Rattle.desk_laws.specs.Effects.{Area, Verdict, Ends, Greets, Goes, Reads, points, frame_places, drawn_row}
use Rattle.guest_session.specs.RowsView.{RowsView, with_row}

-- an area as a rectangle of the window, from its upper left corner
abbrev pub rect_of : Area → Rect
rect_of area = record { x = pos area.x; y = pos area.y; w = area.w; h = area.h }

-- what a turn answers of the area that was read: nothing where it has no pixel
abbrev pub drawn_by : Area → Option Rect
drawn_by area = if area.w == 0 || area.h == 0 then None else Some (rect_of area)

-- the words of an area's pixels, each loaded once, and the frames after that
abbrev pub area_loads : PortState → Option DumpOf → Area → Loads
area_loads port dump area = load_all port (frame_places dump (points area))

-- what was last read at a pixel of a window, if there is the window and something was
abbrev pub content_in : Option Row → ℕ → ℕ → Option ℕ
content_in None x y = None
content_in (Some row) x y = content_at row x y

-- nothing was read, since too many tiles would be taken
pub record ReadsNothing (port port' : PortState) (old new : RowsView) (result : Result (Option Rect) Cause) (cause : Cause) : Type 0 where
  pub answer : result ≡ Err cause
  pub rows : new ≡ old
  pub unread : port' ≡ port

-- an area of a row was read, each pixel once
pub record ReadsArea (port port' : PortState) (old new : RowsView) (result : Result (Option Rect) Cause) (row : Row) (area : Area) : Type 0 where
  pub answer : result ≡ Ok (drawn_by area)
  pub rows : new ≡ with_row (drawn_row row area (area_loads port row.dump area).words) old
  pub frames : port' ≡ (area_loads port row.dump area).port

-- what became of an SHMIMAGE with this verdict
abbrev pub ReadsAs : PortState → PortState → RowsView → RowsView → Result (Option Rect) Cause → Verdict → Type 0
ReadsAs port port' old new result (Ends cause) = ReadsNothing port port' old new result cause
ReadsAs port port' old new result (Greets minor answers) = ⊥
ReadsAs port port' old new result (Goes change answers) = ⊥
ReadsAs port port' old new result (Reads row area) = ReadsArea port port' old new result row area
