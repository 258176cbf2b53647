-- The shown windows of a desk from the topmost one down, as they are painted.
use Rattle.std.specs.Prelude.{◌&&◌, not, Bool, ℕ, List, ◌++◌, filter_map, reverse, option_map, Option, Some, None, if◌then◌else◌, slice_index_or}
use Rattle.gui_num.specs.declared.Colour.{Colour}
use Rattle.gui_wire.specs.declared.limits.TheConstants.{WINDOW_FLAG_MINIMIZE}
use Rattle.gui_num.specs.declared.Rect.{Rect}
use Rattle.gui_num.specs.Rects.{grown}
use Rattle.compositor.specs.Composed.{Pane}
use Rattle.desk_laws.specs.declared.row_id.RowId.{RowId}
use Rattle.desk_laws.specs.Layers.{Layers}
use Rattle.desk_laws.specs.Rows.{Row, has_flag, is_shown, row_with}
use Rattle.guest_session.specs.Reading.{content_in}
use Rattle.guest_session.specs.SessionView.{SessionView}
use Rattle.window_table.specs.declared.pane.Pane.{Pane as Window}
use Rattle.desk_core.specs.ShownView.{ShownView}
use Rattle.desk_core.specs.WindowsView.{no_session}

-- whether a window is shown: mapped, and its flag MINIMIZE not set
abbrev pub is_shown_window : Window → Bool
is_shown_window window = window.mapped && not (has_flag WINDOW_FLAG_MINIMIZE window.flags)

-- the windows of a guest
abbrev pub rows_in : List SessionView → ℕ → List Row
rows_in sessions guest = (slice_index_or sessions guest no_session).rows

-- a window at a place, with a border of so many pixels in this colour
abbrev pub bordered : ℕ → Colour → RowId → Rect → ShownView
bordered border label id place =
    record { id = id; view = record { outer = grown place border; content = place; colour = label } }

-- the row with an id, where it is shown
abbrev pub shown_row : ℕ → Colour → RowId → Option Row → Option ShownView
shown_row border label id None = None
shown_row border label id (Some row) = if is_shown row then Some (bordered border label id row.place) else None

-- the label colour of a guest
abbrev pub label_in : List Colour → ℕ → Colour
label_in labels guest = slice_index_or labels guest (record { 0 = 0 })

-- the window with an id, where it is shown, with its border in the label colour of its guest
abbrev pub shown_with : ℕ → List Colour → List SessionView → RowId → Option ShownView
shown_with border labels sessions id = shown_row border (label_in labels id.guest) id (row_with id.window (rows_in sessions id.guest))

-- the shown windows of the stack, from the topmost one down
abbrev pub shown_of : ℕ → List Colour → List SessionView → Layers → List ShownView
shown_of border labels sessions layers = filter_map (shown_with border labels sessions) (reverse (layers.normal ++ layers.over))

-- what was last read of a window by column and row
abbrev pub content_of : List SessionView → RowId → ℕ → ℕ → Option ℕ
content_of sessions id x y = content_in (row_with id.window (rows_in sessions id.guest)) x y

-- a shown window as it is painted: its view, and what was last read of it by column and row
abbrev pub pane_of : List SessionView → ShownView → Pane
pane_of sessions shown = record {
  view = shown.view;
  content = λ x y. option_map (λ c. record { 0 = c }) (content_of sessions shown.id x y);
}
