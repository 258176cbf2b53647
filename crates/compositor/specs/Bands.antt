-- The panes that some rows of a picture meet.
use Rattle.std.specs.Prelude.{◌≡◌, ℕ, ◌+◌, ◌*◌, ◌<◌, ◌≤◌, Bool, ◌&&◌, List, [], All, filter_map, slice_get, slice_index, slice_index_or, pos, int_lt, if◌then◌else◌}
use Rattle.gui_num.specs.declared.Rect.{Rect}
use Rattle.gui_num.specs.Rects.{bottom}
use Rattle.region_clip.specs.Spans.{RowOf, in_spans}
use Rattle.compositor.specs.Composed.{Pane, topmost, composed, at_pixel}

-- the panes with these numbers, which count from the topmost one
abbrev pub numbered : List Pane → List ℕ → List Pane
numbered panes ks = filter_map (slice_get panes) ks

-- whether a rectangle has one of the rows from first on and before past
abbrev pub meets_rows : Rect → ℕ → ℕ → Bool
meets_rows r first past = int_lt r.y (pos past) && int_lt (pos first) (bottom r)

-- in the rows from first on and before past some panes show what others show
abbrev pub ShowSame : ℕ → ℕ → List Pane → List Pane → Type 0
ShowSame first past some panes = (x y : ℕ) → first ≤ y → y < past → topmost some (at_pixel x y) ≡ topmost panes (at_pixel x y)

-- rows of this width
abbrev pub AreAsWide : ℕ → List RowOf → Type 0
AreAsWide width rows = All (λ r. r.width ≡ width) rows

-- a row without a column
abbrev pub no_row : RowOf
no_row = record { width = 0; spans = [] }

-- what is left to be drawn of the row j of a band
abbrev pub spans_at : List RowOf → ℕ → List (ℕ × ℕ)
spans_at rows j = (slice_index_or rows j no_row).spans

-- the rows of a band, of each what is left to be drawn, and the colours of its pixels row by row
pub record BandOf : Type 0 where
  pub rows : List RowOf
  pub pixels : List ℕ

-- the colour of column x in row j of a band that begins at a row of the picture, once some panes are drawn where nothing is drawn yet
abbrev pub will_show : ℕ → List Pane → ℕ → ℕ → BandOf → ℕ → ℕ → ℕ
will_show background panes top width band j x =
    if in_spans (spans_at band.rows j) x then composed background panes (at_pixel x (top + j)) else slice_index band.pixels (j * width + x)
