-- What each pixel of a picture is: the colour of the topmost pane that has it, where an output has it.
use Rattle.std.specs.Prelude.{◌≡◌, ◌<◌, ◌+◌, ◌*◌, ℕ, zero, suc, List, [], ◌∷◌, map, flat_map, Option, Some, None, Bool, false, slice_index, if◌then◌else◌, pos, ◌-ℤ◌}
use Rattle.std.specs.List.{find, list_any}
use Rattle.gui_num.specs.declared.Rect.{Rect}
use Rattle.gui_num.specs.declared.Point.{Point}
use Rattle.gui_num.specs.declared.Colour.{Colour}
use Rattle.gui_num.specs.Rects.{has, nat_of}
use Rattle.compositor.specs.declared.panes.PaneView.{PaneView}

-- a pane: its view, and its content by column and row
pub record Pane : Type 0 where
  pub view : PaneView
  pub content : ℕ → ℕ → Option Colour

-- the views of panes
abbrev pub views_of : List Pane → List PaneView
views_of panes = map (λ pane. pane.view) panes

-- the colour of a content, or that of a blank where there is none
abbrev pub colour_or : ℕ → Option Colour → ℕ
colour_or blank None = blank
colour_or blank (Some colour) = colour.0

-- the content of a pane under a pixel, grey where it has none
abbrev pub content_under : Pane → Point → ℕ
content_under pane p = colour_or 0x808080 (pane.content (nat_of (p.x -ℤ pane.view.content.x)) (nat_of (p.y -ℤ pane.view.content.y)))

-- the colour of a pane at a pixel: its content, or around that the colour of its border
abbrev pub pane_colour : Pane → Point → ℕ
pane_colour pane p = if has pane.view.content p then content_under pane p else pane.view.colour.0

-- the topmost of some panes from the top whose outer rectangle has the pixel
abbrev pub topmost : List Pane → Point → Option Pane
topmost panes p = find (λ pane. has pane.view.outer p) panes

-- the colour of a pixel by its pane: the background where there is none
abbrev pub colour_by : ℕ → Option Pane → Point → ℕ
colour_by background None p = background
colour_by background (Some pane) p = pane_colour pane p

-- the colour of a pixel under some panes from the top
abbrev pub composed : ℕ → List Pane → Point → ℕ
composed background panes p = colour_by background (topmost panes p) p

-- whether some output has the pixel
abbrev pub is_in : List Rect → Point → Bool
is_in outputs p = list_any (λ output. has output p) outputs

-- the colour of a pixel under some panes from the top, 0 where no output has it
abbrev pub shown_at : ℕ → List Pane → List Rect → Point → ℕ
shown_at background panes outputs p = if is_in outputs p then composed background panes p else 0

-- the pixel in column x of row y
abbrev pub at_pixel : ℕ → ℕ → Point
at_pixel x y = record { x = pos x; y = pos y }

-- as many columns, or rows, from one on
abbrev pub columns : ℕ → ℕ → List ℕ
columns a zero = []
columns a (suc n) = a ∷ columns (suc a) n

-- the pixels of a picture of some width and height, row by row from the top
abbrev pub all_pixels : ℕ → ℕ → List Point
all_pixels w h = flat_map (λ j. map (λ i. at_pixel i j) (columns 0 w)) (columns 0 h)

-- the pixels of such a picture that no output has are 0
abbrev pub AreZeroOutside : List Rect → ℕ → ℕ → List ℕ → Type 0
AreZeroOutside outputs w h pixels = (x y : ℕ) → x < w → y < h → is_in outputs (at_pixel x y) ≡ false → slice_index pixels (y * w + x) ≡ 0
