-- The panes that the tests draw, from the top.
use Rattle.std.specs.Prelude.{ℕ, List, [], ◌∷◌, Option, Some, None, if◌then◌else◌, nat_lt, pos, negsuc}
use Rattle.gui_num.specs.declared.Rect.{Rect}
use Rattle.gui_num.specs.declared.Colour.{Colour}
use Rattle.gui_num.specs.Rects.{grown}
use Rattle.compositor.specs.declared.panes.PaneView.{PaneView}
use Rattle.compositor.specs.Composed.{Pane}

-- a view whose content is this rectangle, in a border one pixel wide
abbrev pub ringed : Rect → ℕ → PaneView
ringed content colour = record { outer = grown content 1; content = content; colour = record { 0 = colour } }

-- a content of one colour
abbrev pub filled : ℕ → ℕ → ℕ → Option Colour
filled colour x y = Some (record { 0 = colour })

-- a content of one colour whose first column has none
abbrev pub filled_but_first : ℕ → ℕ → ℕ → Option Colour
filled_but_first colour x y = if nat_lt x 1 then None else Some (record { 0 = colour })

-- one pane over the picture's upper left corner, and below it two that overlap
abbrev pub shown_panes : List Pane
shown_panes =
    record { view = ringed (record { x = negsuc 0; y = negsuc 0; w = 2; h = 2 }) 0xffff00; content = filled 0x0a0b0c }
    ∷ record { view = ringed (record { x = pos 4; y = pos 2; w = 3; h = 2 }) 0x00ff00; content = filled_but_first 0x0000ff }
    ∷ record { view = ringed (record { x = pos 1; y = pos 1; w = 3; h = 2 }) 0xff0000; content = filled 0xffffff }
    ∷ []

-- a content that has no colour anywhere
abbrev pub unfilled : ℕ → ℕ → Option Colour
unfilled x y = None

-- one pane in the middle
abbrev pub pane_across : List Pane
pane_across = record { view = ringed (record { x = pos 2; y = pos 2; w = 8; h = 2 }) 0xff0000; content = unfilled } ∷ []
