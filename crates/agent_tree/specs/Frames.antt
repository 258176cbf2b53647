-- Where the boxes of a window lie, and what of them shows. Places of boxes count from the corner of what they lie in.
use Rattle.std.specs.Prelude.{ℕ, ◌≤◌, Bool, false, nat_lt, pos, negsuc, ◌+ℤ◌, ◌≤ℤ◌, List, [], ◌∷◌, Option, Some, None, option_map, if◌then◌else◌}
use Rattle.gui_num.specs.declared.Rect.{Rect}
use Rattle.gui_num.specs.declared.Point.{Point}
use Rattle.gui_num.specs.Rects.{common, has, right, bottom}
use Rattle.agent_tree.specs.declared.boxes.SceneBox.{SceneBox}
use Rattle.agent_tree.specs.declared.frame.Frame.{Frame}

-- the ranges of places: corners of 16 bits, and sizes that a window may have
pub record IsPlace (r : Rect) : Type 0 where
  pub x_low : negsuc 32767 ≤ℤ r.x
  pub x_high : r.x ≤ℤ pos 32767
  pub y_low : negsuc 32767 ≤ℤ r.y
  pub y_high : r.y ≤ℤ pos 32767
  pub w_low : 1 ≤ r.w
  pub w_high : r.w ≤ 16384
  pub h_low : 1 ≤ r.h
  pub h_high : r.h ≤ 6144

-- a rectangle lies within another one
pub record IsWithin (outer r : Rect) : Type 0 where
  pub x_low : outer.x ≤ℤ r.x
  pub y_low : outer.y ≤ℤ r.y
  pub x_high : right r ≤ℤ right outer
  pub y_high : bottom r ≤ℤ bottom outer

-- a rectangle of pixels within another one
pub record IsPart (outer r : Rect) : Type 0 where
  pub within : IsWithin outer r
  pub wide : 1 ≤ r.w
  pub high : 1 ≤ r.h

-- a place that counts from a corner, in the pixels of the window
abbrev pub moved : Point → Rect → Rect
moved corner r = record { x = corner.x +ℤ r.x; y = corner.y +ℤ r.y; w = r.w; h = r.h }

-- what of a place in a frame shows: nothing where the frame doesn't
abbrev pub clipped : Option Frame → Rect → Option Rect
clipped None r = None
clipped (Some f) r = common f.room (moved f.corner r)

-- the frame that a box at a place in a frame is for those in it, from its corner on
abbrev pub inside : Option Frame → Rect → Option Frame
inside None r = None
inside (Some f) r = option_map (λ room. record { corner = record { x = f.corner.x +ℤ r.x; y = f.corner.y +ℤ r.y }; room = room }) (common f.room (moved f.corner r))

-- the frame that a window is: its rectangle, from its own corner on
abbrev pub outermost : Rect → Option Frame
outermost window = Some (record { corner = record { x = window.x; y = window.y }; room = window })

-- the frame of the boxes of some level that come behind others, of which the nearest stands first: the nearest one of
-- a lower level, which is their parent, or else the window
abbrev pub frame : Rect → ℕ → List SceneBox → Option Frame
frame window level [] = outermost window
frame window level (b ∷ before) = if nat_lt b.level level then inside (frame window b.level before) b.place else frame window level before

-- what of a box that comes behind others shows
abbrev pub clip : Rect → SceneBox → List SceneBox → Option Rect
clip window b before = clipped (frame window b.level before) b.place

-- whether a rectangle that there may be has a pixel
abbrev pub shows : Option Rect → Point → Bool
shows None p = false
shows (Some r) p = has r p

-- the numbers of a frame are those of a window of at most 16384 columns and rows
pub record IsNarrow (f : Frame) : Type 0 where
  pub x_low : negsuc 16383 ≤ℤ f.corner.x
  pub x_high : f.corner.x ≤ℤ pos 16384
  pub y_low : negsuc 16383 ≤ℤ f.corner.y
  pub y_high : f.corner.y ≤ℤ pos 16384
  pub left_low : pos 0 ≤ℤ f.room.x
  pub top_low : pos 0 ≤ℤ f.room.y
  pub right_high : right f.room ≤ℤ pos 16384
  pub bottom_high : bottom f.room ≤ℤ pos 16384
