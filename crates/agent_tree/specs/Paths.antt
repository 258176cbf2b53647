-- From a window to one of its boxes.
use Rattle.std.specs.Prelude.{ℕ, ◌+◌, ◌≤◌, nat_lt, List, [], ◌∷◌, length, Option, Some, None, slice_get, if◌then◌else◌}
use Rattle.gui_num.specs.declared.Rect.{Rect}
use Rattle.agent_tree.specs.declared.boxes.SceneBox.{SceneBox}
use Rattle.agent_tree.specs.declared.frame.Frame.{Frame}
use Rattle.agent_tree.specs.Frames.{inside, outermost, IsPlace}

-- which boxes of a list, from 0, those of some level that come behind it lie in, the innermost first. The last one of
-- the list stands first
abbrev pub path : ℕ → List SceneBox → List ℕ
path level [] = []
path level (b ∷ before) = if nat_lt b.level level then length before ∷ path b.level before else path level before

-- the frame of what lies in the box with some index, in a frame
abbrev pub inside_at : List SceneBox → ℕ → Option Frame → Option Frame
inside_at boxes at f = elim (slice_get boxes at) [ None ↦ None | Some b ↦ inside f b.place ]

-- the frame of what lies in the first box of a path
abbrev pub along : Rect → List SceneBox → List ℕ → Option Frame
along window boxes [] = outermost window
along window boxes (at ∷ path) = inside_at boxes at (along window boxes path)

-- the level and the place of a box are in their ranges
pub record IsSound (b : SceneBox) : Type 0 where
  pub low : 1 ≤ b.level
  pub high : b.level ≤ 64
  pub place : IsPlace b.place

-- the level of the last box
abbrev pub level_of : List SceneBox → ℕ
level_of [] = 0
level_of (b ∷ before) = b.level

-- each box lies in a window, in the box before it, or in one that this one lies in. The last one stands first
abbrev pub AreNested : List SceneBox → Type 0
AreNested [] = Unit {0}
AreNested (b ∷ before) = (b.level ≤ level_of before + 1) × AreNested before
