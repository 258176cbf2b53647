-- The boxes of a window as a list in preorder, and what is edited in it.
use Rattle.std.specs.Prelude.{ℕ, ◌+◌, Bool, ◌==◌, nat_lt, List, [], ◌∷◌, ◌++◌, Option, None, if◌then◌else◌}
use Rattle.std.specs.List.{list_any}
use Rattle.gui_num.specs.declared.Rect.{Rect}
use Rattle.gui_num.specs.declared.Colour.{Colour}
use Rattle.agent_tree.specs.declared.boxes.SceneBox.{SceneBox}
use Rattle.agent_tree.specs.Frames.{clip}
use Rattle.agent_tree.specs.Lists.{at_first}

-- whether a box has an id
abbrev pub is_box : ℕ → SceneBox → Bool
is_box id b = b.id == id

-- whether one of some boxes has it
abbrev pub has_box : ℕ → List SceneBox → Bool
has_box id boxes = list_any (is_box id) boxes

-- of the boxes behind one of some level those that lie in it
abbrev pub inner : ℕ → List SceneBox → List SceneBox
inner level [] = []
inner level (b ∷ boxes) = if nat_lt level b.level then b ∷ inner level boxes else []

-- and those that don't
abbrev pub outer : ℕ → List SceneBox → List SceneBox
outer level [] = []
outer level (b ∷ boxes) = if nat_lt level b.level then outer level boxes else b ∷ boxes

-- the boxes once a new one is the last among the children of the box with an id
abbrev pub put_in : ℕ → SceneBox → List SceneBox → List SceneBox
put_in parent new [] = []
put_in parent new (b ∷ boxes) = if is_box parent b then b ∷ (inner b.level boxes ++ (record new { level = b.level + 1 } ∷ outer b.level boxes)) else b ∷ put_in parent new boxes

-- the boxes once the one with an id was taken out, with all in it
abbrev pub taken_out : ℕ → List SceneBox → List SceneBox
taken_out id [] = []
taken_out id (b ∷ boxes) = if is_box id b then outer b.level boxes else b ∷ taken_out id boxes

-- the boxes once the one with an id has another place
abbrev pub with_place : ℕ → Rect → List SceneBox → List SceneBox
with_place id r boxes = at_first (is_box id) (λ b. record b { place = r }) boxes

-- the boxes once the one with an id has another colour
abbrev pub with_colour : ℕ → Colour → List SceneBox → List SceneBox
with_colour id c boxes = at_first (is_box id) (λ b. record b { colour = c }) boxes

-- the level of the box with an id, 0 where there is none
abbrev pub level_in : ℕ → List SceneBox → ℕ
level_in id [] = 0
level_in id (b ∷ boxes) = if is_box id b then b.level else level_in id boxes

-- what shows of the box with an id, which comes behind some boxes, the last of which stands first
abbrev pub clip_behind : Rect → ℕ → List SceneBox → List SceneBox → Option Rect
clip_behind window id before [] = None
clip_behind window id before (b ∷ boxes) = if is_box id b then clip window b before else clip_behind window id (b ∷ before) boxes

-- what shows of the box with an id
abbrev pub clip_of : Rect → ℕ → List SceneBox → Option Rect
clip_of window id boxes = clip_behind window id [] boxes
