-- Edits of one window, by the index of the box in its list; and what is known of a window.
use Rattle.std.specs.Prelude.{ℕ, ◌≤◌, List, ◌∷◌, ◌++◌, reverse, take, drop, length, slice_get, slice_set, Option, Some, None}
use Rattle.std.specs.List.{All}
use Rattle.gui_num.specs.declared.Rect.{Rect}
use Rattle.agent_tree.specs.declared.boxes.SceneBox.{SceneBox}
use Rattle.agent_tree.specs.Frames.{IsPlace, IsPart, clip}
use Rattle.agent_tree.specs.Paths.{IsSound, AreNested}
use Rattle.agent_tree.specs.Views.{TopView}
use Rattle.agent_tree.specs.Scenes.{whole, changed}

-- what shows of the box with an index
abbrev pub clip_at : Rect → List SceneBox → ℕ → Option Rect
clip_at window boxes k = elim (slice_get boxes k) [ None ↦ None | Some b ↦ clip window b (reverse (take k boxes)) ]

-- another box at an index
abbrev pub replaced_at : ℕ → SceneBox → TopView → TopView
replaced_at k new t = changed (slice_set t.boxes k new) (clip_at (whole t.place) t.boxes k) (clip (whole t.place) new (reverse (take k t.boxes))) t

-- a new box at an index
abbrev pub inserted_at : ℕ → SceneBox → TopView → TopView
inserted_at k new t = changed (take k t.boxes ++ new ∷ drop k t.boxes) None (clip (whole t.place) new (reverse (take k t.boxes))) t

-- the box with an index, and those up to another one, are gone
abbrev pub cut_at : ℕ → ℕ → TopView → TopView
cut_at k end t = changed (take k t.boxes ++ drop end t.boxes) (clip_at (whole t.place) t.boxes k) None t

-- what holds of every window
pub record IsTop (place : Rect) (boxes : List SceneBox) (damage : List Rect) : Type 0 where
  pub size : IsPlace place
  pub sound : All IsSound boxes
  pub nested : AreNested (reverse boxes)
  pub few : length boxes ≤ 65536
  pub parts : All (IsPart (whole place)) damage
