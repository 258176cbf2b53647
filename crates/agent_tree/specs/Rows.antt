-- How a row of a window is painted, box by box.
use Rattle.std.specs.Prelude.{ℕ, ◌≡◌, ◌+◌, ◌≤◌, ◌<◌, pos, List, get_or, Option, None, length}
use Rattle.gui_num.specs.declared.Rect.{Rect}
use Rattle.gui_num.specs.declared.Colour.{Colour}
use Rattle.agent_tree.specs.declared.boxes.SceneBox.{SceneBox}
use Rattle.agent_tree.specs.declared.frame.Frame.{Frame}
use Rattle.agent_tree.specs.Frames.{frame}
use Rattle.agent_tree.specs.Paths.{level_of}
use Rattle.agent_tree.specs.Colours.{colour_over}

-- of each level that the next box may have, the frame in which it would lie
abbrev pub AreFrames : Rect → List (Option Frame) → List SceneBox → Type 0
AreFrames window frames before = (level : ℕ) → 1 ≤ level → level ≤ level_of before + 1 → get_or frames level None ≡ frame window level before

-- the pixels of a row from some column on have the colours of these boxes
abbrev pub IsPainted : Rect → Colour → ℕ → ℕ → List SceneBox → List ℕ → Type 0
IsPainted window own x y before room = (k : ℕ) → k < length room → get_or room k 0 ≡ (colour_over window own (record { x = pos (x + k); y = pos y }) before).0
