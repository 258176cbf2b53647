-- Why nothing is added to the windows of a scene.
use Rattle.std.specs.Prelude.{ℕ, ◌+◌, Bool, ◌&&◌, ◌||◌, nat_lt, nat_le, List, length, find, Option, Some, None, if◌then◌else◌}
use Rattle.std.specs.List.{list_any}
use Rattle.gui_num.specs.declared.Rect.{Rect}
use Rattle.agent_tree.specs.declared.fault.SceneFault.{SceneFault}
use Rattle.agent_tree.specs.declared.fault.SceneFault.TheVariants.{Unknown, Exists, Limit}
use Rattle.agent_tree.specs.Trees.{level_in}
use Rattle.agent_tree.specs.Views.{TopView}
use Rattle.agent_tree.specs.Scenes.{is_named, holds, pages, tiles, pages_of, tiles_of, boxes_of}

abbrev pub used : ℕ → List TopView → Bool
used id tops = list_any (is_named id) tops || list_any (holds id) tops

-- of a new window
abbrev pub top_refused : ℕ → Rect → List TopView → Option SceneFault
top_refused id r tops = if used id tops then Some Exists else (if nat_lt (length tops) 1024 && (nat_le (pages_of tops + pages r) 8192 && nat_le (tiles_of tops + tiles r) 4096) then None else Some Limit)

-- of a new box in a window
abbrev pub child_refused : ℕ → List TopView → Option SceneFault
child_refused id tops = if used id tops then Some Exists else (if nat_lt (boxes_of tops) 65536 then None else Some Limit)

-- the level of a box
abbrev pub level_among : ℕ → List TopView → ℕ
level_among id tops = elim (find (holds id) tops) [ None ↦ 0 | Some t ↦ level_in id t.boxes ]

-- of a new box in a box
abbrev pub inside_refused : ℕ → ℕ → List TopView → Option SceneFault
inside_refused id parent tops = if list_any (holds parent) tops then (if used id tops then Some Exists else (if nat_lt (boxes_of tops) 65536 && nat_lt (level_among parent tops) 64 then None else Some Limit)) else Some Unknown
