-- What the calls of a scene do to it, and what of it changed.
use Rattle.std.specs.Prelude.{ℕ, ◌+◌, ◌*◌, ◌/◌, ◌<◌, ◌≤◌, ◌≡◌, ⊤, Bool, ◌==◌, ◌&&◌, ◌||◌, not, nat_lt, nat_le, pos, List, [], ◌∷◌, ◌++◌, reverse, length, map, filter, find, sum_by, Option, Some, None, option_and_then, Result, Ok, Err, if◌then◌else◌}
use Rattle.std.specs.List.{list_any}
use Rattle.std.specs.Option.{option_to_list, MatchOption}
use Rattle.gui_num.specs.declared.Rect.{Rect}
use Rattle.gui_num.specs.declared.Point.{Point}
use Rattle.gui_num.specs.declared.Colour.{Colour}
use Rattle.region_clip.specs.Regions.{all_added}
use Rattle.agent_tree.specs.declared.boxes.SceneBox.{SceneBox}
use Rattle.agent_tree.specs.declared.fault.SceneFault.{SceneFault}
use Rattle.agent_tree.specs.declared.fault.SceneFault.TheVariants.{Unknown, Exists, Limit, NoMemory}
use Rattle.agent_tree.specs.Colours.{colour_over}
use Rattle.agent_tree.specs.Lists.{at_first, without_first}
use Rattle.agent_tree.specs.Trees.{has_box, put_in, taken_out, with_place, with_colour, level_in, clip_of}
use Rattle.agent_tree.specs.Views.{TopView, SceneView}

-- ---- pixels

-- the rectangle of a window in its own pixels
abbrev pub whole : Rect → Rect
whole place = record { x = pos 0; y = pos 0; w = place.w; h = place.h }

-- the colour of a pixel of a window
abbrev pub colour_of : TopView → Point → Colour
colour_of t p = colour_over (whole t.place) t.colour p (reverse t.boxes)

-- whether a top window has an id
abbrev pub is_named : ℕ → TopView → Bool
is_named id t = t.id == id

-- whether a box with an id lies in a top window
abbrev pub holds : ℕ → TopView → Bool
holds id t = has_box id t.boxes

-- the top window with an id
abbrev pub top_of : SceneView → ℕ → Option TopView
top_of scene id = find (is_named id) scene.tops

-- the colour of a pixel of the window with an id, None outside of it
abbrev pub pixel : SceneView → ℕ → ℕ → ℕ → Option Colour
pixel scene id x y = option_and_then (λ t. if nat_lt x t.place.w && nat_lt y t.place.h then Some (colour_of t (record { x = pos x; y = pos y })) else None) (top_of scene id)

-- a window has so many pixels in a row from a column on
abbrev pub HasRow : SceneView → ℕ → ℕ → ℕ → ℕ → Type 0
HasRow scene id x y n = MatchOption (top_of scene id) ⊥ (λ t. (x + n ≤ t.place.w) × (y < t.place.h))

-- ---- damage

-- the damage of a window once what showed of a box before and after a change was added to it, in this order: the
-- whole window where a region has no room for that
abbrev pub damaged : Rect → List Rect → Option Rect → Option Rect → List Rect
damaged window held before after = elim (all_added held (option_to_list before ++ option_to_list after)) [ None ↦ window ∷ [] | Some new ↦ new ]

-- a window with other boxes, and damaged where the one that was changed showed before or shows after
abbrev pub changed : List SceneBox → Option Rect → Option Rect → TopView → TopView
changed boxes before after t = record t { boxes = boxes; damage = damaged (whole t.place) t.damage before after }

-- a window that is damaged whole
abbrev pub spoilt : TopView → TopView
spoilt t = record t { damage = whole t.place ∷ [] }

-- a window without damage
abbrev pub undamaged : TopView → TopView
undamaged t = record t { damage = [] }

-- ---- what the calls do to one window

-- a new window: no boxes, and no damage as long as it isn't shown
abbrev pub new_top : ℕ → Rect → Colour → TopView
new_top id r c = record { id = id; place = r; colour = c; boxes = []; damage = [] }

-- a new box as a child of the window, behind its other boxes
abbrev pub child_added : SceneBox → TopView → TopView
child_added new t = let boxes : List SceneBox = t.boxes ++ record new { level = 1 } ∷ [] in changed boxes None (clip_of (whole t.place) new.id boxes) t

-- a new box as the last child of the box with an id
abbrev pub box_added : ℕ → SceneBox → TopView → TopView
box_added parent new t = let boxes : List SceneBox = put_in parent new t.boxes in changed boxes None (clip_of (whole t.place) new.id boxes) t

-- a box at another place
abbrev pub box_placed : ℕ → Rect → TopView → TopView
box_placed id r t = changed (with_place id r t.boxes) (clip_of (whole t.place) id t.boxes) (clip_of (whole t.place) id (with_place id r t.boxes)) t

-- a box of another colour
abbrev pub box_filled : ℕ → Colour → TopView → TopView
box_filled id c t = changed (with_colour id c t.boxes) (clip_of (whole t.place) id t.boxes) (clip_of (whole t.place) id (with_colour id c t.boxes)) t

-- a window without a box and all in it
abbrev pub box_removed : ℕ → TopView → TopView
box_removed id t = changed (taken_out id t.boxes) (clip_of (whole t.place) id t.boxes) None t

-- a window at another place: damaged whole where it has another size
abbrev pub top_placed : Rect → TopView → TopView
top_placed r t = if t.place.w == r.w && t.place.h == r.h then record t { place = r } else spoilt (record t { place = r })

-- a window of another colour
abbrev pub top_filled : Colour → TopView → TopView
top_filled c t = spoilt (record t { colour = c })

-- ---- what they do to the scene

-- whether a top window has an id
abbrev pub is_top : SceneView → ℕ → Bool
is_top scene id = list_any (is_named id) scene.tops

-- whether a box has it
abbrev pub is_held : SceneView → ℕ → Bool
is_held scene id = list_any (holds id) scene.tops

-- the scene with one more top window
abbrev pub topped : ℕ → Rect → Colour → SceneView → SceneView
topped id r c scene = record scene { tops = scene.tops ++ new_top id r c ∷ [] }

-- the scene with a change of the top window with an id, or else of the one that holds the box with it
abbrev pub edited : ℕ → (TopView → TopView) → (TopView → TopView) → SceneView → SceneView
edited id top box scene = record scene { tops = if is_top scene id then at_first (is_named id) top scene.tops else at_first (holds id) box scene.tops }

abbrev pub added : ℕ → ℕ → Rect → Colour → SceneView → SceneView
added id parent r c scene = let new : SceneBox = record { id = id; level = 0; place = r; colour = c } in edited parent (child_added new) (box_added parent new) scene

abbrev pub placed : ℕ → Rect → SceneView → SceneView
placed id r scene = edited id (top_placed r) (box_placed id r) scene

abbrev pub filled : ℕ → Colour → SceneView → SceneView
filled id c scene = edited id (top_filled c) (box_filled id c) scene

-- a top window is shown no more once it is gone
abbrev pub removed : ℕ → SceneView → SceneView
removed id scene = if is_top scene id then record { tops = without_first (is_named id) scene.tops; shown = filter (λ s. not (s == id)) scene.shown } else record scene { tops = at_first (holds id) (box_removed id) scene.tops }

abbrev pub is_shown : SceneView → ℕ → Bool
is_shown scene id = list_any (λ s. s == id) scene.shown

abbrev pub showed : ℕ → SceneView → SceneView
showed id scene = record { tops = at_first (is_named id) spoilt scene.tops; shown = if is_shown scene id then scene.shown else scene.shown ++ id ∷ [] }

abbrev pub hidden : ℕ → SceneView → SceneView
hidden id scene = record scene { shown = filter (λ s. not (s == id)) scene.shown }

-- a window without damage, where it is shown
abbrev pub cleared : SceneView → TopView → TopView
cleared scene t = if is_shown scene t.id then undamaged t else t

abbrev pub flushed : SceneView → SceneView
flushed scene = record scene { tops = map (cleared scene) scene.tops }

-- ---- faults

-- how many pages of 4096 bytes the pixels of a window take, 4 bytes each
abbrev pub pages : Rect → ℕ
pages r = (4 * (r.w * r.h) + 4095) / 4096

-- how many tiles of 64 by 64 pixels a window takes
abbrev pub tiles : Rect → ℕ
tiles r = ((r.w + 63) / 64) * ((r.h + 63) / 64)

abbrev pub pages_of : List TopView → ℕ
pages_of tops = sum_by (λ t. pages t.place) tops

abbrev pub tiles_of : List TopView → ℕ
tiles_of tops = sum_by (λ t. tiles t.place) tops

abbrev pub boxes_of : List TopView → ℕ
boxes_of tops = sum_by (λ t. length t.boxes) tops

-- whether the windows have no more pages and tiles than they may
abbrev pub fit : List TopView → Bool
fit tops = nat_le (pages_of tops) 8192 && nat_le (tiles_of tops) 4096

-- the level of a box or a top window, which has 0
abbrev pub level_at : SceneView → ℕ → ℕ
level_at scene id = elim (find (holds id) scene.tops) [ None ↦ 0 | Some t ↦ level_in id t.boxes ]

abbrev pub is_used : SceneView → ℕ → Bool
is_used scene id = is_top scene id || is_held scene id

abbrev pub top_fault : ℕ → Rect → SceneView → Option SceneFault
top_fault id r scene = if is_used scene id then Some Exists else (if nat_lt (length scene.tops) 1024 && (nat_le (pages_of scene.tops + pages r) 8192 && nat_le (tiles_of scene.tops + tiles r) 4096) then None else Some Limit)

abbrev pub add_fault : ℕ → ℕ → SceneView → Option SceneFault
add_fault id parent scene = if is_used scene parent then (if is_used scene id then Some Exists else (if nat_lt (boxes_of scene.tops) 65536 && (is_top scene parent || nat_lt (level_at scene parent) 64) then None else Some Limit)) else Some Unknown

abbrev pub place_fault : ℕ → Rect → SceneView → Option SceneFault
place_fault id r scene = if is_top scene id then (if fit (at_first (is_named id) (top_placed r) scene.tops) then None else Some Limit) else (if is_held scene id then None else Some Unknown)

-- of a call on a box or a top window
abbrev pub use_fault : ℕ → SceneView → Option SceneFault
use_fault id scene = if is_used scene id then None else Some Unknown

-- of a call on a top window
abbrev pub show_fault : ℕ → SceneView → Option SceneFault
show_fault id scene = if is_top scene id then None else Some Unknown

-- a call answers that it found this fault, or none. It may lack memory at any time
abbrev pub Answers : Result (Unit {0}) SceneFault → Option SceneFault → Type 0
Answers (Ok _) fault = fault ≡ None
Answers (Err Unknown) fault = fault ≡ Some Unknown
Answers (Err Exists) fault = fault ≡ Some Exists
Answers (Err Limit) fault = fault ≡ Some Limit
Answers (Err NoMemory) fault = ⊤
