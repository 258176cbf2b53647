-- A set of pixels as a list of at most 256 rectangles, no two of which have a common point. How a rectangle is
-- added, and when there is no room for it, is this project's own.
use Rattle.std.specs.Prelude.{ℕ, ◌≡◌, ◌+◌, ◌≤◌, Bool, ◌||◌, ◌==◌, nat_le, List, [], ◌∷◌, ◌++◌, length, flat_map, Option, Some, None, option_map, if◌then◌else◌}
use Rattle.gui_num.specs.declared.Rect.{Rect}
use Rattle.gui_num.specs.declared.Point.{Point}
use Rattle.region_clip.specs.RectCuts.{cut_by, holders, in_rects}

-- how many rectangles and pieces there may be at a time
abbrev pub most : ℕ
most = 256

-- what is left of some pieces when one rectangle is cut out of each
abbrev pub cut_all : Rect → List Rect → List Rect
cut_all cut pieces = flat_map (cut_by cut) pieces

-- what is left of them when some rectangles are cut out one by one; None where before or after a cut there are
-- too many beside n others
abbrev pub cut_each : ℕ → List Rect → List Rect → Option (List Rect)
cut_each n [] pieces = if nat_le (n + length pieces) most then Some pieces else None
cut_each n (cut ∷ cuts) pieces = if nat_le (n + length pieces) most then cut_each n cuts (cut_all cut pieces) else None

-- whether a rectangle has no point
abbrev pub is_empty : Rect → Bool
is_empty r = r.w == 0 || r.h == 0

-- the rectangles once one more was added to those that are held; None where that is too many
abbrev pub added : List Rect → Rect → Option (List Rect)
added held r = if is_empty r then Some held else option_map (λ pieces. held ++ pieces) (cut_each (length held) held (r ∷ []))

-- the rectangles once some more were added one by one; None where that is once too many
abbrev pub all_added : List Rect → List Rect → Option (List Rect)
all_added held [] = Some held
all_added held (r ∷ rects) = elim (added held r) [ None ↦ None | Some new ↦ all_added new rects ]

-- no two of some rectangles have a common point
abbrev pub AreDisjoint : List Rect → Type 0
AreDisjoint rects = (p : Point) → holders rects p ≤ 1

-- what is held after some rectangles were added to none: disjoint rectangles
abbrev pub RegionsAreDisjoint : Type 0
RegionsAreDisjoint = (rects held : List Rect) → all_added [] rects ≡ Some held → AreDisjoint held

-- these have exactly the points of those that were added
abbrev pub RegionsHaveWhatWasAdded : Type 0
RegionsHaveWhatWasAdded = (rects held : List Rect) → all_added [] rects ≡ Some held → (p : Point) → in_rects held p ≡ in_rects rects p
