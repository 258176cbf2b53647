-- Which override requests are granted, and where the window is then put.
use Rattle.std.specs.Prelude.{◌≡◌, ℕ, ◌+◌, ◌-◌, ◌*◌, ◌≤◌, Bool, true, false, ◌&&◌, not, ◌==◌, nat_le, ℤ, pos, ◌+ℤ◌, sum_by, List, Option, Some, None, if◌then◌else◌}
use Rattle.std.specs.List.{All, list_any}
use Rattle.std.specs.Int.{int_min, int_max}
use Rattle.gui_num.specs.declared.Rect.{Rect}
use Rattle.gui_num.specs.Rects.{grown, area}
use Rattle.desk_laws.specs.Sizes.{Sizes}
use Rattle.desk_laws.specs.Rows.{Row, mine, outer}
use Rattle.desk_laws.specs.Outputs.{output_of, lies_in, largest}

-- what a row of a guest's takes of its override area, where it isn't the asking one
abbrev pub taken_by : ℕ → ℕ → Row → ℕ
taken_by border window row =
    if (row.mapped && row.over) && not (row.window == window) then area (outer border row) else 0

-- the outer areas of the other mapped override rows of a guest
abbrev pub taken_besides : ℕ → ℕ → List Row → ℕ
taken_besides border window own = sum_by (taken_by border window) own

-- whether a request is granted: it was asked, the window fits the output with its borders, and the guest's
-- override windows take no more than their percent of the output
abbrev pub is_granted : Sizes → Rect → Bool → Rect → ℕ → Bool
is_granted sizes output asked place taken =
    (asked && (nat_le (place.w + 2 * sizes.border) output.w && nat_le (place.h + 2 * sizes.border) output.h))
    && nat_le (100 * (taken + area (grown place sizes.border))) (sizes.percent * area output)

-- a side that begins at z moved by the least amount that puts it, with its borders, among so many places from a on
abbrev pub moved_inside : ℤ → ℕ → ℕ → ℤ → ℕ → ℤ
moved_inside z size border a limit = int_max (a +ℤ pos border) (int_min z (a +ℤ pos (limit - size - border)))

-- a place moved by the least amount that puts it, with its borders, into an output
abbrev pub moved_into : Rect → ℕ → Rect → Rect
moved_into output border place = record {
  x = moved_inside place.x place.w border output.x output.w;
  y = moved_inside place.y place.h border output.y output.h;
  w = place.w;
  h = place.h;
}

-- where a window is put, and whether it is in the override layer
pub record Placement : Type 0 where
  pub rect : Rect
  pub over : Bool

-- the override rule against one output: a granted window is moved into it and is in the override layer, another one
-- stays where it is and is in the normal layer
abbrev pub placed_in : Sizes → Option Rect → Bool → Rect → ℕ → Placement
placed_in sizes None asked place taken = record { rect = place; over = false }
placed_in sizes (Some output) asked place taken =
    if is_granted sizes output asked place taken
    then record { rect = moved_into output sizes.border place; over = true }
    else record { rect = place; over = false }

-- the override rule, against the output of the place's upper left corner
abbrev pub effective : Sizes → Bool → Rect → ℕ → Placement
effective sizes asked place taken = placed_in sizes (output_of sizes.outputs place) asked place taken

-- ---- the limits of override windows

-- whether a rectangle lies in one of the outputs
abbrev pub lies_in_one : List Rect → Rect → Bool
lies_in_one outputs r = list_any (λ output. lies_in output r) outputs

-- a mapped window of the override layer
abbrev pub is_over : Row → Bool
is_over row = row.mapped && row.over

-- the outer areas of the mapped override windows among these
abbrev pub area_over : ℕ → List Row → ℕ
area_over border rows = sum_by (λ row. if is_over row then area (outer border row) else 0) rows

-- each mapped override window lies with its border in one output, and those of one guest take together no more
-- than their percent of the largest output
pub record KeepsLimits (sizes : Sizes) (rows : List Row) : Type 0 where
  pub inside : All (λ row. is_over row ≡ true → lies_in_one sizes.outputs (outer sizes.border row) ≡ true) rows
  pub share : (guest : ℕ) → 100 * area_over sizes.border (mine guest rows) ≤ sizes.percent * largest sizes.outputs
