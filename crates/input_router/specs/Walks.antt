-- The rows that are looked for in the stack and in the focus list.
use Rattle.std.specs.Prelude.{Bool, false, ◌&&◌, not, ◌++◌, reverse, find, Option, Some, None, if◌then◌else◌}
use Rattle.gui_num.specs.declared.Point.{Point}
use Rattle.desk_laws.specs.declared.row_id.RowId.{RowId}
use Rattle.desk_laws.specs.Layers.{Layers, last_that}
use Rattle.input_router.specs.declared.walks.Wanted.{Wanted}
use Rattle.input_router.specs.declared.walks.Wanted.TheVariants.{Normal, Hidden}
use Rattle.input_router.specs.Spots.{Spot, is_under, has_content}

-- whether a row is wanted: a shown one of the normal layer, or one that is there and isn't shown
abbrev pub is_wanted : Wanted → Option Spot → Bool
is_wanted Normal (Some spot) = spot.shown && not spot.over
is_wanted Hidden (Some spot) = not spot.shown
is_wanted wanted None = false

-- the row where it passes
abbrev pub passing : (RowId → Bool) → Option RowId → Option RowId
passing test None = None
passing test (Some id) = if test id then Some id else None

-- the topmost shown row whose content or border has the pixel
abbrev pub top_of : (RowId → Option Spot) → Layers → Point → Option RowId
top_of spots layers p = find (λ id. is_under p (spots id)) (reverse (layers.normal ++ layers.over))

-- that row where its content has the pixel
abbrev pub owner_of : (RowId → Option Spot) → Layers → Point → Option RowId
owner_of spots layers p = passing (λ id. has_content p (spots id)) (top_of spots layers p)

-- the last wanted row of the focus list
abbrev pub last_wanted : Wanted → (RowId → Option Spot) → Layers → Option RowId
last_wanted wanted spots layers = last_that (λ id. is_wanted wanted (spots id)) layers.focus

-- the first one
abbrev pub first_wanted : Wanted → (RowId → Option Spot) → Layers → Option RowId
first_wanted wanted spots layers = find (λ id. is_wanted wanted (spots id)) layers.focus
