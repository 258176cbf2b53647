-- Where a window is put, by what of it decides that.
use Rattle.std.specs.Prelude.{ℕ, ◌^◌, Bool, false, List, [], ◌∷◌, Option, Some, None, if◌then◌else◌}
use Rattle.gui_num.specs.declared.Rect.{Rect}
use Rattle.desk_laws.specs.Sizes.{Sizes}
use Rattle.desk_laws.specs.Rows.{Row, placed_at}
use Rattle.desk_laws.specs.Override.{Placement, effective, taken_besides}
use Rattle.desk_laws.specs.Effects.{goes_full, whole_output, tells_place}
use Rattle.guest_session.specs.declared.rows.Standing.{Standing}

-- the most pixels that override-redirect windows are counted to take: more than any desktop has
abbrev pub most_taken : ℕ
most_taken = 2 ^ 32

-- what of a row decides where it is put
abbrev pub standing_of : Row → Standing
standing_of row = record { place = row.place; mapped = row.mapped; over = row.over; flags = row.flags }

-- where CONFIGURE puts a window of this standing that asks for this place: by the override rule where it is mapped
abbrev pub configured_to : Sizes → List Row → ℕ → Standing → Bool → Rect → Placement
configured_to sizes own window old asked place =
    if old.mapped
    then effective sizes asked place (taken_besides sizes.border window own)
    else record { rect = place; over = old.over }

-- a row whose output is this one, once it has these flags: on the whole output, where they put it there
abbrev pub flagged_row : Sizes → Option Rect → ℕ → Row → Row
flagged_row sizes None flags row = record row { flags = flags }
flagged_row sizes (Some output) flags row =
    if goes_full sizes row flags output
    then placed_at (whole_output sizes output) (record row { flags = flags })
    else record row { flags = flags }

-- what is told of a window whose row gets these flags: its place, where they put it on the whole output
abbrev pub tells_full : Sizes → Option Rect → ℕ → Row → List (List ℕ)
tells_full sizes None flags row = []
tells_full sizes (Some output) flags row =
    if goes_full sizes row flags output then tells_place row.window (whole_output sizes output) false ∷ [] else []

-- the message that tells a row's place, and whether it is in the override layer
abbrev pub tells_row : Row → List ℕ
tells_row row = tells_place row.window row.place row.over
