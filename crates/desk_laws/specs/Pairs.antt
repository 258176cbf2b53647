-- The revision of the clipboard, and the pairs of guests between which no paste goes. Both are this project's own.
use Rattle.std.specs.Prelude.{ℕ, Bool, ◌&&◌, ◌==◌, List, if◌then◌else◌}
use Rattle.std.specs.List.{list_any}
use Rattle.gui_wire.specs.declared.limits.TheConstants.{MAX_CLIPBOARD_SIZE, MAX_CLIPBOARD_DATA}
use Rattle.desk_laws.specs.declared.setup.Pair.{Pair}

-- how many bytes a revision of the clipboard holds
abbrev pub clip_limit : ℕ → ℕ
clip_limit revision = if revision == 2 then MAX_CLIPBOARD_DATA else MAX_CLIPBOARD_SIZE

-- whether what one guest copied isn't given to another
abbrev pub denies : List Pair → ℕ → ℕ → Bool
denies denied from to = list_any (λ pair. pair.from == from && pair.to == to) denied
