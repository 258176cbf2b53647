-- How the stack follows the row of a window.
use Rattle.std.specs.Prelude.{ℕ, Bool, Option, Some, None, if◌then◌else◌}
use Rattle.desk_laws.specs.declared.row_id.RowId.{RowId}
use Rattle.desk_laws.specs.Rows.{Row}
use Rattle.desk_laws.specs.Layers.{Layers, is_in, entered, departed, relayered}

-- the id of a guest's window
abbrev pub id_in : ℕ → ℕ → RowId
id_in guest window = record { guest = guest; window = window }

-- whether a mapped row is in the override layer
abbrev pub layer_in : Option Row → Option Bool
layer_in None = None
layer_in (Some row) = if row.mapped then Some row.over else None

-- the lists once a row is in this layer, or in none
abbrev pub after_layer : RowId → Option Bool → Layers → Layers
after_layer id None layers = departed id layers
after_layer id (Some over) layers = if is_in layers.focus id then relayered id over layers else entered id over layers
