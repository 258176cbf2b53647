-- What a run over a record writes.
use Rattle.std.specs.Prelude.{ℕ, List, [], ◌∷◌}
use Rattle.desk_laws.specs.declared.setup.Setup.{Setup}
use Rattle.desk_laws.specs.Items.{FedItem}
use Rattle.desk_laws.specs.State.{opening}
use Rattle.desk_laws.specs.Steps.{run}
use Rattle.desk_core.specs.Painting.{painted_after}
use Rattle.record_format.specs.OutputGrammar.{posts_bytes}

-- the picture's count after these items
abbrev pub painted_from : Setup → ℕ → List FedItem → ℕ
painted_from setup painted [] = painted
painted_from setup painted (given ∷ items) = painted_from setup (painted_after setup given.item painted) items

-- what a run of these items writes
unfoldable pub output : Setup → List FedItem → List ℕ
output setup items = posts_bytes (painted_from setup 0 items) (run setup items (opening setup)).posts
