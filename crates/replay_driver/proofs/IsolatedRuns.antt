-- The output of a run, and what it says of each guest.
use Rattle.std.proofs.Common.{◌<◌, ◌^◌, ℕ, List, [], ◌∷◌, None, arith}
use Rattle.std.specs.Prelude.{◌≡◌}
use Rattle.desk_laws.specs.declared.setup.Setup.{Setup}
use Rattle.desk_laws.specs.declared.item.Item.{Item}
use Rattle.desk_laws.specs.declared.item.Item.TheVariants as items
use Rattle.desk_laws.specs.Items.{FedItem}
use Rattle.desk_laws.specs.Rules.{first_broken}
use Rattle.desk_laws.specs.State.{opening}
use Rattle.desk_laws.specs.Steps.{run}
use Rattle.desk_core.specs.Painting.{painted_after}
use Rattle.output_laws.specs.RunRecords.{AllFit, CausesFit}
use Rattle.output_laws.proofs.RunLemmas.{runs-are_isolated}
use Rattle.replay_driver.specs.Gives.{IsIsolated}
use Rattle.replay_driver.specs.Outputs.{output, painted_from}

-- the picture's count stays in its range
painted_small : (setup : Setup) (p : ℕ) (item : Item) → p < 2 ^ 64 → painted_after setup item p < 2 ^ 64
painted_small setup p items.Snap small = omega arith
painted_small setup p item small = small

from_small : (setup : Setup) (p : ℕ) (given : List FedItem) → p < 2 ^ 64 → painted_from setup p given < 2 ^ 64
from_small setup p [] small = small
from_small setup p (g ∷ given) small = from_small setup (painted_after setup g.item p) given (painted_small setup p g.item small)

-- what a run writes is isolated
pub is_isolated : (setup : Setup) (given : List FedItem) → first_broken setup ≡ None → AllFit setup given → CausesFit (run setup given (opening setup)).posts → IsIsolated setup given
unfolding output
is_isolated setup given unbroken fit causes = runs-are_isolated (painted_from setup 0 given) setup given unbroken fit (from_small setup 0 given (omega arith)) causes
