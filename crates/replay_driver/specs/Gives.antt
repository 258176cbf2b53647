-- What a run of some items wrote: their output, or a part of it; and what the output says of each guest.
use Rattle.std.specs.Prelude.{ℕ, List, Option}
use Rattle.desk_laws.specs.declared.setup.Setup.{Setup}
use Rattle.desk_laws.specs.Items.{FedItem}
use Rattle.io_ports.specs.Content.{Grows, GrowsPart}
use Rattle.output_laws.specs.Isolated.{AreIsolated}
use Rattle.replay_driver.specs.Outputs.{output, painted_from}

-- the output of these items shows and tells each guest what it would get alone
abbrev pub IsIsolated : Setup → List FedItem → Type 0
IsIsolated setup items = AreIsolated (painted_from setup 0 items) setup items (output setup items)

-- the whole output was written
pub record Gives (setup : Setup) (items : List FedItem) (before after : Option (List ℕ)) : Type 0 where
  pub grown : Grows before (output setup items) after
  pub isolated : IsIsolated setup items

-- a part of it was written, from its beginning
pub record GivesPart (setup : Setup) (items : List FedItem) (before after : Option (List ℕ)) : Type 0 where
  pub grown : GrowsPart before (output setup items) after
  pub isolated : IsIsolated setup items
