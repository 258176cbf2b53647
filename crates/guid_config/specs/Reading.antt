-- What comes of the bytes of a configuration.
use Rattle.std.specs.Prelude.{◌≡◌, ℕ, List, Option, None, Some, Result, Ok, Err, IsUtf8, ⊤, Vec}
use Rattle.std.specs.declared.alloc.Global.{Global}
use Rattle.toml.specs.Data.{Members, table}
use Rattle.toml.specs.Parse.{parse_document}
use Rattle.desk_laws.specs.Rules.{first_broken}
use Rattle.guid_config.specs.declared.live.Live.{Live}
use Rattle.guid_config.specs.declared.live.ConfigFault.{ConfigFault}
use Rattle.guid_config.specs.declared.live.ConfigFault.TheVariants.{NotToml, Shape, Rule, NoMemory}
use Rattle.guid_config.specs.Shape.{live_of}

-- the bytes are a TOML document with this tree
abbrev pub HasTree : List ℕ → Members → Type 0
HasTree bytes tree = IsUtf8 bytes × (parse_document bytes ≡ Some tree)

-- the bytes are a TOML document of a configuration that states this
abbrev pub States : List ℕ → Live → Type 0
States bytes live = (tree : Members) × (HasTree bytes tree × (live_of (table tree) ≡ Some live))

-- for each answer, what it says of the bytes: a setup that breaks no rule; no TOML document; a document of no
-- configuration; a configuration of a setup that breaks a rule, and no earlier one. No two of these hold of the same
-- bytes, and want of memory alone says nothing of them.
abbrev pub Reads : List ℕ → Result Live ConfigFault → Type 0
Reads bytes (Ok live) = States bytes live × (first_broken live.setup ≡ None)
Reads bytes (Err NotToml) = (tree : Members) → HasTree bytes tree → ⊥
Reads bytes (Err Shape) = (tree : Members) × (HasTree bytes tree × (live_of (table tree) ≡ None))
Reads bytes (Err (Rule k)) = (live : Live) × (States bytes live × (first_broken live.setup ≡ Some k))
Reads bytes (Err NoMemory) = ⊤

-- what comes of reading a part: what is seen of the answer is the value that it states, or it is the fault of shape
-- where the part states none
abbrev pub GivesAs : {A B : Type 0} → (B → A) → Option A → Result B ConfigFault → Type 0
GivesAs seen stated (Ok x) = stated ≡ Some (seen x)
GivesAs seen stated (Err Shape) = stated ≡ None
GivesAs seen stated (Err NoMemory) = ⊤
GivesAs seen stated (Err NotToml) = ⊥
GivesAs seen stated (Err (Rule k)) = ⊥

-- the same of a value that is seen as it is
abbrev pub Gives : {A : Type 0} → Option A → Result A ConfigFault → Type 0
Gives = GivesAs (λ x. x)

-- the same of a list
abbrev pub GivesItems : {A : Type 0} → Option (List A) → Result (Vec A Global) ConfigFault → Type 0
GivesItems = GivesAs (λ v. v.items)
