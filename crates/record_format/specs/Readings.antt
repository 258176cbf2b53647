-- What a reader says of the bytes that it took.
use Rattle.std.specs.Prelude.{◌≡◌, List, ◌++◌, ℕ, Option, Some, Result, Ok, Err}
use Rattle.record_format.specs.Config.{Wrong, Fault, Rule}
use Rattle.record_format.specs.declared.config.ConfigRead.{ConfigRead}
use Rattle.record_format.specs.declared.config.ConfigRead.TheVariants as reads

-- Of these bytes the first were taken, the others are left, and the fact holds of those taken.
pub record Took (bytes : List ℕ) (left : Option (List ℕ)) (fact : List ℕ → Type 0) : Type 0 where
  pub taken : List ℕ
  pub rest : List ℕ
  pub split : bytes ≡ taken ++ rest
  pub is_left : left ≡ Some rest
  pub holds : fact taken

-- What was taken spells this value, whatever follows it.
abbrev pub Spells : {X : Type 0} → (List ℕ → Result (X × List ℕ) Wrong) → X → List ℕ → Type 0
Spells read x taken = (tail : List ℕ) → read (taken ++ tail) ≡ Ok (x, tail)

-- What was taken spells nothing yet.
abbrev pub SpellsNothing : {X : Type 0} → (List ℕ → Result (X × List ℕ) Wrong) → List ℕ → Type 0
SpellsNothing read taken = (wrong : Wrong) × (read taken ≡ Err wrong)

-- What a reader answered, and what it left of the bytes, is what the grammar says of them.
abbrev pub Reads : {X : Type 0} → (List ℕ → Result (X × List ℕ) Wrong) → Result X ConfigRead → List ℕ → Option (List ℕ) → Type 0
Reads read (Ok x) bytes left = Took bytes left (Spells read x)
Reads read (Err reads.Failed) bytes left = Took bytes left (SpellsNothing read)
Reads read (Err (reads.Bad f)) bytes left = read bytes ≡ Err (Fault f)
Reads read (Err (reads.Rule k)) bytes left = read bytes ≡ Err (Rule k)
Reads read (Err reads.NoMemory) bytes left = Unit {0}
