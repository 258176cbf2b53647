-- What contracts see of a journal in a file.
use Rattle.std.specs.Prelude.{ℕ, Bool}

-- whether a start has answered Ok, and how often the journal has failed
pub record FileState : Type 0 where
  pub opened : Bool
  pub faults : ℕ
