-- What was started: a journal in its file, a wire in its folder.
use Rattle.std.specs.Prelude.{◌≡◌, ◌⊎◌, ℕ, List, [], ◌∷◌, ◌++◌, Bool, if◌then◌else◌, Option, None, Some, option_map}

-- the names of all starts in their order, and that of the last one that succeeded
pub record Starts : Type 0 where
  pub names : List (List ℕ)
  pub running : Option (List ℕ)

-- nothing was started yet
abbrev pub none_started : Starts
none_started = record { names = []; running = None }

-- what was started once a start with this name succeeded or didn't
abbrev pub started : List ℕ → Bool → Starts → Starts
started name succeeded starts = record { names = starts.names ++ name ∷ []; running = if succeeded then Some name else starts.running }

-- one start more is told, or starts aren't told any longer
abbrev pub Begins : Option Starts → List ℕ → Bool → Option Starts → Type 0
Begins before name succeeded after = (after ≡ None) ⊎ (after ≡ option_map (started name succeeded) before)
