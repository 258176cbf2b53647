-- Spellings can be told apart.
use Rattle.std.specs.Prelude.{ℕ, ◌≡◌, ◌≢◌, ◌<◌, ◌^◌, List, [], ◌++◌}
use Rattle.gui_wire.specs.AgentMessages.{spelling, HasSpelling}
use Rattle.gui_wire.specs.DaemonMessages.{daemon_spelling, HasDaemonSpelling}

-- the second list is the first one and something behind it
abbrev pub IsProperPrefix : List ℕ → List ℕ → Type 0
IsProperPrefix front whole = (rest : List ℕ) × (rest ≢ []) × (front ++ rest ≡ whole)

-- of two pairs of window and message that have spellings: equal spellings are of equal pairs, and
-- neither spelling is the other's front
pub record AreToldApart {M : Type 0} (spelling : ℕ → M → List ℕ) (Has : M → Type 0) : Type 0 where
  pub differ : (v w : ℕ) (m n : M) → v < 2 ^ 32 → w < 2 ^ 32 → Has m → Has n → spelling v m ≡ spelling w n → (v ≡ w) × (m ≡ n)
  pub no_front : (v w : ℕ) (m n : M) → v < 2 ^ 32 → w < 2 ^ 32 → Has m → Has n → IsProperPrefix (spelling v m) (spelling w n) → ⊥

-- the messages from an agent
abbrev pub AgentSpellingsDiffer : Type 0
AgentSpellingsDiffer = AreToldApart spelling HasSpelling

-- the messages to an agent
abbrev pub DaemonSpellingsDiffer : Type 0
DaemonSpellingsDiffer = AreToldApart daemon_spelling HasDaemonSpelling
