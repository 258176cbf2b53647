-- Words of which a page is written once it is first stored to.
use Rattle.std.specs.Prelude.{ℕ, ◌≡◌, ◌+◌, ◌/◌, ◌<◌, ◌≤◌, ◌⊎◌, Bool, true, false, List, [], ◌∷◌, length, slice_index_or, slice_set, Option, Some, None, IsSome}
use Rattle.desk_laws.specs.declared.limits.TheConstants.{PAGE_WORDS}

-- a word of a touched page was written, and one of another was not
abbrev pub IsTouched : Bool → Option ℕ → Type 0
IsTouched true word = IsSome word
IsTouched false word = word ≡ None

-- of some words exactly those of the touched pages were written
abbrev pub AreTouched : List Bool → List (Option ℕ) → Type 0
AreTouched touched words =
    (i : ℕ) → i < length words → IsTouched (slice_index_or touched (i / PAGE_WORDS) false) (slice_index_or words i None)

-- n words from an index on were written
abbrev pub AreWritten : List (Option ℕ) → ℕ → ℕ → Type 0
AreWritten words from n = (i : ℕ) → from ≤ i → i < from + n → IsSome (slice_index_or words i None)

-- words stored from an index on
abbrev pub stored_from : List (Option ℕ) → ℕ → List ℕ → List (Option ℕ)
stored_from words i [] = words
stored_from words i (v ∷ vs) = stored_from (slice_set words i (Some v)) (i + 1) vs

-- n words from an index on are zeros, and the others are as they were
pub record IsCleared (old new : List (Option ℕ)) (from n : ℕ) : Type 0 where
  pub zeros : (i : ℕ) → from ≤ i → i < from + n → slice_index_or new i None ≡ Some 0
  pub others : (i : ℕ) → (i < from) ⊎ (from + n ≤ i) → slice_index_or new i None ≡ slice_index_or old i None
  pub len : length new ≡ length old
