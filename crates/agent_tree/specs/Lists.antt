-- Edits of the first element of a list that passes a test.
use Rattle.std.specs.Prelude.{ℕ, ◌≡◌, ◌<◌, Bool, true, false, List, [], ◌∷◌, length, take, slice_index_or, if◌then◌else◌}
use Rattle.std.specs.List.{list_any}

-- the list with this element changed
abbrev pub at_first : {X : Type 0} → (X → Bool) → (X → X) → List X → List X
at_first test f [] = []
at_first test f (x ∷ xs) = if test x then f x ∷ xs else x ∷ at_first test f xs

-- the list without this element
abbrev pub without_first : {X : Type 0} → (X → Bool) → List X → List X
without_first test [] = []
without_first test (x ∷ xs) = if test x then xs else x ∷ without_first test xs

-- k is the index of this element
pub record IsFirst {X : Type 0} (test : X → Bool) (xs : List X) (k : ℕ) : Type 0 where
  pub within : k < length xs
  pub none : list_any test (take k xs) ≡ false
  pub here : (d : X) → test (slice_index_or xs k d) ≡ true
