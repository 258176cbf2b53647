-- What an object of the outside tells of its bytes: the bytes, or nothing.
use Rattle.std.specs.Prelude.{◌≡◌, ◌⊎◌, ◌≤◌, ℕ, List, ◌++◌, length, take, drop, Option, None, Some}
use Rattle.std.specs.Io.KnownBytes.{append_known}

-- what is written grew by these bytes, unless it isn't told any longer
abbrev pub Grows : Option (List ℕ) → List ℕ → Option (List ℕ) → Type 0
Grows old bytes new = (new ≡ None) ⊎ (new ≡ append_known old bytes)

-- these are the first bytes of those
abbrev pub IsPrefix : List ℕ → List ℕ → Type 0
IsPrefix front whole = (rest : List ℕ) × (front ++ rest ≡ whole)

-- what is written grew by a prefix of these bytes
abbrev pub GrowsPart : Option (List ℕ) → List ℕ → Option (List ℕ) → Type 0
GrowsPart old whole new = (front : List ℕ) × IsPrefix front whole × Grows old front new

-- the first n bytes that were left are at the front of the room, and were taken off
pub record Taken (before : List ℕ) (n : ℕ) (bytes : List ℕ) (after : Option (List ℕ)) : Type 0 where
  pub count : n ≤ length before
  pub room : take n bytes ≡ take n before
  pub left : after ≡ Some (drop n before)

-- where what is left was told, the fact holds of it
abbrev pub Told : {X : Type 0} → Option X → (X → Type 0) → Type 0
Told {X = X} left fact = (told : X) → left ≡ Some told → fact told

-- no content is told
abbrev pub untold : Option (List ℕ)
untold = None
