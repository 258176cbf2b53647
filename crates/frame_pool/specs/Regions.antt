-- A region of words, and stores that lie in it.
use Rattle.std.specs.Prelude.{ℕ, ◌≡◌, ◌+◌, ◌*◌, ◌<◌, ◌≤◌, ◌%◌, List, [], ◌∷◌, length, replicate, slice_index_or}
use Rattle.desk_laws.specs.declared.limits.TheConstants.{PAGE_BYTES, PAGE_WORDS}
use Rattle.desk_laws.specs.Frames.{Waiting}

-- the words of so many pages, all zero
unfoldable pub zero_words : ℕ → List ℕ
zero_words pages = replicate (PAGE_WORDS * pages) 0

-- a store whose words lie in one page of a region of so many words
pub record LiesIn (words : ℕ) (s : Waiting) : Type 0 where
  pub page : PAGE_WORDS * s.page + PAGE_WORDS ≤ words
  pub offset : s.offset % 4 ≡ 0
  pub whole : length s.bytes % 4 ≡ 0
  pub end : s.offset + length s.bytes ≤ PAGE_BYTES

-- each store lies in a region of so many words
abbrev pub AllLieIn : ℕ → List Waiting → Type 0
AllLieIn words [] = Unit {0}
AllLieIn words (s ∷ stores) = LiesIn words s × AllLieIn words stores

-- a store of no bytes
abbrev pub no_store : Waiting
no_store = record { due = 0; page = 0; offset = 0; bytes = [] }

-- the load at which the store with index k, from 0, is due
abbrev pub due_at : List Waiting → ℕ → ℕ
due_at stores k = (slice_index_or stores k no_store).due

-- the store with this index is due first, and the first of those that are due with it
pub record IsFirst (stores : List Waiting) (at : ℕ) : Type 0 where
  pub below : at < length stores
  pub lowest : (k : ℕ) → k < length stores → due_at stores at ≤ due_at stores k
  pub first : (k : ℕ) → k < at → due_at stores at < due_at stores k

-- no store is due before this load
abbrev pub NotBefore : ℕ → List Waiting → Type 0
NotBefore n [] = Unit {0}
NotBefore n (s ∷ stores) = (n ≤ s.due) × NotBefore n stores
