-- How a table finds a window: a key for each, in the order of their ids.
use Rattle.std.specs.Prelude.{ℕ, suc, ◌≡◌, ◌-◌, ◌<◌, ◌≤◌, ◌==◌, List, [], ◌∷◌, length, Option, Some, None, option_map, if◌then◌else◌, slice_index_or}
use Rattle.window_table.specs.declared.index.Key.{Key}
use Rattle.window_table.specs.Entries.{Entry, entry_with}

-- the slot of a window
abbrev pub slot_in : ℕ → List Key → Option ℕ
slot_in window [] = None
slot_in window (key ∷ keys) = if key.window == window then Some key.slot else slot_in window keys

-- the first key's slot, if it is this window's
abbrev pub first_slot : ℕ → List Key → Option ℕ
first_slot window [] = None
first_slot window (key ∷ keys) = if key.window == window then Some key.slot else None

-- windows that rise from one on
abbrev pub RiseFrom : ℕ → List Key → Type 0
RiseFrom low [] = Unit {0}
RiseFrom low (key ∷ keys) = (low ≤ key.window) × RiseFrom (suc key.window) keys

-- the key in front of this place is of a lower window, and the one at it is not
pub record IsPlaceFor (window : ℕ) (keys : List Key) (i : ℕ) : Type 0 where
  pub within : i ≤ length keys
  pub behind : (d : Key) → 0 < i → (slice_index_or keys (i - 1) d).window < window
  pub ahead : (d : Key) → i < length keys → window ≤ (slice_index_or keys i d).window

-- the keys are those of the entries, one for each
pub record IsIndex (entries : List Entry) (keys : List Key) : Type 0 where
  pub rising : RiseFrom 0 keys
  pub count : length keys ≡ length entries
  pub slots : (window : ℕ) → slot_in window keys ≡ option_map (λ e. e.slot) (entry_with window entries)
