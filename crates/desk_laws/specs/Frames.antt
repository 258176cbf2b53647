-- The shared frames of one guest, as one who reads them word by word sees them.
use Rattle.std.specs.Prelude.{ℕ, ◌+◌, ◌-◌, ◌*◌, ◌/◌, ◌^◌, min, Bool, not, nat_le, ◌==◌, List, [], ◌∷◌, ◌++◌, filter, length, slice_index, slice_set, replicate, if◌then◌else◌}
use Rattle.gui_wire.specs.Words.{all_words}
use Rattle.desk_laws.specs.declared.limits.TheConstants.{PAGE_WORDS, MAX_WAITING_STORES}

-- a store that waits for its due load
pub record Waiting : Type 0 where
  pub due : ℕ
  pub page : ℕ
  pub offset : ℕ
  pub bytes : List ℕ

-- the state of a port: a pool of words with the loads so far and the waiting stores, or a tape of readings
pub data PortState : Type 0 where
  Pool : (words : List ℕ) (loads : ℕ) (waiting : List Waiting) → PortState
  Tape : (readings : List ℕ) → PortState

-- a count stays at the end of its range
abbrev pub counted : ℕ → ℕ
counted n = min n (2 ^ 64 - 1)

-- words written from an index on
abbrev pub write_words : List ℕ → ℕ → List ℕ → List ℕ
write_words words i [] = words
write_words words i (v ∷ vs) = write_words (slice_set words i v) (i + 1) vs

-- a store written
abbrev pub write : List ℕ → Waiting → List ℕ
write words s = write_words words (PAGE_WORDS * s.page + s.offset / 4) (all_words s.bytes)

-- stores written, one after the other
abbrev pub write_all : List ℕ → List Waiting → List ℕ
write_all words [] = words
write_all words (s ∷ stores) = write_all (write words s) stores

-- stores in order of due load, and then of arrival
abbrev pub put_by_due : Waiting → List Waiting → List Waiting
put_by_due s [] = s ∷ []
put_by_due s (t ∷ stores) = if nat_le s.due t.due then s ∷ t ∷ stores else t ∷ put_by_due s stores

-- stores in order of due load, and then of arrival
abbrev pub by_due : List Waiting → List Waiting
by_due [] = []
by_due (s ∷ stores) = put_by_due s (by_due stores)

-- whether a store is due once so many words were loaded
abbrev pub is_due : ℕ → Waiting → Bool
is_due loads s = nat_le s.due loads

-- the words once the due stores are written, and the stores that still wait
abbrev pub settled_words : List ℕ → ℕ → List Waiting → List ℕ
settled_words words loads waiting = write_all words (by_due (filter (is_due loads) waiting))

-- the stores that are not due yet
abbrev pub still_waiting : ℕ → List Waiting → List Waiting
still_waiting loads waiting = filter (λ s. not (is_due loads s)) waiting

-- one load at a word of a page: the word, and the state after it
abbrev pub load : PortState → ℕ → ℕ → ℕ × PortState
load (Pool words loads waiting) page word = (
  slice_index (settled_words words loads waiting) (PAGE_WORDS * page + word),
  Pool (settled_words words loads waiting) (counted (loads + 1)) (still_waiting loads waiting),
)
load (Tape []) page word = (0, Tape [])
load (Tape (w ∷ readings)) page word = (w, Tape readings)

-- a store, once the due ones are written
abbrev pub stored_in : List ℕ → ℕ → List Waiting → ℕ → ℕ → ℕ → List ℕ → PortState
stored_in words loads waiting delay page offset bytes =
    if delay == 0
    then Pool (write words (record { due = loads; page = page; offset = offset; bytes = bytes })) loads waiting
    else if length waiting == MAX_WAITING_STORES
    then Pool (write words (record { due = loads; page = page; offset = offset; bytes = bytes })) loads waiting
    else Pool words loads (waiting ++ record { due = counted (loads + delay); page = page; offset = offset; bytes = bytes } ∷ [])

-- a change of the frames
abbrev pub store : PortState → ℕ → ℕ → ℕ → List ℕ → PortState
store (Pool words loads waiting) delay page offset bytes =
    stored_in (settled_words words loads waiting) loads (still_waiting loads waiting) delay page offset bytes
store (Tape readings) delay page offset bytes = Tape readings

-- a place to load at
pub record FramePlace : Type 0 where
  pub page : ℕ
  pub word : ℕ

-- loads one after the other: the words, and the state after them
pub record Loads : Type 0 where
  pub words : List ℕ
  pub port : PortState

-- one load before others
abbrev pub load_first : ℕ → Loads → Loads
load_first w g = record { words = w ∷ g.words; port = g.port }

-- loads one after the other
abbrev pub load_all : PortState → List FramePlace → Loads
load_all port [] = record { words = []; port = port }
load_all port (s ∷ frame_places) = load_first (load port s.page s.word).0 (load_all (load port s.page s.word).1 frame_places)

-- the state of a region of zero words
abbrev pub zeros : ℕ → PortState
zeros pages = Pool (replicate (PAGE_WORDS * pages) 0) 0 []
