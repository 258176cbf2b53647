-- Ports as contracts see them.
use Rattle.std.specs.Prelude.{ℕ, ◌≡◌, ◌<◌, List, [], ◌∷◌}
use Rattle.desk_laws.specs.Frames.{PortState, Pool, Tape, zeros}
use Rattle.frame_pool.specs.Regions.{zero_words}

-- zero words that were never loaded, in so many pages
unfoldable pub fresh : ℕ → PortState
fresh pages = Pool (zero_words pages) 0 []

-- the frames of one guest: a number of pages, and their state
pub record FramesView : Type 0 where
  pub pages : ℕ
  pub state : PortState

-- a number of pages, and the frames of each guest
pub record PoolsView : Type 0 where
  pub pages : ℕ
  pub pools : List FramesView

-- the frames of no guest
abbrev pub no_frames : FramesView
no_frames = record { pages = 0; state = Tape [] }

-- the frames of each guest have so many pages
abbrev pub AllHave : ℕ → List FramesView → Type 0
AllHave pages [] = Unit {0}
AllHave pages (p ∷ pools) = (p.pages ≡ pages) × AllHave pages pools

-- something, as a port or a desk, has so many guests, and each of them has so many pages
pub record HasExtent {A : Type 0} (guests_of pages_of : A → ℕ) (a : A) (many each : ℕ) : Type 0 where
  pub guests : guests_of a ≡ many
  pub pages : pages_of a ≡ each

-- as many guests and pages as before
abbrev pub KeepsExtent : {A : Type 0} → (A → ℕ) → (A → ℕ) → A → A → Type 0
KeepsExtent guests_of pages_of old new = HasExtent guests_of pages_of new (guests_of old) (pages_of old)

-- of a port nothing but the frames of this guest changed
pub record ChangesFrames {P : Type 0} (guests_of pages_of : P → ℕ) (state_of : P → ℕ → PortState) (guest : ℕ) (old new : P) : Type 0 where
  pub others : (other : ℕ) → (other ≡ guest → ⊥) → state_of new other ≡ state_of old other
  pub extent : KeepsExtent guests_of pages_of old new

-- the frames of each of these guests are so many pages of zero words, of which none was loaded, and no
-- store waits
abbrev pub AreZeros : (guests pages : ℕ) → (ℕ → PortState) → Type 0
AreZeros guests pages frames = (guest : ℕ) → guest < guests → frames guest ≡ zeros pages
