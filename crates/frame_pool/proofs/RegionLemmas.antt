-- Stores that lie in a region.
use Rattle.std.proofs.Common.{◌≡◌, ℕ, zero, suc, ◌+◌, ◌/◌, ◌<◌, ◌≤◌, Bool, true, false, cond, not, List, [], ◌∷◌, ◌++◌, length, remove, replicate, slice_index_or, slice_set, arith}
use Rattle.desk_laws.specs.Frames.{Waiting, is_due, still_waiting}
use Rattle.gui_wire.specs.Words.{all_words}
use Rattle.gui_wire.proofs.WordLemmas.{length-all_words}
use Rattle.frame_pool.specs.Regions.{LiesIn, AllLieIn, no_store}
use Rattle.frame_pool.specs.Ports.{FramesView, AllHave}

-- the words of a store lie in its page
pub word-in-page : (offset k : ℕ) (bytes : List ℕ) → offset + length bytes ≤ 4096 → k < length (all_words bytes) → offset / 4 + k < 1024
word-in-page offset k bytes end below = omega (arith, length-all_words bytes, end, below)

-- one of them
pub lies-at : (words : ℕ) (stores : List Waiting) (at : ℕ) → at < length stores → AllLieIn words stores → LiesIn words (slice_index_or stores at no_store)
lies-at words [] at below all = absurd (omega arith)
lies-at words (s ∷ stores) zero below all = all.0
lies-at words (s ∷ stores) (suc at) below all = lies-at words stores at (omega arith) all.1

-- the others
pub lie-besides : (words : ℕ) (stores : List Waiting) (at : ℕ) → AllLieIn words stores → AllLieIn words (remove stores at)
lie-besides words [] zero all = tt
lie-besides words [] (suc at) all = tt
lie-besides words (s ∷ stores) zero all = all.1
lie-besides words (s ∷ stores) (suc at) all = (all.0, lie-besides words stores at all.1)

-- one more
pub lie-pushed : (words : ℕ) (stores : List Waiting) (s : Waiting) → AllLieIn words stores → LiesIn words s → AllLieIn words (stores ++ s ∷ [])
lie-pushed words [] s all new = (new, tt)
lie-pushed words (t ∷ stores) s all new = (all.0, lie-pushed words stores s all.1 new)

-- those that wait on
pub lie-waiting : (words loads : ℕ) (stores : List Waiting) → AllLieIn words stores → AllLieIn words (still_waiting loads stores)
lie-waiting words loads [] all = tt
lie-waiting words loads (s ∷ stores) all = by (is_due loads s) (lie-waiting words loads stores all.1)
  where
    by : (b : Bool) → AllLieIn words (still_waiting loads stores) →
        AllLieIn words (cond (not b) (s ∷ still_waiting loads stores) (still_waiting loads stores))
    by true later = later
    by false later = (all.0, later)

-- one less
pub length-remove : (stores : List Waiting) (at : ℕ) → at < length stores → length (remove stores at) + 1 ≡ length stores
length-remove [] at below = absurd (omega arith)
length-remove (s ∷ stores) zero below = omega arith
length-remove (s ∷ stores) (suc at) below = omega (arith, length-remove stores at (omega arith))

-- ---- frames that have so many pages

-- one of them
pub has-pages : (pages : ℕ) (pools : List FramesView) (guest : ℕ) (d : FramesView) → guest < length pools → AllHave pages pools → (slice_index_or pools guest d).pages ≡ pages
has-pages pages [] guest d below all = absurd (omega arith)
has-pages pages (p ∷ pools) zero d below all = all.0
has-pages pages (p ∷ pools) (suc guest) d below all = has-pages pages pools guest d (omega arith) all.1

-- one of them is exchanged
pub have-set : (pages : ℕ) (pools : List FramesView) (guest : ℕ) (p : FramesView) → p.pages ≡ pages → AllHave pages pools → AllHave pages (slice_set pools guest p)
have-set pages [] guest p same all = tt
have-set pages (q ∷ pools) zero p same all = (same, all.1)
have-set pages (q ∷ pools) (suc guest) p same all = (all.0, have-set pages pools guest p same all.1)

-- they are all the same
pub have-replicate : (pages n : ℕ) (p : FramesView) → p.pages ≡ pages → AllHave pages (replicate n p)
have-replicate pages zero p same = tt
have-replicate pages (suc n) p same = (same, have-replicate pages n p same)
