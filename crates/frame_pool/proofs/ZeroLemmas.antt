-- The frames that a pool begins with are zero words.
use Rattle.std.proofs.Common.{ℕ, zero, suc, length, get_or, replicate, refl, arith}
use Rattle.std.proofs.lemmas.List.{length-replicate}
use Rattle.frame_pool.specs.Ports.{AreZeros, FramesView, fresh, no_frames}
use Rattle.frame_pool.specs.Regions.{zero_words}

-- so many pages of each guest that were never loaded
abbrev fresh_pages : ℕ → FramesView
fresh_pages pages = record { pages = pages; state = fresh pages }

all_zeros : (guests pages : ℕ) → AreZeros guests pages (λ guest. (get_or (replicate guests (fresh_pages pages)) guest no_frames).state)
unfolding fresh zero_words
all_zeros zero pages guest below = absurd (omega arith)
all_zeros (suc guests) pages zero below = refl
all_zeros (suc guests) pages (suc guest) below = all_zeros guests pages guest (omega arith)

pub pool-zeros : (guests pages : ℕ)
    → AreZeros (length (replicate guests (fresh_pages pages))) pages (λ guest. (get_or (replicate guests (fresh_pages pages)) guest no_frames).state)
pool-zeros guests pages guest below = all_zeros guests pages guest (omega (arith, below, length-replicate guests (fresh_pages pages)))
