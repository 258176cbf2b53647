-- Places that rise, and what moves them.
use Rattle.std.proofs.Common.{◌≡◌, ℕ, zero, suc, ◌-◌, ◌<◌, ◌≤◌, List, [], ◌∷◌, length, get_or, map, refl, ap, arith}
use Rattle.std.proofs.lemmas.List.{length-map, get_or-map}
use Rattle.window_table.specs.Parts.{RisesFrom, last_place, moved, moved_after}

pub rises-ge : (low : ℕ) (places : List ℕ) (k : ℕ) → RisesFrom low places → k < length places → low ≤ get_or places k 0
rises-ge low [] k r h = absurd (omega arith)
rises-ge low (a ∷ places) zero r h = r.0
rises-ge low (a ∷ places) (suc k) r h = let later = rises-ge a places k r.1 (omega arith) in omega (arith, r.0)

pub last-ge : (low : ℕ) (places : List ℕ) → RisesFrom low places → low ≤ last_place low places
last-ge low [] r = omega arith
last-ge low (a ∷ places) r = let later = last-ge a places r.1 in omega (arith, r.0)

pub rises-le_last : (low : ℕ) (places : List ℕ) (k : ℕ) → RisesFrom low places → k < length places → get_or places k 0 ≤ last_place low places
rises-le_last low [] k r h = absurd (omega arith)
rises-le_last low (a ∷ places) zero r h = last-ge a places r.1
rises-le_last low (a ∷ places) (suc k) r h = rises-le_last a places k r.1 (omega arith)

-- a later place is no lower
pub rises-le : (low : ℕ) (places : List ℕ) (j k : ℕ) → RisesFrom low places → j ≤ k → k < length places → get_or places j 0 ≤ get_or places k 0
rises-le low [] j k r le h = absurd (omega arith)
rises-le low (a ∷ places) zero zero r le h = omega arith
rises-le low (a ∷ places) zero (suc k) r le h = rises-ge a places k r.1 (omega arith)
rises-le low (a ∷ places) (suc j) zero r le h = absurd (omega arith)
rises-le low (a ∷ places) (suc j) (suc k) r le h = rises-le a places j k r.1 (omega arith) (omega arith)

rises-map : (taken given low : ℕ) (places : List ℕ) → taken ≤ low → RisesFrom low places → RisesFrom (moved taken given low) (map (moved taken given) places)
rises-map taken given low [] h r = tt
rises-map taken given low (a ∷ places) h r = (omega (arith, r.0), rises-map taken given a places (omega (arith, r.0)) r.1)

last-map : (taken given place : ℕ) (places : List ℕ) → last_place (moved taken given place) (map (moved taken given) places) ≡ moved taken given (last_place place places)
last-map taken given place [] = refl
last-map taken given place (a ∷ places) = last-map taken given a places

pub length-moved_after : (slot taken given : ℕ) (places : List ℕ) → length (moved_after slot taken given places) ≡ length places
length-moved_after slot taken given [] = refl
length-moved_after zero taken given (a ∷ places) = ap suc (length-map places (moved taken given))
length-moved_after (suc slot) taken given (a ∷ places) = ap suc (length-moved_after slot taken given places)

-- the places up to a slot stay
pub get_or-moved_before : (slot taken given : ℕ) (places : List ℕ) (k : ℕ) → k ≤ slot →
    get_or (moved_after slot taken given places) k 0 ≡ get_or places k 0
get_or-moved_before slot taken given [] k h = refl
get_or-moved_before zero taken given (a ∷ places) zero h = refl
get_or-moved_before zero taken given (a ∷ places) (suc k) h = absurd (omega arith)
get_or-moved_before (suc slot) taken given (a ∷ places) zero h = refl
get_or-moved_before (suc slot) taken given (a ∷ places) (suc k) h = get_or-moved_before slot taken given places k (omega arith)

-- those behind it move
pub get_or-moved_behind : (slot taken given : ℕ) (places : List ℕ) (k : ℕ) → slot < k → k < length places →
    get_or (moved_after slot taken given places) k 0 ≡ moved taken given (get_or places k 0)
get_or-moved_behind slot taken given [] k h l = absurd (omega arith)
get_or-moved_behind slot taken given (a ∷ places) zero h l = absurd (omega arith)
get_or-moved_behind zero taken given (a ∷ places) (suc k) h l = get_or-map (moved taken given) places k 0 0 (omega arith)
get_or-moved_behind (suc slot) taken given (a ∷ places) (suc k) h l = get_or-moved_behind slot taken given places k (omega arith) (omega arith)

-- the moved places rise
pub rises-moved : (low slot given : ℕ) (places : List ℕ) → RisesFrom low places → suc slot < length places →
    RisesFrom low (moved_after slot (get_or places (suc slot) 0 - get_or places slot 0) given places)
rises-moved low slot given [] r h = absurd (omega arith)
rises-moved low slot given (a ∷ []) r h = absurd (omega arith)
rises-moved low zero given (a ∷ b ∷ places) r h =
    (r.0, (omega (arith, r.1.0), rises-map (b - a) given b places (omega arith) r.1.1))
rises-moved low (suc slot) given (a ∷ b ∷ places) r h = (r.0, rises-moved a slot given (b ∷ places) r.1 (omega arith))

pub last-moved : (low slot given : ℕ) (places : List ℕ) → RisesFrom low places → suc slot < length places →
    last_place low (moved_after slot (get_or places (suc slot) 0 - get_or places slot 0) given places)
    ≡ moved (get_or places (suc slot) 0 - get_or places slot 0) given (last_place low places)
last-moved low slot given [] r h = absurd (omega arith)
last-moved low slot given (a ∷ []) r h = absurd (omega arith)
last-moved low zero given (a ∷ b ∷ places) r h = last-map (b - a) given b places
last-moved low (suc slot) given (a ∷ b ∷ places) r h = last-moved a slot given (b ∷ places) r.1 (omega arith)
