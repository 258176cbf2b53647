-- What wires in memory hold, one call after another.
use Rattle.std.proofs.Common.{◌≡◌, refl, ap, ℕ, zero, suc, ◌<◌, ◌≤◌, List, [], ◌∷◌, ◌++◌, length, take, get_or, Err, arith}
use Rattle.io_ports.specs.Content.{Grows}
use Rattle.io_ports.specs.Counts.{Rose}
use Rattle.io_ports.specs.Links.{Sends}
use Rattle.io_ports.specs.Memory.{Kept, KeepsMore, told_of}
use Rattle.io_ports.specs.MemWires.{counts_of, sent_to, traffic_in}
use Rattle.io_ports.specs.declared.send_fails.SendCounts.{SendCounts}

-- a default at the end of a list changes nothing of what it has
pub default_behind : {X : Type 0} (xs : List X) (d : X) (i : ℕ) → get_or (xs ++ d ∷ []) i d ≡ get_or xs i d
default_behind [] d zero = refl
default_behind [] d (suc i) = refl
default_behind (x ∷ xs) d zero = refl
default_behind (x ∷ xs) d (suc i) = default_behind xs d i

-- what is told of bytes grows as they are kept
pub kept_grows : (old new : Kept ℕ) (bytes : List ℕ) → KeepsMore old bytes new → Grows (told_of old) bytes (told_of new)
kept_grows old new bytes kept = grind arith

-- a send that failed after the first n bytes
pub sends_part : (guest : ℕ) (bytes : List ℕ) (n : ℕ) (sent sent' : List (Kept ℕ)) (counts counts' : List SendCounts)
    → n < length bytes
    → KeepsMore (sent_to sent guest) (take n bytes) (sent_to sent' guest)
    → (counts_of counts guest).faults ≤ (counts_of counts' guest).faults
    → Rose (counts_of counts guest).faults (counts_of counts' guest).faults
    → ((other : ℕ) → (other ≡ guest → ⊥) → sent_to sent' other ≡ sent_to sent other)
    → ((other : ℕ) → (other ≡ guest → ⊥) → counts_of counts' other ≡ counts_of counts other)
    → Sends {T = Unit {0}} guest bytes (Err (record { sent = n })) (traffic_in sent counts) (traffic_in sent' counts')
sends_part guest bytes n sent sent' counts counts' less kept later rose same_sent same_counts = record {
  to_guest = (less, kept_grows _ _ (take n bytes) kept, later, rose);
  others = λ other no. (ap told_of (same_sent other no), ap (λ (c : SendCounts). c.faults) (same_counts other no));
}
