-- Counts of faults, one call after another.
use Rattle.std.proofs.Common.{inl, inr, ℕ, ◌≤◌, arith}
use Rattle.io_ports.specs.Counts.{Rose, one_more}

-- a count that didn't fall before it rose, rose
pub rose_late : (a b c : ℕ) → a ≤ b → Rose b c → Rose a c
rose_late a b c later (inl more) = inl (omega arith)
rose_late a b c later (inr most) = inr most

-- a count that rose and didn't fall after it, rose
pub rose_early : (a b c : ℕ) → Rose a b → b ≤ c → Rose a c
rose_early a b c (inl more) later = inl (omega arith)
rose_early a b c (inr most) later = inr (omega arith)

-- one more is more, or the most
pub rose_one_more : (n : ℕ) → Rose n (one_more n)
rose_one_more n = grind arith

-- a count that is always 0 doesn't rise
pub not_rose_zero : Rose 0 0 → ⊥
not_rose_zero (inl more) = omega arith
not_rose_zero (inr most) = omega arith
