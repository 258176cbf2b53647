-- Override-redirect windows in this crate's types, and how far one is moved.
use Rattle.std.specs.Prelude.{ℕ, ℤ, ◌-ℤ◌, unsigned_abs}
use Rattle.desk_laws.specs.Override.{Placement}
use Rattle.redirect_limits.specs.declared.Placed.{Placed}

-- what the rule gives, as the definitions say it
abbrev pub placed_of : Placed → Placement
placed_of placed = record { rect = placed.rect; over = placed.over }

-- how far apart two places are
abbrev pub distance : ℤ → ℤ → ℕ
distance a b = unsigned_abs (b -ℤ a)
