-- How a receive buffer takes bytes and drops units.
use Rattle.std.specs.Prelude.{◌≡◌, ℕ, ◌+◌, ◌-◌, Bool, ◌&&◌, nat_le, List, length, if◌then◌else◌}
use Rattle.gui_wire.specs.Headers.{header_at}
use Rattle.desk_laws.specs.Stream.{StreamUnit, Takes, front_by, head_fault}
use Rattle.in_stream.specs.Received.{Received, StandsFor, longest}
use Rattle.in_stream.specs.Shown.{is_passed_over}

-- whether the bytes begin with a message whose body is passed over
abbrev pub passes : ℕ → Bool → List ℕ → Bool
passes limit greeted rest = greeted && (nat_le 12 (length rest) && is_passed_over limit (header_at rest))

-- how many bytes that follow are passed over
abbrev pub to_skip : ℕ → Bool → List ℕ → ℕ
to_skip limit greeted rest = if passes limit greeted rest then 12 + (header_at rest).len - length rest else 0

-- how many bytes have to be held: all but a body that is passed over
abbrev pub kept : ℕ → Bool → List ℕ → ℕ
kept limit greeted rest = if passes limit greeted rest then 12 + (length rest - (12 + (header_at rest).len)) else length rest

-- how many bytes that follow can be taken: those that are passed over, and those that there is then
-- room for
abbrev pub room : ℕ → Bool → List ℕ → ℕ
room limit greeted rest = to_skip limit greeted rest + (longest - kept limit greeted rest)

-- a rest that a buffer stands for begins with a unit
pub record HasUnit (stream : Received) : Type 0 where
  pub rest : List ℕ
  pub unit : StreamUnit
  pub behind : List ℕ
  pub stands : StandsFor stream rest
  pub takes : front_by head_fault stream.greeted rest ≡ Takes unit behind

-- the unit at the front is dropped: afterwards the buffer stands for what is behind it
abbrev pub DropsUnit : Received → Received → Type 0
DropsUnit old new =
    (rest : List ℕ) (unit : StreamUnit) (behind : List ℕ) → StandsFor old rest
    → front_by head_fault old.greeted rest ≡ Takes unit behind → StandsFor new behind
