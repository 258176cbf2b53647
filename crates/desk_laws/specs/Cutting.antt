-- What is known of the cut of a guest's bytes: it doesn't matter in which pieces they come.
use Rattle.std.specs.Prelude.{◌≡◌, ℕ, Bool, true, List, ◌++◌, Option}
use Rattle.gui_wire.specs.declared.Header.{Header}
use Rattle.desk_laws.specs.declared.cause.Cause.{Cause}
use Rattle.desk_laws.specs.Stream.{StreamUnit, Cut, cut_by, greeted_after, is_clean}

-- these units, and then those of a cut
abbrev pub units_and : List StreamUnit → Cut → Cut
units_and units cut = record { units = units ++ cut.units; rest = cut.rest }

-- a cut, and then that of its rest followed by more bytes: greeted where the first one ended greeted
abbrev pub continued_by : (Header → Option Cause) → Bool → Cut → List ℕ → Cut
continued_by fault_of greeted first more =
    units_and first.units (cut_by fault_of (greeted_after first.units greeted) (first.rest ++ more))

-- whatever faults headers have: where no fault stands in the cut of some bytes, the cut of these and
-- more bytes has its units, and then those of its rest followed by the other bytes
abbrev pub CutsInPieces : Type 0
CutsInPieces =
    (fault_of : Header → Option Cause) (greeted : Bool) (bytes more : List ℕ)
    → is_clean (cut_by fault_of greeted bytes).units ≡ true
    → cut_by fault_of greeted (bytes ++ more) ≡ continued_by fault_of greeted (cut_by fault_of greeted bytes) more
