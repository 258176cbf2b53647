-- The cut of a piece, one unit after another, by the test of headers that the daemon has.
use Rattle.std.proofs.Common.{◌≡◌, ℕ, Bool, true, false, List, [], ◌∷◌, refl, arith}
use Rattle.std.specs.Prelude.{◌||◌}
use Rattle.std.proofs.lemmas.Bool.Decides.{nat_tests}
use Rattle.desk_laws.specs.declared.cause.Cause.{Cause}
use Rattle.desk_laws.specs.Stream.{StreamUnit, Word, Stop, Whole, Wait, Fault, Takes, front, head_fault, unit_and, cut, is_greeting}
use Rattle.desk_laws.proofs.Cutting.{cut_by-takes, cut_by-fault, cut_by-waits}

-- bytes that begin with a unit
pub cut-takes : (g : Bool) (s : List ℕ) (u : StreamUnit) (r : List ℕ) → front g s ≡ Takes u r → cut g s ≡ unit_and u (cut true r)
cut-takes g s u r e = cut_by-takes head_fault g s u r e

-- bytes that begin with no whole unit
pub cut-waits : (g : Bool) (s : List ℕ) → front g s ≡ Wait → cut g s ≡ record { units = []; rest = s }
cut-waits g s e = cut_by-waits head_fault g s e

-- bytes that begin with a fault
pub cut-faults : (g : Bool) (s : List ℕ) (c : Cause) → front g s ≡ Fault c → cut g s ≡ record { units = Stop c ∷ []; rest = [] }
cut-faults g s c e = cut_by-fault head_fault g s c e

-- after a unit the guest is greeted
pub front-greets : (g : Bool) (s : List ℕ) (u : StreamUnit) (r : List ℕ) → front g s ≡ Takes u r → (is_greeting u || g) ≡ true
front-greets false s u r e = grind (arith, nat_tests)
front-greets true s (Word w) r e = refl
front-greets true s (Stop c) r e = refl
front-greets true s (Whole h b) r e = refl
