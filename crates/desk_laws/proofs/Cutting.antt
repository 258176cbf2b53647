-- The law of cutting: a piece may come in two parts, whatever faults headers have.
use Rattle.std.proofs.Common.{◌≡◌, ℕ, zero, suc, ◌<◌, ◌≤◌, Bool, true, false, List, [], ◌∷◌, ◌++◌, length, drop, Option, Some, None, refl, sym, ◌∙◌, ap, arith, length-drop, length-append}
use Rattle.std.specs.Prelude.{◌||◌, if◌then◌else◌, nat_lt, take}
use Rattle.std.proofs.lemmas.Bool.Decides.{nat_tests}
use Rattle.std.proofs.lemmas.List.{drop-append-le, take-append-le}
use Rattle.gui_wire.proofs.WordLemmas.{word_at-append}
use Rattle.gui_wire.specs.declared.Header.{Header}
use Rattle.gui_wire.specs.Headers.{header_at}
use Rattle.gui_wire.specs.Words.{word_at}
use Rattle.desk_laws.specs.declared.cause.Cause.{Cause}
use Rattle.desk_laws.specs.Stream.{StreamUnit, Word, Stop, Whole, Front, Wait, Fault, Takes, front_by, front_of, unit_and, cut_within, cut_by, is_clean, is_greeting, greeted_after}
use Rattle.desk_laws.specs.Cutting.{units_and, continued_by, CutsInPieces}

-- the faults that headers have
abbrev pub Faults : Type 0
Faults = Header → Option Cause

-- ---- what a unit leaves is shorter

front_of-shorter : (c : Option Cause) (h : Header) (s : List ℕ) (u : StreamUnit) (r : List ℕ) → front_of c h s ≡ Takes u r → length r ≤ length s
front_of-shorter (Some c) h s u r e = cc
front_of-shorter None h s u r e = grind (arith, nat_tests, length-drop)

pub front_by-shorter : (f : Faults) (g : Bool) (s : List ℕ) (u : StreamUnit) (r : List ℕ) → front_by f g s ≡ Takes u r → length r < length s
front_by-shorter f false s u r e = grind (arith, nat_tests, length-drop)
front_by-shorter f true s u r e = grind (arith, nat_tests, length-drop, front_of-shorter)

-- one step of the cut, where the cuts of what follows agree
same_step : (f : Faults) (n m : ℕ) (g : Bool) (s : List ℕ) → ((r : List ℕ) → length r < length s → cut_within f n true r ≡ cut_within f m true r)
    → (a : Front) → front_by f g s ≡ a → cut_within f (suc n) g s ≡ cut_within f (suc m) g s
same_step f n m g s same Wait e = rw (e, cut_within)
same_step f n m g s same (Fault c) e = rw (e, cut_within)
same_step f n m g s same (Takes u r) e = rw (e, cut_within) (ap (unit_and u) (same r (front_by-shorter f g s u r e)))

-- with room for all units the bound does not matter
cut_within-any : (f : Faults) (n m : ℕ) (g : Bool) (s : List ℕ) → length s ≤ n → length s ≤ m → cut_within f n g s ≡ cut_within f m g s
cut_within-any f zero zero g s hn hm = refl
cut_within-any f zero (suc m) false [] hn hm = refl
cut_within-any f zero (suc m) true [] hn hm = refl
cut_within-any f zero (suc m) g (x ∷ s) hn hm = absurd (omega arith)
cut_within-any f (suc n) zero false [] hn hm = refl
cut_within-any f (suc n) zero true [] hn hm = refl
cut_within-any f (suc n) zero g (x ∷ s) hn hm = absurd (omega arith)
cut_within-any f (suc n) (suc m) g s hn hm =
    same_step f n m g s (λ r lt. cut_within-any f n m true r (omega arith) (omega arith)) (front_by f g s) refl

-- ---- what follows a unit does not change it

pub header_at-append : (s t : List ℕ) → 12 ≤ length s → header_at (s ++ t) ≡ header_at s
header_at-append s t h =
    let a : word_at 0 (s ++ t) ≡ word_at 0 s = word_at-append 0 s t (omega arith) in
    let b : word_at 1 (s ++ t) ≡ word_at 1 s = word_at-append 1 s t (omega arith) in
    let c : word_at 2 (s ++ t) ≡ word_at 2 s = word_at-append 2 s t (omega arith) in
    simp (a, b, c)

front_of-append : (c : Option Cause) (h : Header) (s t : List ℕ) (u : StreamUnit) (r : List ℕ) → front_of c h s ≡ Takes u r → front_of c h (s ++ t) ≡ Takes u (r ++ t)
front_of-append (Some c) h s t u r e = cc
front_of-append None h s t u r e = grind (arith, nat_tests, length-append {A = ℕ}, drop-append-le {A = ℕ}, take-append-le {A = ℕ})

-- with a whole header the front is that of the header and what is behind it
pub front_by-whole_header : (f : Faults) (s : List ℕ) → 12 ≤ length s → front_by f true s ≡ front_of (f (header_at s)) (header_at s) (drop 12 s)
front_by-whole_header f s h = grind (arith, nat_tests)

pub takes-whole_header : (f : Faults) (s : List ℕ) (u : StreamUnit) (r : List ℕ) → front_by f true s ≡ Takes u r → 12 ≤ length s
takes-whole_header f s u r e = grind (arith, nat_tests)

pub front_by-append : (f : Faults) (g : Bool) (s t : List ℕ) (u : StreamUnit) (r : List ℕ) → front_by f g s ≡ Takes u r → front_by f g (s ++ t) ≡ Takes u (r ++ t)
front_by-append f false s t u r e = grind (arith, nat_tests, length-append {A = ℕ}, drop-append-le {A = ℕ}, word_at-append 0 s t)
front_by-append f true s t u r e =
    let h : 12 ≤ length s = takes-whole_header f s u r e in
    let h' : 12 ≤ length (s ++ t) = omega (arith, length-append s t) in
    front_by-whole_header f (s ++ t) h'
    ∙ ap (λ x. front_of (f x) x (drop 12 (s ++ t))) (header_at-append s t h)
    ∙ ap (front_of (f (header_at s)) (header_at s)) (drop-append-le 12 s t h)
    ∙ front_of-append (f (header_at s)) (header_at s) (drop 12 s) t u r (sym (front_by-whole_header f s h) ∙ e)

-- ---- the law

-- a cut whose first unit is known
pub cut_by-takes : (f : Faults) (g : Bool) (s : List ℕ) (u : StreamUnit) (r : List ℕ) → front_by f g s ≡ Takes u r → cut_by f g s ≡ unit_and u (cut_by f true r)
cut_by-takes f g s u r e =
    let lt : length r < length s = front_by-shorter f g s u r e in
    cut_within-any f (length s) (suc (length s)) g s (omega arith) (omega arith)
    ∙ rw (e, cut_within) (ap (unit_and u) (cut_within-any f (length s) (length r) true r (omega arith) (omega arith)))

-- a cut that begins with a fault
pub cut_by-fault : (f : Faults) (g : Bool) (s : List ℕ) (c : Cause) → front_by f g s ≡ Fault c → cut_by f g s ≡ record { units = Stop c ∷ []; rest = [] }
cut_by-fault f g s c e =
    cut_within-any f (length s) (suc (length s)) g s (omega arith) (omega arith) ∙ rw (e, cut_within) refl

-- a cut with no whole unit
pub cut_by-waits : (f : Faults) (g : Bool) (s : List ℕ) → front_by f g s ≡ Wait → cut_by f g s ≡ record { units = []; rest = s }
cut_by-waits f g s e =
    cut_within-any f (length s) (suc (length s)) g s (omega arith) (omega arith) ∙ rw (e, cut_within) refl

front_by-greets : (f : Faults) (g : Bool) (s : List ℕ) (u : StreamUnit) (r : List ℕ) → front_by f g s ≡ Takes u r → is_greeting u || g ≡ true
front_by-greets f false s u r e = grind (arith, nat_tests)
front_by-greets f true s (Word w) r e = refl
front_by-greets f true s (Stop c) r e = refl
front_by-greets f true s (Whole h b) r e = refl

clean-tail : (u : StreamUnit) (units : List StreamUnit) → is_clean (u ∷ units) ≡ true → is_clean units ≡ true
clean-tail (Word w) units e = e
clean-tail (Stop c) units e = cc
clean-tail (Whole h b) units e = e

law_step : (f : Faults) (n : ℕ) (g : Bool) (s t : List ℕ) → length s ≤ suc n
    → ((r : List ℕ) → length r < length s → is_clean (cut_within f n true r).units ≡ true → cut_by f true (r ++ t) ≡ continued_by f true (cut_within f n true r) t)
    → (a : Front) → front_by f g s ≡ a → is_clean (cut_within f (suc n) g s).units ≡ true → cut_by f g (s ++ t) ≡ continued_by f g (cut_within f (suc n) g s) t
law_step f n g s t room ih Wait e = rw (e, cut_within) (λ clean. refl)
law_step f n g s t room ih (Fault c) e = rw (e, cut_within) (λ clean. cc)
law_step f n g s t room ih (Takes u r) e = rw (e, cut_within) (λ clean.
    cut_by-takes f g (s ++ t) u (r ++ t) (front_by-append f g s t u r e)
    ∙ ap (unit_and u) (ih r (front_by-shorter f g s u r e) (clean-tail u (cut_within f n true r).units clean)
    ∙ ap (λ b. units_and (cut_within f n true r).units (cut_by f (greeted_after (cut_within f n true r).units b) ((cut_within f n true r).rest ++ t))) (sym (front_by-greets f g s u r e))))

law_within : (f : Faults) (n : ℕ) (g : Bool) (s t : List ℕ) → length s ≤ n → is_clean (cut_within f n g s).units ≡ true → cut_by f g (s ++ t) ≡ continued_by f g (cut_within f n g s) t
law_within f zero g s t room clean = refl
law_within f (suc n) g s t room clean =
    law_step f n g s t room (λ r lt. law_within f n true r t (omega arith)) (front_by f g s) refl clean

pub cuts_in_pieces : CutsInPieces
cuts_in_pieces f g s t clean = law_within f (length s) g s t (omega arith) clean

-- ---- where a fault stands in the cut

front_of-append-fault : (c : Option Cause) (h : Header) (s t : List ℕ) (cause : Cause) → front_of c h s ≡ Fault cause → front_of c h (s ++ t) ≡ Fault cause
front_of-append-fault (Some c) h s t cause e = e
front_of-append-fault None h s t cause e = by_room (nat_lt (length s) h.len) e
  where
    by_room : (b : Bool) → (if b then Wait else Takes (Whole h (take h.len s)) (drop h.len s)) ≡ Fault cause → front_of None h (s ++ t) ≡ Fault cause
    by_room true e = cc
    by_room false e = cc

faults-whole_header : (f : Faults) (s : List ℕ) (cause : Cause) → front_by f true s ≡ Fault cause → 12 ≤ length s
faults-whole_header f s cause e = grind (arith, nat_tests)

front_by-append-fault : (f : Faults) (g : Bool) (s t : List ℕ) (cause : Cause) → front_by f g s ≡ Fault cause → front_by f g (s ++ t) ≡ Fault cause
front_by-append-fault f false s t cause e = grind (arith, nat_tests)
front_by-append-fault f true s t cause e =
    let h : 12 ≤ length s = faults-whole_header f s cause e in
    let h' : 12 ≤ length (s ++ t) = omega (arith, length-append s t) in
    front_by-whole_header f (s ++ t) h'
    ∙ ap (λ x. front_of (f x) x (drop 12 (s ++ t))) (header_at-append s t h)
    ∙ ap (front_of (f (header_at s)) (header_at s)) (drop-append-le 12 s t h)
    ∙ front_of-append-fault (f (header_at s)) (header_at s) (drop 12 s) t cause (sym (front_by-whole_header f s h) ∙ e)

unclean-tail : (u : StreamUnit) (units : List StreamUnit) → is_clean (u ∷ units) ≡ false → (f : Faults) (g : Bool) (s r : List ℕ) → front_by f g s ≡ Takes u r → is_clean units ≡ false
unclean-tail (Word w) units e f g s r is = e
unclean-tail (Whole h b) units e f g s r is = e
unclean-tail (Stop c) units e f false s r is = grind (arith, nat_tests)
unclean-tail (Stop c) units e f true s r is = grind (arith, nat_tests)

stops-step : (f : Faults) (n : ℕ) (g : Bool) (s t : List ℕ) → length s ≤ suc n
    → ((r : List ℕ) → length r < length s → is_clean (cut_within f n true r).units ≡ false → cut_by f true (r ++ t) ≡ cut_within f n true r)
    → (a : Front) → front_by f g s ≡ a → is_clean (cut_within f (suc n) g s).units ≡ false → cut_by f g (s ++ t) ≡ cut_within f (suc n) g s
stops-step f n g s t room ih Wait e = rw (e, cut_within) (λ unclean. cc)
stops-step f n g s t room ih (Fault c) e = rw (e, cut_within) (λ unclean. cut_by-fault f g (s ++ t) c (front_by-append-fault f g s t c e))
stops-step f n g s t room ih (Takes u r) e = rw (e, cut_within) (λ unclean.
    cut_by-takes f g (s ++ t) u (r ++ t) (front_by-append f g s t u r e)
    ∙ ap (unit_and u) (ih r (front_by-shorter f g s u r e) (unclean-tail u (cut_within f n true r).units unclean f g s r e)))

stops-within : (f : Faults) (n : ℕ) (g : Bool) (s t : List ℕ) → length s ≤ n → is_clean (cut_within f n g s).units ≡ false → cut_by f g (s ++ t) ≡ cut_within f n g s
stops-within f zero g s t room unclean = cc
stops-within f (suc n) g s t room unclean =
    stops-step f n g s t room (λ r lt. stops-within f n true r t (omega arith)) (front_by f g s) refl unclean

-- bytes behind a fault change nothing
pub cut-stops : (f : Faults) (g : Bool) (s t : List ℕ) → is_clean (cut_by f g s).units ≡ false → cut_by f g (s ++ t) ≡ cut_by f g s
cut-stops f g s t unclean = stops-within f (length s) g s t (omega arith) unclean
