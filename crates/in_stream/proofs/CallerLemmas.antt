-- What a caller may conclude from what a receive buffer shows: how the cut of the bytes begins, and
-- that the buffer may drop the unit.
use Rattle.std.proofs.Common.{◌≡◌, ℕ, ◌≤◌, Bool, true, false, nat_lt, nat_le, if◌then◌else◌, List, ◌++◌, length, take, drop, Option, Some, None, refl, sym, ◌∙◌, ap, subst, ◌⊎◌, inl, inr, arith}
use Rattle.std.specs.Prelude.{◌&&◌, replicate}
use Rattle.std.proofs.lemmas.Bool.Decides.{nat_tests}
use Rattle.std.proofs.lemmas.List.{length-replicate}
use Rattle.gui_wire.specs.declared.Header.{Header}
use Rattle.gui_wire.specs.declared.LengthRule.{LengthRule}
use Rattle.gui_wire.specs.declared.LengthRule.TheVariants.{Unknown, Exactly, Clip, Dump}
use Rattle.gui_wire.specs.declared.WireFault.{WireFault}
use Rattle.gui_wire.specs.declared.WireFault.TheVariants.{Kind, Length}
use Rattle.gui_wire.specs.AgentMessages.{rule_of, fits_rule}
use Rattle.gui_wire.specs.Headers.{header_at}
use Rattle.desk_laws.specs.declared.cause.Cause.{Cause}
use Rattle.desk_laws.specs.declared.cause.Cause.TheVariants.{BadType, BadLength, ClipTooLong}
use Rattle.desk_laws.specs.Stream as stream
use Rattle.desk_laws.specs.Stream.{StreamUnit, Front, Wait, Fault, Takes, front_by, front_of, fault_by, head_fault}
use Rattle.desk_laws.proofs.Cutting.{front_by-whole_header, takes-whole_header}
use Rattle.in_stream.specs.Received.{Received, StandsFor}
use Rattle.in_stream.specs.Shown.{Shown, Whole, Bad, ClipLong, Skipped, Skipping, Need, is_passed_over, waiting, lacking, faulty, complete, shown_of, shown, word_of, word_shown}
use Rattle.in_stream.specs.Taking.{HasUnit}

-- a rest that the buffer stands for, with zeros for what was passed over
abbrev pub some_rest : Received → List ℕ
some_rest s = take 12 s.held ++ (replicate s.skipped 0 ++ drop 12 s.held)

pub stands-some_rest : (s : Received) → StandsFor s (some_rest s)
stands-some_rest s = record { passed = replicate s.skipped 0; as_many = length-replicate s.skipped 0; rest_is = refl }

-- ---- three kinds of what is shown, of which none is another

abbrev IsWaiting : Shown → Type 0
IsWaiting (Skipping left) = Unit {0}
IsWaiting (Need more) = Unit {0}
IsWaiting shown = ⊥

abbrev IsFaulty : Shown → Type 0
IsFaulty (Bad header fault) = Unit {0}
IsFaulty (ClipLong header) = Unit {0}
IsFaulty shown = ⊥

abbrev IsComplete : Shown → Type 0
IsComplete (Whole header body) = Unit {0}
IsComplete (Skipped header) = Unit {0}
IsComplete shown = ⊥

waiting_not_faulty : (x : Shown) → IsWaiting x → IsFaulty x → ⊥
waiting_not_faulty (Need n) a b = b
waiting_not_faulty (Skipping n) a b = b
waiting_not_faulty x a b = a

waiting_not_complete : (x : Shown) → IsWaiting x → IsComplete x → ⊥
waiting_not_complete (Need n) a b = b
waiting_not_complete (Skipping n) a b = b
waiting_not_complete x a b = a

faulty_not_complete : (x : Shown) → IsFaulty x → IsComplete x → ⊥
faulty_not_complete (Bad h f) a b = b
faulty_not_complete (ClipLong h) a b = b
faulty_not_complete x a b = a

waiting_by : (over : Bool) (n : ℕ) → IsWaiting (if over then Skipping n else Need n)
waiting_by true n = tt
waiting_by false n = tt

waiting-is : (limit : ℕ) (r : List ℕ) → IsWaiting (waiting limit r)
waiting-is limit r = waiting_by (nat_le 12 (length r) && is_passed_over limit (header_at r)) (lacking r)

faulty-is : (h : Header) (c : Cause) → IsFaulty (faulty h c)
faulty-is h (BadType a b) = tt
faulty-is h (BadLength a b) = tt
faulty-is h c = tt

complete_by : (over : Bool) (h : Header) (b : List ℕ) → IsComplete (if over then Skipped h else Whole h b)
complete_by true h b = tt
complete_by false h b = tt

complete-is : (limit : ℕ) (h : Header) (b : List ℕ) → IsComplete (complete limit (stream.Whole h b))
complete-is limit h b = complete_by (is_passed_over limit h) h b

-- after the version word each unit is a message
abbrev IsMessage : StreamUnit → Type 0
IsMessage (stream.Word word) = ⊥
IsMessage (stream.Stop cause) = ⊥
IsMessage (stream.Whole header body) = Unit {0}

message_by : (c : Option Cause) (h : Header) (xs : List ℕ) (u : StreamUnit) (behind : List ℕ) → front_of c h xs ≡ Takes u behind → IsMessage u
message_by (Some c) h xs u behind e = absurd cc
message_by None h xs (stream.Word w) behind e = grind (arith, nat_tests)
message_by None h xs (stream.Stop c) behind e = grind (arith, nat_tests)
message_by None h xs (stream.Whole g b) behind e = tt

takes-message : (r : List ℕ) (u : StreamUnit) (behind : List ℕ) → front_by head_fault true r ≡ Takes u behind → IsMessage u
takes-message r u behind e =
    message_by (head_fault (header_at r)) (header_at r) (drop 12 r) u behind (sym (front_by-whole_header head_fault r (takes-whole_header head_fault r u behind e)) ∙ e)

-- ---- no unit is whole

waits_by : (limit : ℕ) (a : Front) (r : List ℕ) → front_by head_fault true r ≡ a → IsWaiting (shown_of limit r a) → a ≡ Wait
waits_by limit Wait r f w = refl
waits_by limit (Fault c) r f w = absurd (waiting_not_faulty (faulty (header_at r) c) w (faulty-is (header_at r) c))
waits_by limit (Takes (stream.Word w) behind) r f x = absurd (takes-message r (stream.Word w) behind f)
waits_by limit (Takes (stream.Stop c) behind) r f x = absurd (takes-message r (stream.Stop c) behind f)
waits_by limit (Takes (stream.Whole h b) behind) r f x = absurd (waiting_not_complete (complete limit (stream.Whole h b)) x (complete-is limit h b))

shown-waits : (limit : ℕ) (r : List ℕ) → IsWaiting (shown limit r) → front_by head_fault true r ≡ Wait
shown-waits limit r w = waits_by limit (front_by head_fault true r) r refl w

-- where bytes are needed, the cut has no unit
pub shown-need : (limit : ℕ) (r : List ℕ) (more : ℕ) → shown limit r ≡ Need more → front_by head_fault true r ≡ Wait
shown-need limit r more e = shown-waits limit r (subst IsWaiting (sym e) tt)

pub shown-skipping : (limit : ℕ) (r : List ℕ) (left : ℕ) → shown limit r ≡ Skipping left → front_by head_fault true r ≡ Wait
shown-skipping limit r left e = shown-waits limit r (subst IsWaiting (sym e) tt)

-- ---- a unit is whole

-- a message, shown as the buffer shows it
pub record ShowsMessage (limit : ℕ) (r : List ℕ) (h : Header) (x : Shown) : Type 0 where
  pub body : List ℕ
  pub behind : List ℕ
  pub takes : front_by head_fault true r ≡ Takes (stream.Whole h body) behind
  pub as_shown : complete limit (stream.Whole h body) ≡ x

abbrev header_shown : Shown → Option Header
header_shown (Whole header body) = Some header
header_shown (Skipped header) = Some header
header_shown shown = None

header_shown-complete : (over : Bool) (h : Header) (b : List ℕ) → header_shown (if over then Skipped h else Whole h b) ≡ Some h
header_shown-complete true h b = refl
header_shown-complete false h b = refl

message_shown : (limit : ℕ) (a : Front) (r : List ℕ) (h : Header) (x : Shown) → front_by head_fault true r ≡ a → shown_of limit r a ≡ x → header_shown x ≡ Some h → IsComplete x → ShowsMessage limit r h x
message_shown limit Wait r h x f e k is = absurd (waiting_not_complete (waiting limit r) (waiting-is limit r) (subst IsComplete (sym e) is))
message_shown limit (Fault c) r h x f e k is = absurd (faulty_not_complete (faulty (header_at r) c) (faulty-is (header_at r) c) (subst IsComplete (sym e) is))
message_shown limit (Takes (stream.Word w) behind) r h x f e k is = absurd (takes-message r (stream.Word w) behind f)
message_shown limit (Takes (stream.Stop c) behind) r h x f e k is = absurd (takes-message r (stream.Stop c) behind f)
message_shown limit (Takes (stream.Whole g b) behind) r h x f e k is =
    let same : Some g ≡ Some h = sym (header_shown-complete (is_passed_over limit g) g b) ∙ ap header_shown e ∙ k in
    let s : g ≡ h = cc in
    record { body = b; behind = behind; takes = f ∙ ap (λ y. Takes (stream.Whole y b) behind) s; as_shown = ap (λ y. complete limit (stream.Whole y b)) (sym s) ∙ e }

whole_body : (over : Bool) (h : Header) (b c : List ℕ) → (if over then Skipped h else Whole h b) ≡ Whole h c → b ≡ c
whole_body true h b c e = cc
whole_body false h b c e = cc

skipped_over : (over : Bool) (h : Header) (b : List ℕ) → (if over then Skipped h else Whole h b) ≡ Skipped h → over ≡ true
skipped_over true h b e = refl
skipped_over false h b e = cc

-- a whole message is shown where the cut begins with it
pub shown-whole : (limit : ℕ) (r : List ℕ) (h : Header) (b : List ℕ) → shown limit r ≡ Whole h b → (behind : List ℕ) × (front_by head_fault true r ≡ Takes (stream.Whole h b) behind)
shown-whole limit r h b e =
    let m = message_shown limit (front_by head_fault true r) r h (Whole h b) refl e refl tt in
    (m.behind, m.takes ∙ ap (λ y. Takes (stream.Whole h y) m.behind) (whole_body (is_passed_over limit h) h m.body b m.as_shown))

-- clipboard data whose body was skipped is shown where the cut begins with its message
pub shown-skipped : (limit : ℕ) (r : List ℕ) (h : Header) → shown limit r ≡ Skipped h → ShowsMessage limit r h (Skipped h) × (is_passed_over limit h ≡ true)
shown-skipped limit r h e =
    let m = message_shown limit (front_by head_fault true r) r h (Skipped h) refl e refl tt in
    (m, skipped_over (is_passed_over limit h) h m.body m.as_shown)

-- the buffer may drop what it shows
pub has_unit-whole : (s : Received) (r : List ℕ) (h : Header) (b : List ℕ) → s.greeted ≡ true → StandsFor s r → shown s.limit r ≡ Whole h b → HasUnit s
has_unit-whole s r h b g stands e =
    let m = shown-whole s.limit r h b e in
    record { rest = r; unit = stream.Whole h b; behind = m.0; stands = stands; takes = rw g m.1 }

pub has_unit-skipped : (s : Received) (r : List ℕ) (h : Header) → s.greeted ≡ true → StandsFor s r → shown s.limit r ≡ Skipped h → HasUnit s
has_unit-skipped s r h g stands e =
    let m = (shown-skipped s.limit r h e).0 in
    record { rest = r; unit = stream.Whole h m.body; behind = m.behind; stands = stands; takes = rw g m.takes }

word_takes : (a : Front) (w : ℕ) → word_of a ≡ Some w → (behind : List ℕ) × (a ≡ Takes (stream.Word w) behind)
word_takes Wait w e = absurd cc
word_takes (Fault c) w e = absurd cc
word_takes (Takes (stream.Word v) behind) w e = let s : v ≡ w = cc in (behind, ap (λ y. Takes (stream.Word y) behind) s)
word_takes (Takes (stream.Stop c) behind) w e = absurd cc
word_takes (Takes (stream.Whole h b) behind) w e = absurd cc

-- the version word is shown where the cut begins with it
pub shown-word : (r : List ℕ) (w : ℕ) → word_shown r ≡ Some w → (behind : List ℕ) × (front_by head_fault false r ≡ Takes (stream.Word w) behind)
shown-word r w e = word_takes (front_by head_fault false r) w e

pub has_unit-word : (s : Received) (r : List ℕ) (w : ℕ) → s.greeted ≡ false → StandsFor s r → word_shown r ≡ Some w → HasUnit s
has_unit-word s r w g stands e =
    let m = shown-word r w e in
    record { rest = r; unit = stream.Word w; behind = m.0; stands = stands; takes = rw g m.1 }

-- ---- a header has a fault

-- the fault of the cut that an answer tells
abbrev pub cause_of : WireFault → Cause
cause_of (Kind kind) = BadType kind 0
cause_of (Length len) = BadLength len 0

abbrev IsCauseOf : Header → Option Cause → Type 0
IsCauseOf h None = Unit {0}
IsCauseOf h (Some c) = (c ≡ BadType h.kind 0) ⊎ ((c ≡ BadLength h.len 0) ⊎ (c ≡ ClipTooLong h.len 0))

length_cause : (fits : Bool) (h : Header) → IsCauseOf h (if fits then None else Some (BadLength h.len 0))
length_cause true h = tt
length_cause false h = inr (inl refl)

clip_cause : (over : Bool) (h : Header) → IsCauseOf h (if over then Some (ClipTooLong h.len 0) else None)
clip_cause true h = inr (inr refl)
clip_cause false h = tt

cause_by : (x : LengthRule) (h : Header) → rule_of h.kind ≡ x → IsCauseOf h (fault_by (rule_of h.kind) h)
cause_by Unknown h e = rw e (inl refl)
cause_by (Exactly n) h e = rw e (length_cause (fits_rule (Exactly n) h.len) h)
cause_by Clip h e = rw e (clip_cause (nat_lt 256000 h.len) h)
cause_by Dump h e = rw e (length_cause (fits_rule Dump h.len) h)

fault_from : (c : Option Cause) (h : Header) (xs : List ℕ) (d : Cause) → front_of c h xs ≡ Fault d → c ≡ Some d
fault_from (Some c) h xs d e = cc
fault_from None h xs d e = grind (arith, nat_tests)

fault-long : (r : List ℕ) (d : Cause) → front_by head_fault true r ≡ Fault d → 12 ≤ length r
fault-long r d e = grind (arith, nat_tests)

-- the fault of the cut is that of the header
fault-is : (r : List ℕ) (d : Cause) → front_by head_fault true r ≡ Fault d → IsCauseOf (header_at r) (Some d)
fault-is r d e =
    let f : head_fault (header_at r) ≡ Some d =
    fault_from (head_fault (header_at r)) (header_at r) (drop 12 r) d (sym (front_by-whole_header head_fault r (fault-long r d e)) ∙ e) in
    subst (IsCauseOf (header_at r)) f (cause_by (rule_of (header_at r).kind) (header_at r) refl)

-- what is shown for a cause: the fault that tells it, or that the clipboard data is too long
abbrev IsToldFor : Header → Cause → Shown → Type 0
IsToldFor h c (Bad g f) = c ≡ cause_of f
IsToldFor h c (ClipLong g) = c ≡ ClipTooLong g.len 0
IsToldFor h c shown = Unit {0}

told_by : (h : Header) (c : Cause) → IsCauseOf h (Some c) → IsToldFor h c (faulty h c)
told_by h c (inl e) = rw e refl
told_by h c (inr (inl e)) = rw e refl
told_by h c (inr (inr e)) = rw e refl

bad_shown : (limit : ℕ) (a : Front) (r : List ℕ) (x : Shown) → front_by head_fault true r ≡ a → shown_of limit r a ≡ x → IsFaulty x → (c : Cause) × (a ≡ Fault c) × IsToldFor (header_at r) c x
bad_shown limit Wait r x f e is = absurd (waiting_not_faulty (waiting limit r) (waiting-is limit r) (subst IsFaulty (sym e) is))
bad_shown limit (Fault c) r x f e is = (c, refl, subst (IsToldFor (header_at r) c) e (told_by (header_at r) c (fault-is r c f)))
bad_shown limit (Takes (stream.Word w) behind) r x f e is = absurd (takes-message r (stream.Word w) behind f)
bad_shown limit (Takes (stream.Stop c) behind) r x f e is = absurd (takes-message r (stream.Stop c) behind f)
bad_shown limit (Takes (stream.Whole h b) behind) r x f e is = absurd (faulty_not_complete (complete limit (stream.Whole h b)) (subst IsFaulty (sym e) is) (complete-is limit h b))

-- a bad header is shown where the cut begins with its fault
pub shown-fault : (limit : ℕ) (r : List ℕ) (h : Header) (f : WireFault) → shown limit r ≡ Bad h f → front_by head_fault true r ≡ Fault (cause_of f)
shown-fault limit r h f e = let b = bad_shown limit (front_by head_fault true r) r (Bad h f) refl e tt in b.1 ∙ ap Fault b.2

-- clipboard data that is too long is shown where the cut begins with that fault
pub shown-clip_fault : (limit : ℕ) (r : List ℕ) (h : Header) → shown limit r ≡ ClipLong h → front_by head_fault true r ≡ Fault (ClipTooLong h.len 0)
shown-clip_fault limit r h e = let b = bad_shown limit (front_by head_fault true r) r (ClipLong h) refl e tt in b.1 ∙ ap Fault b.2
