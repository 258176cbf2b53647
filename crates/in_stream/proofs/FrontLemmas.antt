-- What is known of what a receive buffer shows.
use Rattle.std.proofs.Common.{◌≡◌, ℕ, ◌+◌, ◌-◌, ◌<◌, ◌≤◌, Bool, true, false, ◌==◌, nat_le, if◌then◌else◌, List, [], ◌∷◌, ◌++◌, length, take, drop, Option, Some, None, Result, Ok, Err, refl, sym, ◌∙◌, ap, inl, inr, arith, length-drop, length-append}
use Rattle.std.specs.Prelude.{◌&&◌}
use Rattle.std.proofs.lemmas.Bool.Decides.{nat_tests}
use Rattle.gui_wire.specs.declared.Header.{Header}
use Rattle.gui_wire.specs.declared.LengthRule.{LengthRule}
use Rattle.gui_wire.specs.declared.LengthRule.TheVariants.{Unknown, Exactly, Clip, Dump}
use Rattle.gui_wire.specs.declared.WireFault.{WireFault}
use Rattle.gui_wire.specs.declared.WireFault.TheVariants.{Length}
use Rattle.gui_wire.specs.AgentMessages.{rules, rule_in, rule_of, fits_rule}
use Rattle.gui_wire.specs.Headers.{header_at, head_result}
use Rattle.desk_laws.specs.declared.cause.Cause.{Cause}
use Rattle.desk_laws.specs.declared.cause.Cause.TheVariants.{BadLength, ClipTooLong}
use Rattle.desk_laws.specs.Stream as stream
use Rattle.desk_laws.specs.Stream.{StreamUnit, Front, Wait, Fault, Takes, front_by, front_of, fault_by, head_fault}
use Rattle.desk_laws.proofs.Cutting.{front_by-whole_header}
use Rattle.in_stream.proofs.StandsLemmas.{empty, stands-length, stands-header, stands-short}
use Rattle.in_stream.proofs.TakingLemmas.{passes-short, passes-long, lt_or_le}
use Rattle.in_stream.specs.Taking.{passes, room}
use Rattle.in_stream.specs.Received.{Received, StandsFor, longest}
use Rattle.in_stream.specs.Invariant.{IsSound}
use Rattle.in_stream.specs.Shown.{Whole, Bad, ClipLong, Skipped, Skipping, Need, is_passed_over, lacking, waiting, faulty, complete, shown_of, shown}

-- ---- rules by type

-- what is known of a type by its rule
abbrev pub Typed : ℕ → LengthRule → Type 0
Typed kind Unknown = Unit {0}
Typed kind (Exactly n) = n ≤ 128
Typed kind Clip = kind ≡ 140
Typed kind Dump = Unit {0}

abbrev pub AllTyped : List (ℕ × LengthRule) → Type 0
AllTyped [] = Unit {0}
AllTyped (r ∷ rs) = Typed r.0 r.1 × AllTyped rs

typed_choice : (b : Bool) (kind key : ℕ) (x y : LengthRule) → (b ≡ true → kind ≡ key) → Typed key x → Typed kind y → Typed kind (if b then x else y)
typed_choice true kind key x y e hx hy = rw (e refl) hx
typed_choice false kind key x y e hx hy = hy

typed_in : (rs : List (ℕ × LengthRule)) (kind : ℕ) → AllTyped rs → Typed kind (rule_in rs kind)
typed_in [] kind h = tt
typed_in (r ∷ rs) kind h = typed_choice (kind == r.0) kind r.0 r.1 (rule_in rs kind) (λ e. grind (arith, nat_tests)) h.0 (typed_in rs kind h.1)

typed : (kind : ℕ) → Typed kind (rule_of kind)
typed kind = typed_in rules kind (search arith)

-- ---- headers with a fault, and without one

abbrev pub TellsBad : Header → WireFault → Option Cause → Type 0
TellsBad h f None = ⊥
TellsBad h f (Some cause) = faulty h cause ≡ Bad h f

-- the answer of a header whose length fits, or doesn't
abbrev pub checked : Bool → Header → Result (Unit {0}) WireFault
checked fits h = if fits then Ok tt else Err (Length h.len)

length_bad : (fits : Bool) (h : Header) (f : WireFault) → checked fits h ≡ Err f → TellsBad h f (if fits then None else Some (BadLength h.len 0))
length_bad true h f bad = cc
length_bad false h f bad = cc

tells_bad_by : (x : LengthRule) (h : Header) (f : WireFault) → rule_of h.kind ≡ x → head_result h ≡ Err f → TellsBad h f (fault_by (rule_of h.kind) h)
tells_bad_by Unknown h f e bad = rw e (let b = rw e at bad in cc)
tells_bad_by (Exactly n) h f e bad = rw e (length_bad (fits_rule (Exactly n) h.len) h f (rw e at bad))
tells_bad_by Clip h f e bad = let b = rw e at bad in absurd cc
tells_bad_by Dump h f e bad = rw e (length_bad (fits_rule Dump h.len) h f (rw e at bad))

length_good : (fits : Bool) (h : Header) → checked fits h ≡ Ok tt → (if fits then None else Some (BadLength h.len 0)) ≡ None
length_good true h good = refl
length_good false h good = cc

faultless_by : (x : LengthRule) (h : Header) → rule_of h.kind ≡ x → Typed h.kind x → head_result h ≡ Ok tt → (h.kind ≡ 140 → h.len ≤ 256000) → fault_by (rule_of h.kind) h ≡ None
faultless_by Unknown h e t good short = let b = rw e at good in cc
faultless_by (Exactly n) h e t good short = rw e (length_good (fits_rule (Exactly n) h.len) h (rw e at good))
faultless_by Clip h e t good short = rw e (let le : h.len ≤ 256000 = short t in grind (arith, nat_tests))
faultless_by Dump h e t good short = rw e (length_good (fits_rule Dump h.len) h (rw e at good))

pub faultless : (h : Header) → head_result h ≡ Ok tt → (h.kind ≡ 140 → h.len ≤ 256000) → head_fault h ≡ None
faultless h good short = faultless_by (rule_of h.kind) h refl (typed h.kind) good short

clip_fault : (h : Header) → h.kind ≡ 140 → 256000 < h.len → head_fault h ≡ Some (ClipTooLong h.len 0)
clip_fault h e long =
    let c : rule_of h.kind ≡ Clip = ap rule_of e in
    rw c (grind (arith, nat_tests))

-- ---- what is shown

-- with a header, what is shown is by that header and what is behind it
shown-header : (limit : ℕ) (r : List ℕ) → 12 ≤ length r → shown limit r ≡ shown_of limit r (front_of (head_fault (header_at r)) (header_at r) (drop 12 r))
shown-header limit r long = ap (shown_of limit r) (front_by-whole_header head_fault r long)

pub shown-short : (limit : ℕ) (r : List ℕ) → length r < 12 → shown limit r ≡ Need (12 - length r)
shown-short limit r short = grind (arith, nat_tests)

bad_by : (limit : ℕ) (c : Option Cause) (r xs : List ℕ) (f : WireFault) → TellsBad (header_at r) f c → shown_of limit r (front_of c (header_at r) xs) ≡ Bad (header_at r) f
bad_by limit None r xs f t = absurd t
bad_by limit (Some c) r xs f t = t

pub shown-bad : (limit : ℕ) (r : List ℕ) (f : WireFault) → 12 ≤ length r → head_result (header_at r) ≡ Err f → shown limit r ≡ Bad (header_at r) f
shown-bad limit r f long bad =
    shown-header limit r long ∙ bad_by limit (head_fault (header_at r)) r (drop 12 r) f (tells_bad_by (rule_of (header_at r).kind) (header_at r) f refl bad)

pub shown-clip_long : (limit : ℕ) (r : List ℕ) → 12 ≤ length r → (header_at r).kind ≡ 140 → 256000 < (header_at r).len → shown limit r ≡ ClipLong (header_at r)
shown-clip_long limit r long e over =
    shown-header limit r long ∙ ap (λ c. shown_of limit r (front_of c (header_at r) (drop 12 r))) (clip_fault (header_at r) e over)

-- the message of a header without a fault
shown-message : (limit : ℕ) (r : List ℕ) → 12 ≤ length r → head_fault (header_at r) ≡ None → shown limit r ≡ shown_of limit r (front_of None (header_at r) (drop 12 r))
shown-message limit r long none = shown-header limit r long ∙ ap (λ c. shown_of limit r (front_of c (header_at r) (drop 12 r))) none

lacks_by : (limit : ℕ) (h : Header) (r xs : List ℕ) → length xs < h.len → shown_of limit r (front_of None h xs) ≡ waiting limit r
lacks_by limit h r xs lt = grind (arith, nat_tests)

whole_by : (limit : ℕ) (h : Header) (r xs : List ℕ) → h.len ≤ length xs → shown_of limit r (front_of None h xs) ≡ complete limit (stream.Whole h (take h.len xs))
whole_by limit h r xs le = grind (arith, nat_tests)

waiting_by : (passed_over : Bool) (r : List ℕ) (n : ℕ) → 12 ≤ length r → lacking r ≡ n
    → (if nat_le 12 (length r) && passed_over then Skipping (lacking r) else Need (lacking r)) ≡ (if passed_over then Skipping n else Need n)
waiting_by true r n long e = grind (arith, nat_tests)
waiting_by false r n long e = grind (arith, nat_tests)

lacking-message : (r : List ℕ) → 12 ≤ length r → lacking r ≡ 12 + (header_at r).len - length r
lacking-message r long = grind (arith, nat_tests)

-- a message that isn't whole: of its body, these bytes were passed over, and these are there
pub message_lacks : (limit : ℕ) (r p b : List ℕ) (h : Header) (n : ℕ) → 12 ≤ length r → header_at r ≡ h → head_fault h ≡ None → length p ≡ n → drop 12 r ≡ p ++ b → n + length b < h.len
    → shown limit r ≡ (if is_passed_over limit h then Skipping (h.len - (n + length b)) else Need (h.len - (n + length b)))
message_lacks limit r p b h n long e none len behind lt =
    let l : length (drop 12 r) ≡ n + length b = ap length behind ∙ omega (arith, length-append p b, len) in
    let k : (header_at r).len ≡ h.len = ap (λ x. x.len) e in
    let m : lacking r ≡ h.len - (n + length b) = lacking-message r long ∙ omega (arith, l, k, length-drop 12 r) in
    shown-message limit r long (ap head_fault e ∙ none) ∙ lacks_by limit (header_at r) r (drop 12 r) (omega (arith, l, k))
    ∙ waiting_by (is_passed_over limit (header_at r)) r (h.len - (n + length b)) long m
    ∙ ap (λ x. if is_passed_over limit x then Skipping (h.len - (n + length b)) else Need (h.len - (n + length b))) e

-- a whole message
pub message_whole : (limit : ℕ) (r p b : List ℕ) (h : Header) (n : ℕ) → 12 ≤ length r → header_at r ≡ h → head_fault h ≡ None → length p ≡ n → drop 12 r ≡ p ++ b → h.len ≤ n + length b
    → (is_passed_over limit h ≡ false → n ≡ 0) → shown limit r ≡ (if is_passed_over limit h then Skipped h else Whole h (take h.len b))
message_whole limit r p b h n long e none len behind le kept =
    let l : length (drop 12 r) ≡ n + length b = ap length behind ∙ omega (arith, length-append p b, len) in
    let k : (header_at r).len ≡ h.len = ap (λ x. x.len) e in
    shown-message limit r long (ap head_fault e ∙ none) ∙ whole_by limit (header_at r) r (drop 12 r) (omega (arith, l, k))
    ∙ ap (λ x. complete limit (stream.Whole x (take x.len (drop 12 r)))) e
    ∙ whole_kept (is_passed_over limit h) h (take h.len (drop 12 r)) (take h.len b) (λ no. ap (take h.len) (behind ∙ ap (λ x. x ++ b) (empty p (len ∙ kept no))))
  where
    whole_kept : (passed_over : Bool) (h : Header) (xs ys : List ℕ) → (passed_over ≡ false → xs ≡ ys) → (if passed_over then Skipped h else Whole h xs) ≡ (if passed_over then Skipped h else Whole h ys)
    whole_kept true h xs ys same = refl
    whole_kept false h xs ys same = ap (Whole h) (same refl)

-- ---- what is shown of the bytes that a buffer stands for

pub front-short : (s : Received) (r : List ℕ) → IsSound s → StandsFor s r → length s.held < 12 → Need (12 - length s.held) ≡ shown s.limit r
front-short s r sound h short =
    let e : r ≡ s.held = stands-short s r sound h short in
    let l : length r ≡ length s.held = ap length e in
    ap (λ n. Need (12 - n)) (sym l) ∙ sym (shown-short s.limit r (omega arith))

pub front-bad : (s : Received) (r : List ℕ) (f : WireFault) → StandsFor s r → 12 ≤ length s.held → head_result (header_at s.held) ≡ Err f → Bad (header_at s.held) f ≡ shown s.limit r
front-bad s r f h long bad =
    let e : header_at r ≡ header_at s.held = stands-header s r long h in
    ap (λ x. Bad x f) (sym e) ∙ sym (shown-bad s.limit r f (omega (arith, stands-length s r h)) (ap head_result e ∙ bad))

pub front-clip_long : (s : Received) (r : List ℕ) → StandsFor s r → 12 ≤ length s.held → (header_at s.held).kind ≡ 140 → 256000 < (header_at s.held).len → ClipLong (header_at s.held) ≡ shown s.limit r
front-clip_long s r h long clip over =
    let e : header_at r ≡ header_at s.held = stands-header s r long h in
    let k : (header_at r).len ≡ (header_at s.held).len = ap (λ x. x.len) e in
    ap ClipLong (sym e) ∙ sym (shown-clip_long s.limit r (omega (arith, stands-length s r h)) (ap (λ x. x.kind) e ∙ clip) (omega (arith, k)))

-- ---- room

-- a body whose header has no fault is short, whatever is passed over
short_by : (x : LengthRule) (h : Header) → rule_of h.kind ≡ x → Typed h.kind x → fault_by (rule_of h.kind) h ≡ None → h.len ≤ 393232
short_by Unknown h e t none = let b = rw e at none in cc
short_by (Exactly n) h e t none = let b = rw e at none in grind (arith, nat_tests)
short_by Clip h e t none = let b = rw e at none in grind (arith, nat_tests)
short_by Dump h e t none = let b = rw e at none in grind (arith, nat_tests)

short_body : (h : Header) → head_fault h ≡ None → h.len ≤ 393232
short_body h none = short_by (rule_of h.kind) h refl (typed h.kind) none

waits-faultless : (c : Option Cause) (h : Header) (xs : List ℕ) → front_of c h xs ≡ Wait → (c ≡ None) × (length xs < h.len)
waits-faultless (Some c) h xs e = cc
waits-faultless None h xs e = grind (arith, nat_tests)

room-passed : (over : Bool) (r : List ℕ) (len : ℕ) → 12 ≤ length r → length r < 12 + len → len ≤ 393232
    → 0 < (if over then 12 + len - length r else 0) + (longest - (if over then 12 + (length r - (12 + len)) else length r))
room-passed true r len long lt short = omega arith
room-passed false r len long lt short = omega arith

-- there is room where no unit is whole
pub room-waits : (limit : ℕ) (greeted : Bool) (r : List ℕ) → front_by head_fault greeted r ≡ Wait → 0 < room limit greeted r
room-waits limit false r e = grind (arith, nat_tests)
room-waits limit true r e = elim (lt_or_le (length r) 12) [
  | inl short ↦ let p = passes-short limit true r short in rw p (omega arith)
  | inr long ↦
      let w = waits-faultless (head_fault (header_at r)) (header_at r) (drop 12 r) (sym (front_by-whole_header head_fault r long) ∙ e) in
      let p : passes limit true r ≡ is_passed_over limit (header_at r) = passes-long limit r long in
      rw p (room-passed (is_passed_over limit (header_at r)) r (header_at r).len long (omega (arith, w.1, length-drop 12 r)) (short_body (header_at r) w.0))
]
