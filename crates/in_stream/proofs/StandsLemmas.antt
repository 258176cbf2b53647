-- What is known of the rests that a receive buffer stands for.
use Rattle.std.proofs.Common.{◌≡◌, ℕ, zero, suc, ◌+◌, ◌-◌, ◌<◌, ◌≤◌, Bool, true, false, List, [], ◌∷◌, ◌++◌, length, take, drop, Option, Some, None, refl, sym, ◌∙◌, ap, ◌⊎◌, inl, inr, arith, length-take, length-drop, length-append, append_assoc}
use Rattle.std.proofs.Math.Seq.{drop-append-add}
use Rattle.std.proofs.lemmas.Bool.Decides.{nat_tests}
use Rattle.std.proofs.lemmas.Grind.{common_steps}
use Rattle.std.proofs.lemmas.List.{drop-append-le, take-append-le, take-append-drop, drop-drop}
use Rattle.gui_wire.specs.Headers.{header_at}
use Rattle.desk_laws.specs.Stream.{StreamUnit, Takes, front_by, front_of, head_fault}
use Rattle.desk_laws.proofs.Cutting.{Faults, header_at-append, front_by-whole_header, takes-whole_header}
use Rattle.in_stream.specs.Received.{Received, StandsFor}
use Rattle.in_stream.specs.Taking.{HasUnit, DropsUnit}
use Rattle.in_stream.specs.Invariant.{IsSound}

-- ---- lists

pub none_or_more : (n : ℕ) → (n ≡ 0) ⊎ (0 < n)
none_or_more zero = inl refl
none_or_more (suc n) = inr (omega arith)

pub empty : (xs : List ℕ) → length xs ≡ 0 → xs ≡ []
empty [] e = refl
empty (x ∷ xs) e = absurd (omega arith)

-- what is behind a front of this length
drop-front : (n : ℕ) (xs ys zs : List ℕ) → n ≤ length xs → drop n (take n xs ++ (ys ++ zs)) ≡ ys ++ zs
drop-front n xs ys zs h =
    let e : length (take n xs) ≡ n = omega (arith, length-take n xs) in
    grind (arith, common_steps)

-- ---- the rest that a buffer stands for

pub stands-length : (s : Received) (r : List ℕ) → StandsFor s r → length r ≡ length s.held + s.skipped
stands-length s r h =
    ap length h.rest_is
    ∙ omega (arith, length-append (take 12 s.held) (h.passed ++ drop 12 s.held), length-append h.passed (drop 12 s.held), length-take 12 s.held, length-drop 12 s.held, h.as_many)

pub stands-holds : (s : Received) (r : List ℕ) → s.skipped ≡ 0 → StandsFor s r → r ≡ s.held
stands-holds s r none h =
    h.rest_is ∙ ap (λ p. take 12 s.held ++ (p ++ drop 12 s.held)) (empty h.passed (h.as_many ∙ none)) ∙ take-append-drop 12 s.held

pub holds-stands : (s : Received) (r : List ℕ) → s.skipped ≡ 0 → r ≡ s.held → StandsFor s r
holds-stands s r none e = record { passed = []; as_many = sym none; rest_is = e ∙ sym (take-append-drop 12 s.held) }

pub stands-header : (s : Received) (r : List ℕ) → 12 ≤ length s.held → StandsFor s r → header_at r ≡ header_at s.held
stands-header s r long h =
    let e : 12 ≤ length (take 12 s.held) = omega (arith, length-take 12 s.held) in
    ap header_at h.rest_is ∙ header_at-append (take 12 s.held) (h.passed ++ drop 12 s.held) e
    ∙ sym (header_at-append (take 12 s.held) (drop 12 s.held) e) ∙ ap header_at (take-append-drop 12 s.held)

pub stands-behind : (s : Received) (r : List ℕ) → 12 ≤ length s.held → (h : StandsFor s r) → drop 12 r ≡ h.passed ++ drop 12 s.held
stands-behind s r long h = ap (drop 12) h.rest_is ∙ drop-front 12 s.held h.passed (drop 12 s.held) long

-- a rest has a header where the buffer holds one
pub stands-long : (s : Received) (r : List ℕ) → IsSound s → StandsFor s r → 12 ≤ length r → 12 ≤ length s.held
stands-long s r sound h long =
    elim (none_or_more s.skipped) [
      | inl e ↦ omega (arith, stands-length s r h)
      | inr more ↦ sound.header more
    ]

-- where it holds no header, it holds the rest
pub stands-short : (s : Received) (r : List ℕ) → IsSound s → StandsFor s r → length s.held < 12 → r ≡ s.held
stands-short s r sound h short = elim (none_or_more s.skipped) [
  | inl e ↦ stands-holds s r e h
  | inr more ↦ let long = sound.header more in absurd (omega arith)
]

-- more bytes at the end
pub stands-more : (s : Received) (r more : List ℕ) → IsSound s → StandsFor s r → StandsFor (record s { held = s.held ++ more }) (r ++ more)
stands-more s r more sound h = elim (none_or_more s.skipped) [
  | inl e ↦ holds-stands (record s { held = s.held ++ more }) (r ++ more) e (ap (λ x. x ++ more) (stands-holds s r e h))
  | inr skips ↦
      let long : 12 ≤ length s.held = sound.header skips in
      record {
        passed = h.passed;
        as_many = h.as_many;
        rest_is =
            ap (λ x. x ++ more) h.rest_is ∙ append_assoc (take 12 s.held) (h.passed ++ drop 12 s.held) more
            ∙ ap (λ x. take 12 s.held ++ x) (append_assoc h.passed (drop 12 s.held) more)
            ∙ ap (λ x. x ++ (h.passed ++ (drop 12 s.held ++ more))) (sym (take-append-le 12 s.held more long))
            ∙ ap (λ x. take 12 (s.held ++ more) ++ (h.passed ++ x)) (sym (drop-append-le 12 s.held more long));
      }
]

-- ---- dropped units

word-behind : (f : Faults) (s : List ℕ) (u : StreamUnit) (r : List ℕ) → front_by f false s ≡ Takes u r → (4 ≤ length s) × (r ≡ drop 4 s)
word-behind f s u r e = grind (arith, nat_tests)

pub nothing_skipped : (s : Received) → IsSound s → s.greeted ≡ false → s.skipped ≡ 0
nothing_skipped s sound e = elim (none_or_more s.skipped) [ inl none ↦ none | inr more ↦ let g = sound.greeted more in cc ]

pub drops_word : (s : Received) → IsSound s → s.greeted ≡ false → DropsUnit s (record s { greeted = true; held = drop 4 s.held })
drops_word s sound first r u b h e =
    let none : s.skipped ≡ 0 = nothing_skipped s sound first in
    let w = word-behind head_fault r u b (rw first at e) in
    holds-stands (record s { greeted = true; held = drop 4 s.held }) b none (w.1 ∙ ap (drop 4) (stands-holds s r none h))

front_of-behind : (f : Option _) (h : _) (s : List ℕ) (u : StreamUnit) (r : List ℕ) → front_of f h s ≡ Takes u r → (h.len ≤ length s) × (r ≡ drop h.len s)
front_of-behind (Some c) h s u r e = cc
front_of-behind None h s u r e = grind (arith, nat_tests)

pub message-behind : (f : Faults) (s : List ℕ) (u : StreamUnit) (r : List ℕ) → front_by f true s ≡ Takes u r → (12 ≤ length s) × ((header_at s).len ≤ length (drop 12 s)) × (r ≡ drop (header_at s).len (drop 12 s))
message-behind f s u r e =
    let long : 12 ≤ length s = takes-whole_header f s u r e in
    let w = front_of-behind (f (header_at s)) (header_at s) (drop 12 s) u r (sym (front_by-whole_header f s long) ∙ e) in
    (long, w.0, w.1)

-- a body of which some bytes were passed over
drop-passed : (n : ℕ) (p xs : List ℕ) → length p ≤ n → drop n (p ++ xs) ≡ drop (n - length p) xs
drop-passed n p xs h =
    let e : n ≡ length p + (n - length p) = omega arith in
    ap (λ k. drop k (p ++ xs)) e ∙ drop-append-add p xs (n - length p)

pub bounded : (s : Received) → IsSound s → 12 ≤ length s.held → s.skipped ≤ (header_at s.held).len
bounded s sound long = elim (none_or_more s.skipped) [ inl none ↦ omega arith | inr more ↦ sound.bounded more ]

-- a whole message is held from its header to its end, but for what was passed over
pub holds_message : (s : Received) → IsSound s → s.greeted ≡ true → HasUnit s → (12 ≤ length s.held) × (12 + ((header_at s.held).len - s.skipped) ≤ length s.held)
holds_message s sound greeted unit =
    let m = message-behind head_fault unit.rest unit.unit unit.behind (rw greeted at unit.takes) in
    let long : 12 ≤ length s.held = stands-long s unit.rest sound unit.stands m.0 in
    let e : (header_at unit.rest).len ≡ (header_at s.held).len = ap (λ x. x.len) (stands-header s unit.rest long unit.stands) in
    let b = bounded s sound long in
    (long, omega (arith, e, b, m.1, stands-length s unit.rest unit.stands, length-drop 12 unit.rest))

pub drops_message : (s : Received) (g : Bool) → IsSound s → s.greeted ≡ true → DropsUnit s (record s { greeted = g; held = drop (12 + ((header_at s.held).len - s.skipped)) s.held; skipped = 0 })
drops_message s g sound greeted r u b h e =
    let m = message-behind head_fault r u b (rw greeted at e) in
    let long : 12 ≤ length s.held = stands-long s r sound h m.0 in
    let le : length h.passed ≤ (header_at s.held).len = omega (arith, h.as_many, bounded s sound long) in
    holds-stands (record s { greeted = g; held = drop (12 + ((header_at s.held).len - s.skipped)) s.held; skipped = 0 }) b refl
    (m.2 ∙ ap (λ x. drop x.len (drop 12 r)) (stands-header s r long h) ∙ ap (drop (header_at s.held).len) (stands-behind s r long h)
    ∙ drop-passed (header_at s.held).len h.passed (drop 12 s.held) le
    ∙ ap (λ n. drop ((header_at s.held).len - n) (drop 12 s.held)) h.as_many
    ∙ drop-drop ((header_at s.held).len - s.skipped) 12 s.held)
