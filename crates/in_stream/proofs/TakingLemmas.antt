-- What is known of taking bytes: of a body that is passed over, and of the room for the others.
use Rattle.std.proofs.Common.{◌≡◌, ℕ, zero, suc, ◌+◌, ◌-◌, ◌<◌, ◌≤◌, Bool, true, false, List, ◌++◌, length, take, drop, refl, sym, ◌∙◌, ap, ◌⊎◌, inl, inr, min, arith, length-take, length-drop, length-append, append_assoc}
use Rattle.std.proofs.lemmas.Bool.Decides.{nat_tests}
use Rattle.std.proofs.lemmas.List.{append-nil, take-append-drop, drop-drop, take_all, drop_all, take_at, drop_at}
use Rattle.gui_wire.specs.Headers.{header_at}
use Rattle.desk_laws.proofs.Cutting.{header_at-append}
use Rattle.in_stream.specs.Received.{Received, StandsFor, longest}
use Rattle.in_stream.specs.Shown.{is_passed_over}
use Rattle.in_stream.specs.Taking.{passes, to_skip, kept}
use Rattle.in_stream.specs.Invariant.{IsSound}
use Rattle.in_stream.proofs.StandsLemmas.{empty, stands-length, stands-short, stands-header, nothing_skipped, stands-holds}

-- ---- where nothing is passed over

kept_by : (limit : ℕ) (greeted : Bool) (r : List ℕ) → passes limit greeted r ≡ false → (to_skip limit greeted r ≡ 0) × (kept limit greeted r ≡ length r)
kept_by limit greeted r e = (rw e refl, rw e refl)

pub lt_or_le : (m n : ℕ) → (m < n) ⊎ (n ≤ m)
lt_or_le zero zero = inr (omega arith)
lt_or_le zero (suc n) = inl (omega arith)
lt_or_le (suc m) zero = inr (omega arith)
lt_or_le (suc m) (suc n) = elim (lt_or_le m n) [ inl lt ↦ inl (omega arith) | inr le ↦ inr (omega arith) ]

pub passes-short : (limit : ℕ) (greeted : Bool) (r : List ℕ) → length r < 12 → passes limit greeted r ≡ false
passes-short limit true r short = grind (arith, nat_tests)
passes-short limit false r short = refl

-- nothing is passed over before the version word, nor without a header
pub kept-early : (s : Received) (r : List ℕ) → IsSound s → StandsFor s r → (s.greeted ≡ false) ⊎ (length s.held < 12) → length s.held ≡ kept s.limit s.greeted r
kept-early s r sound h (inl e) = rw e (ap length (sym (stands-holds s r (nothing_skipped s sound e) h)))
kept-early s r sound h (inr short) =
    let e : r ≡ s.held = stands-short s r sound h short in
    sym ((kept_by s.limit s.greeted r (passes-short s.limit s.greeted r (omega (arith, ap length e)))).1 ∙ ap length e)

-- ---- where the body at the front is passed over

pub passes-long : (limit : ℕ) (r : List ℕ) → 12 ≤ length r → passes limit true r ≡ is_passed_over limit (header_at r)
passes-long limit r l = grind (arith, nat_tests)

passes-header : (s : Received) (r : List ℕ) → s.greeted ≡ true → 12 ≤ length s.held → StandsFor s r → passes s.limit s.greeted r ≡ is_passed_over s.limit (header_at s.held)
passes-header s r g long h =
    let l : 12 ≤ length r = omega (arith, stands-length s r h) in
    ap (λ x. passes s.limit x r) g ∙ passes-long s.limit r l ∙ ap (is_passed_over s.limit) (stands-header s r long h)

pub to_skip-passed : (s : Received) (r : List ℕ) → s.greeted ≡ true → 12 ≤ length s.held → is_passed_over s.limit (header_at s.held) ≡ true → StandsFor s r
    → to_skip s.limit s.greeted r ≡ 12 + (header_at s.held).len - (length s.held + s.skipped)
to_skip-passed s r g long over h =
    let p : passes s.limit s.greeted r ≡ true = passes-header s r g long h ∙ over in
    rw p (ap (λ x. 12 + x.len - length r) (stands-header s r long h) ∙ ap (λ n. 12 + (header_at s.held).len - n) (stands-length s r h))

pub kept-passed : (s : Received) (r : List ℕ) → s.greeted ≡ true → 12 ≤ length s.held → is_passed_over s.limit (header_at s.held) ≡ true → StandsFor s r
    → kept s.limit s.greeted r ≡ 12 + (length s.held + s.skipped - (12 + (header_at s.held).len))
kept-passed s r g long over h =
    let p : passes s.limit s.greeted r ≡ true = passes-header s r g long h ∙ over in
    rw p (ap (λ x. 12 + (length r - (12 + x.len))) (stands-header s r long h) ∙ ap (λ n. 12 + (n - (12 + (header_at s.held).len))) (stands-length s r h))

-- bytes that are cut out, or that follow where nothing is left
cut_out : (n : ℕ) (xs more : List ℕ) → (length more ≡ 0) ⊎ (length xs ≤ n) → xs ++ more ≡ (take n xs ++ more) ++ drop n xs
cut_out n xs more (inl none) =
    ap (λ m. xs ++ m) (empty more none) ∙ append-nil xs ∙ sym (take-append-drop n xs)
    ∙ ap (λ x. x ++ drop n xs) (sym (ap (λ m. take n xs ++ m) (empty more none) ∙ append-nil (take n xs)))
cut_out n xs more (inr all) =
    ap (λ x. x ++ more) (sym (take_all n xs all)) ∙ sym (ap (λ x. (take n xs ++ more) ++ x) (drop_all n xs all) ∙ append-nil (take n xs ++ more))

-- what is held once a part of the body behind the header was cut out
abbrev pub without : Received → ℕ → ℕ → Received
without s here there = record s { held = take 12 s.held ++ drop (12 + here) s.held; skipped = s.skipped + (here + there) }

pub length-without : (s : Received) (here there : ℕ) → 12 + here ≤ length s.held → length (without s here there).held ≡ length s.held - here
length-without s here there le =
    omega (arith, length-append (take 12 s.held) (drop (12 + here) s.held), length-take 12 s.held, length-drop (12 + here) s.held)

header-without : (s : Received) (here there : ℕ) → 12 ≤ length s.held → header_at (without s here there).held ≡ header_at s.held
header-without s here there long =
    let e : 12 ≤ length (take 12 s.held) = omega (arith, length-take 12 s.held) in
    header_at-append (take 12 s.held) (drop (12 + here) s.held) e
    ∙ sym (header_at-append (take 12 s.held) (drop 12 s.held) e) ∙ ap header_at (take-append-drop 12 s.held)

pub sound-without : (s : Received) (here there : ℕ) → IsSound s → s.greeted ≡ true → is_passed_over s.limit (header_at s.held) ≡ true → 12 + here ≤ length s.held
    → s.skipped + (here + there) ≤ (header_at s.held).len → IsSound (without s here there)
sound-without s here there sound g over le fits =
    let e = header-without s here there (omega arith) in
    let l = length-without s here there le in
    let k : (header_at (without s here there).held).len ≡ (header_at s.held).len = ap (λ x. x.len) e in
    record {
      short = omega (arith, l, sound.short);
      greeted = λ _. g;
      header = λ _. omega (arith, l);
      long = λ _. ap (is_passed_over s.limit) e ∙ over;
      bounded = λ _. omega (arith, k, fits);
    }

-- where bytes follow the part that was cut out, nothing of the body is held any more
nothing_left : (here there : ℕ) (xs : List ℕ) → (there ≡ 0) ⊎ (length xs ≤ 12 + here) → (more : List ℕ) → length more ≡ there → (length more ≡ 0) ⊎ (length (drop 12 xs) ≤ here)
nothing_left here there xs (inl none) more m = inl (m ∙ none)
nothing_left here there xs (inr all) more m = inr (omega (arith, length-drop 12 xs))

pub stands-without : (s : Received) (r more : List ℕ) (here there : ℕ) → StandsFor s r → 12 + here ≤ length s.held → length more ≡ there
    → (there ≡ 0) ⊎ (length s.held ≤ 12 + here) → StandsFor (without s here there) (r ++ more)
stands-without s r more here there h le m ends =
    let t : length (take 12 s.held) ≡ 12 = omega (arith, length-take 12 s.held) in
    let d : length (drop 12 s.held) ≡ length s.held - 12 = length-drop 12 s.held in
    record {
      passed = h.passed ++ (take here (drop 12 s.held) ++ more);
      as_many =
          omega (arith, length-append h.passed (take here (drop 12 s.held) ++ more), length-append (take here (drop 12 s.held)) more, length-take here (drop 12 s.held), h.as_many, m);
      rest_is =
          ap (λ x. x ++ more) h.rest_is ∙ append_assoc (take 12 s.held) (h.passed ++ drop 12 s.held) more
          ∙ ap (λ x. take 12 s.held ++ x) (append_assoc h.passed (drop 12 s.held) more)
          ∙ ap (λ x. take 12 s.held ++ (h.passed ++ x)) (cut_out here (drop 12 s.held) more (nothing_left here there s.held ends more m))
          ∙ ap (λ x. take 12 s.held ++ x) (sym (append_assoc h.passed (take here (drop 12 s.held) ++ more) (drop here (drop 12 s.held))))
          ∙ ap (λ x. take 12 s.held ++ ((h.passed ++ (take here (drop 12 s.held) ++ more)) ++ x)) (drop-drop here 12 s.held ∙ sym (drop_at (take 12 s.held) (drop (12 + here) s.held) 12 t))
          ∙ ap (λ x. x ++ ((h.passed ++ (take here (drop 12 s.held) ++ more)) ++ drop 12 (without s here there).held)) (sym (take_at (take 12 s.held) (drop (12 + here) s.held) 12 t));
    }

-- the numbers of bytes: of n that follow, and with a body of len bytes of which some were skipped behind
-- a header that is held with `held` bytes in all
pub record Counted (n len held skipped here there : ℕ) : Type 0 where
  pub inside : 12 + here ≤ held
  pub bounded : skipped + (here + there) ≤ len
  pub ends : (there ≡ 0) ⊎ (held ≤ 12 + here)
  pub there_is : there ≡ min n (12 + len - (held + skipped))
  pub left_is : held - here ≡ 12 + (held + skipped - (12 + len))

ends_by : (n len held skipped here there : ℕ) → here ≡ min (len - skipped) (held - 12) → there ≡ min n (len - skipped - here) → (len - skipped < held - 12) ⊎ (held - 12 ≤ len - skipped) → (there ≡ 0) ⊎ (held ≤ 12 + here)
ends_by n len held skipped here there e f (inl lt) = inl (omega arith)
ends_by n len held skipped here there e f (inr le) = inr (omega arith)

pub counted : (n len held skipped here there : ℕ) → 12 ≤ held → skipped ≤ len → here ≡ min (len - skipped) (held - 12) → there ≡ min n (len - skipped - here) → Counted n len held skipped here there
counted n len held skipped here there long le e f = record {
  inside = omega arith;
  bounded = omega arith;
  ends = ends_by n len held skipped here there e f (lt_or_le (len - skipped) (held - 12));
  there_is = omega arith;
  left_is = omega arith;
}

-- ---- bytes that are held

pub sound-more : (s : Received) (more : List ℕ) → IsSound s → length s.held + length more ≤ longest → IsSound (record s { held = s.held ++ more })
sound-more s more sound fits = record {
  short = omega (arith, length-append s.held more);
  greeted = sound.greeted;
  header = λ skips. omega (arith, length-append s.held more, sound.header skips);
  long = λ skips. ap (is_passed_over s.limit) (header_at-append s.held more (sound.header skips)) ∙ sound.long skips;
  bounded = λ skips. omega (arith, ap (λ x. x.len) (header_at-append s.held more (sound.header skips)), sound.bounded skips);
}

-- the bytes that are passed over, and then those that there is room for
pub taken_in_all : (n over held taken more : ℕ) → taken ≡ min n over → more ≡ min (n - taken) (longest - held) → taken + more ≡ min n (over + (longest - held))
taken_in_all n over held taken more e f = omega arith
