-- The columns that are left.
use Rattle.std.proofs.Common.{◌≡◌, ℕ, ◌+◌, ◌*◌, ◌≤◌, ◌<◌, Bool, true, false, List, [], ◌∷◌, ◌++◌, length, refl, ◌∙◌, ap, arith, if◌then◌else◌, nat_le, nat_lt, min, max, append_assoc, length-append, length-take, length-drop, take, drop, get_or, zero, suc, ◌-◌, cond, sym}
use lib.Seq.{paste}
use Rattle.std.specs.Prelude.{◌&&◌, ◌||◌, not, flat_map}
use Rattle.std.proofs.lemmas.Bool.Decides.{nat_tests}
use Rattle.std.proofs.lemmas.List.{places, same_lists}
use Rattle.std.specs.List.{filter}
use Rattle.region_clip.specs.Spans.{keep, span_cut, in_spans, ended_by, begun_before, meeting, AreApart}

pub apart-lower : (low low' high : ℕ) (ps : List (ℕ × ℕ)) → low' ≤ low → AreApart low high ps → AreApart low' high ps
apart-lower low low' high [] h a = omega arith
apart-lower low low' high (p ∷ ps) h a = (omega arith, a.1, a.2, a.3)

pub length-apart : (low high : ℕ) (ps : List (ℕ × ℕ)) → AreApart low high ps → 2 * length ps + low ≤ high + 1
length-apart low high [] a = omega arith
length-apart low high (p ∷ ps) a = let r = length-apart (p.1 + 1) high ps a.3 in omega arith

-- spans up to a column, and then others from behind it on
keep-apart : (low high s e mid : ℕ) (ps : List (ℕ × ℕ)) → low ≤ s → e < mid → e ≤ high → low ≤ mid → AreApart mid high ps → AreApart low high (keep s e ++ ps)
keep-apart low high s e mid ps h k m n a = by_test (nat_lt s e) refl
  where
    by_test : (b : Bool) → nat_lt s e ≡ b → AreApart low high ((if b then (s, e) ∷ [] else []) ++ ps)
    by_test true t = (h, grind (arith, nat_tests, t), m, apart-lower mid (e + 1) high ps (omega arith) a)
    by_test false t = apart-lower mid low high ps n a

pub apart-cut : (a b low high : ℕ) (ps : List (ℕ × ℕ)) → a < b → AreApart low high ps → AreApart low high (flat_map (span_cut a b) ps)
apart-cut a b low high [] l h = h
apart-cut a b low high (p ∷ ps) l h =
    let rest = apart-cut a b (p.1 + 1) high ps l h.3 in
    let second : AreApart (min (max p.0 b) (p.1 + 1)) high (keep (max p.0 b) p.1 ++ flat_map (span_cut a b) ps) =
    keep-apart (min (max p.0 b) (p.1 + 1)) high (max p.0 b) p.1 (p.1 + 1) (flat_map (span_cut a b) ps) (omega arith) (omega arith) h.2 (omega arith) rest in
    rw append_assoc (keep-apart low high p.0 (min p.1 a) (min (max p.0 b) (p.1 + 1)) (keep (max p.0 b) p.1 ++ flat_map (span_cut a b) ps)
    h.0 (low_end a b p h.1 l) (omega (arith, h.2)) (let x = h.0 in let y = h.1 in omega arith) second)
  where
    low_end : (a b : ℕ) (p : ℕ × ℕ) → p.0 < p.1 → a < b → min p.1 a < min (max p.0 b) (p.1 + 1)
    low_end a b p h l = omega arith

-- which columns are left
pub in_spans-append : (ps qs : List (ℕ × ℕ)) (x : ℕ) → in_spans (ps ++ qs) x ≡ (in_spans ps x || in_spans qs x)
in_spans-append [] qs x = refl
in_spans-append (p ∷ ps) qs x = grind (arith, in_spans-append ps qs x)

pub keep-in : (s e x : ℕ) → in_spans (keep s e) x ≡ (nat_le s x && nat_lt x e)
keep-in s e x = by_test (nat_lt s e) refl
  where
    by_test : (b : Bool) → nat_lt s e ≡ b → in_spans (if b then (s, e) ∷ [] else []) x ≡ (nat_le s x && nat_lt x e)
    by_test true t = grind (arith, nat_tests)
    by_test false t = grind (arith, nat_tests)

cut-in : (a b s e x : ℕ) → a < b → ((nat_le s x && nat_lt x (min e a)) || (nat_le (max s b) x && nat_lt x e)) ≡ ((nat_le s x && nat_lt x e) && not (nat_le a x && nat_lt x b))
cut-in a b s e x h = grind (arith, nat_tests)

-- the columns that a cut leaves of some spans
pub in_spans-cut_each : (a b : ℕ) (ps : List (ℕ × ℕ)) (x : ℕ) → a < b → in_spans (flat_map (span_cut a b) ps) x ≡ (in_spans ps x && not (nat_le a x && nat_lt x b))
in_spans-cut_each a b [] x h = refl
in_spans-cut_each a b (p ∷ ps) x h =
    let one = cut-in a b p.0 p.1 x h in
    let rest = in_spans-cut_each a b ps x h in
    let e = in_spans-append (span_cut a b p) (flat_map (span_cut a b) ps) x in
    let f = in_spans-append (keep p.0 (min p.1 a)) (keep (max p.0 b) p.1) x in
    let g = keep-in p.0 (min p.1 a) x in
    let k = keep-in (max p.0 b) p.1 x in
    e ∙ grind (arith, f, g, k, one, rest)

-- ---- the spans that meet some columns

-- how many pass a test
count_yes : (q : ℕ × ℕ → Bool) (p : ℕ × ℕ) (ps : List (ℕ × ℕ)) → q p ≡ true → length (filter q (p ∷ ps)) ≡ suc (length (filter q ps))
count_yes q p ps e = ap (λ b. length (cond b (p ∷ filter q ps) (filter q ps))) e

count_no : (q : ℕ × ℕ → Bool) (p : ℕ × ℕ) (ps : List (ℕ × ℕ)) → q p ≡ false → length (filter q (p ∷ ps)) ≡ length (filter q ps)
count_no q p ps e = ap (λ b. length (cond b (p ∷ filter q ps) (filter q ps))) e

count-length : (q : ℕ × ℕ → Bool) (ps : List (ℕ × ℕ)) → length (filter q ps) ≤ length ps
count-length q [] = omega arith
count-length q (p ∷ ps) = by_test (q p) refl (count-length q ps)
  where
    by_test : (b : Bool) → q p ≡ b → length (filter q ps) ≤ length ps → length (filter q (p ∷ ps)) ≤ suc (length ps)
    by_test true e r = omega (arith, count_yes q p ps e)
    by_test false e r = omega (arith, count_no q p ps e)

pub ended-length : (x : ℕ) (ps : List (ℕ × ℕ)) → ended_by x ps ≤ length ps
ended-length x ps = count-length (λ span. nat_le span.1 x) ps

pub begun-length : (x : ℕ) (ps : List (ℕ × ℕ)) → begun_before x ps ≤ length ps
begun-length x ps = count-length (λ span. nat_lt span.0 x) ps

-- each span begins at low or behind it
begins-from : (low high : ℕ) (ps : List (ℕ × ℕ)) (k : ℕ) → AreApart low high ps → k < length ps → (low ≤ (get_or ps k (0, 0)).0) × ((get_or ps k (0, 0)).0 < (get_or ps k (0, 0)).1)
begins-from low high [] k a l = absurd (omega arith)
begins-from low high (p ∷ ps) zero a l = (a.0, a.1)
begins-from low high (p ∷ ps) (suc k) a l = let r = begins-from (p.1 + 1) high ps k a.3 (omega arith) in let x = a.0 in let y = a.1 in (omega arith, r.1)

not_lt : (a b : ℕ) → b ≤ a → nat_lt a b ≡ false
not_lt a b h = grind (arith, nat_tests, h)

not_le : (a b : ℕ) → b < a → nat_le a b ≡ false
not_le a b h = grind (arith, nat_tests, h)

pub is_lt : (a b : ℕ) → a < b → nat_lt a b ≡ true
is_lt a b h = grind (arith, nat_tests, h)

is_le : (a b : ℕ) → a ≤ b → nat_le a b ≡ true
is_le a b h = grind (arith, nat_tests, h)

none-ended : (x low high : ℕ) (ps : List (ℕ × ℕ)) → x ≤ low → AreApart low high ps → ended_by x ps ≡ 0
none-ended x low high [] h a = refl
none-ended x low high (p ∷ ps) h a =
    let u = a.0 in let v = a.1 in
    count_no (λ span. nat_le span.1 x) p ps (not_le p.1 x (omega arith)) ∙ none-ended x (p.1 + 1) high ps (omega arith) a.3

none-begun : (x low high : ℕ) (ps : List (ℕ × ℕ)) → x ≤ low → AreApart low high ps → begun_before x ps ≡ 0
none-begun x low high [] h a = refl
none-begun x low high (p ∷ ps) h a =
    let u = a.0 in let v = a.1 in
    count_no (λ span. nat_lt span.0 x) p ps (not_lt p.0 x (omega arith)) ∙ none-begun x (p.1 + 1) high ps (omega arith) a.3

-- a span that ends at x or before it is one of the first that do, and one that doesn't is behind them
pub ended-more : (x low high : ℕ) (ps : List (ℕ × ℕ)) (k : ℕ) → AreApart low high ps → k < length ps → (get_or ps k (0, 0)).1 ≤ x → k + 1 ≤ ended_by x ps
ended-more x low high [] k a l e = absurd (omega arith)
ended-more x low high (p ∷ ps) zero a l e = omega (arith, count_yes (λ span. nat_le span.1 x) p ps (is_le p.1 x e))
ended-more x low high (p ∷ ps) (suc k) a l e =
    let b = begins-from (p.1 + 1) high ps k a.3 (omega arith) in
    let r = ended-more x (p.1 + 1) high ps k a.3 (omega arith) e in
    let u = b.0 in let v = b.1 in
    omega (arith, count_yes (λ span. nat_le span.1 x) p ps (is_le p.1 x (omega arith)))

pub ended-less : (x low high : ℕ) (ps : List (ℕ × ℕ)) (k : ℕ) → AreApart low high ps → k < length ps → x < (get_or ps k (0, 0)).1 → ended_by x ps ≤ k
ended-less x low high [] k a l e = absurd (omega arith)
ended-less x low high (p ∷ ps) zero a l e = omega (arith, count_no (λ span. nat_le span.1 x) p ps (not_le p.1 x e), none-ended x (p.1 + 1) high ps (omega arith) a.3)
ended-less x low high (p ∷ ps) (suc k) a l e = by_test (nat_le p.1 x) refl (ended-less x (p.1 + 1) high ps k a.3 (omega arith) e)
  where
    by_test : (b : Bool) → nat_le p.1 x ≡ b → ended_by x ps ≤ k → ended_by x (p ∷ ps) ≤ suc k
    by_test true t r = omega (arith, count_yes (λ span. nat_le span.1 x) p ps t)
    by_test false t r = omega (arith, count_no (λ span. nat_le span.1 x) p ps t)

pub begun-more : (x low high : ℕ) (ps : List (ℕ × ℕ)) (k : ℕ) → AreApart low high ps → k < length ps → (get_or ps k (0, 0)).0 < x → k + 1 ≤ begun_before x ps
begun-more x low high [] k a l e = absurd (omega arith)
begun-more x low high (p ∷ ps) zero a l e = omega (arith, count_yes (λ span. nat_lt span.0 x) p ps (is_lt p.0 x e))
begun-more x low high (p ∷ ps) (suc k) a l e =
    let b = begins-from (p.1 + 1) high ps k a.3 (omega arith) in
    let r = begun-more x (p.1 + 1) high ps k a.3 (omega arith) e in
    let u = b.0 in let v = a.1 in
    omega (arith, count_yes (λ span. nat_lt span.0 x) p ps (is_lt p.0 x (omega arith)))

pub begun-less : (x low high : ℕ) (ps : List (ℕ × ℕ)) (k : ℕ) → AreApart low high ps → k < length ps → x ≤ (get_or ps k (0, 0)).0 → begun_before x ps ≤ k
begun-less x low high [] k a l e = absurd (omega arith)
begun-less x low high (p ∷ ps) zero a l e =
    let v = a.1 in omega (arith, count_no (λ span. nat_lt span.0 x) p ps (not_lt p.0 x e), none-begun x (p.1 + 1) high ps (omega arith) a.3)
begun-less x low high (p ∷ ps) (suc k) a l e = by_test (nat_lt p.0 x) refl (begun-less x (p.1 + 1) high ps k a.3 (omega arith) e)
  where
    by_test : (b : Bool) → nat_lt p.0 x ≡ b → begun_before x ps ≤ k → begun_before x (p ∷ ps) ≤ suc k
    by_test true t r = omega (arith, count_yes (λ span. nat_lt span.0 x) p ps t)
    by_test false t r = omega (arith, count_no (λ span. nat_lt span.0 x) p ps t)

-- some of the spans are apart as well
pub apart-filter : (q : ℕ × ℕ → Bool) (low high : ℕ) (ps : List (ℕ × ℕ)) → AreApart low high ps → AreApart low high (filter q ps)
apart-filter q low high [] a = a
apart-filter q low high (p ∷ ps) a = by_test (q p) (apart-filter q (p.1 + 1) high ps a.3)
  where
    by_test : (b : Bool) → AreApart (p.1 + 1) high (filter q ps) → AreApart low high (cond b (p ∷ filter q ps) (filter q ps))
    by_test true r = (a.0, a.1, a.2, r)
    by_test false r = let u = a.0 in let v = a.1 in apart-lower (p.1 + 1) low high (filter q ps) (omega arith) r

-- from the place i on and before the place j
abbrev pub from_to : ℕ → ℕ → List (ℕ × ℕ) → List (ℕ × ℕ)
from_to i j ps = take (max j i - i) (drop i ps)

one_on : (i j i' j' : ℕ) (p : ℕ × ℕ) (ps : List (ℕ × ℕ)) → i ≡ suc i' → max j i - i ≡ max j' i' - i' → from_to i j (p ∷ ps) ≡ from_to i' j' ps
one_on i j i' j' p ps e f = ap (λ n. take n (drop i (p ∷ ps))) f ∙ ap (λ n. take (max j' i' - i') (drop n (p ∷ ps))) e

-- what is left of the first place where nothing is taken before it
from_zero : (i j : ℕ) (ps : List (ℕ × ℕ)) → i ≡ 0 → from_to i j ps ≡ take j ps
from_zero i j ps e = ap (λ n. take (max j n - n) (drop n ps)) e ∙ (let m : max j 0 - 0 ≡ j = omega arith in ap (λ n. take n ps) m)

meets-none : (a b : ℕ) (p : ℕ × ℕ) (ps : List (ℕ × ℕ)) → (nat_lt a p.1 && nat_lt p.0 b) ≡ false → meeting a b ps ≡ meeting a b (p ∷ ps)
meets-none a b p ps e = ap (λ t. cond t (p ∷ meeting a b ps) (meeting a b ps)) (sym e)

meets-one : (a b : ℕ) (p : ℕ × ℕ) (ps : List (ℕ × ℕ)) → (nat_lt a p.1 && nat_lt p.0 b) ≡ true → p ∷ meeting a b ps ≡ meeting a b (p ∷ ps)
meets-one a b p ps e = ap (λ t. cond t (p ∷ meeting a b ps) (meeting a b ps)) (sym e)

-- the spans that meet some columns stand side by side
pub met-is : (a b low high : ℕ) (ps : List (ℕ × ℕ)) → AreApart low high ps → from_to (ended_by a ps) (begun_before b ps) ps ≡ meeting a b ps
met-is a b low high [] h = refl
met-is a b low high (p ∷ ps) h = by_test (nat_le p.1 a) (nat_lt p.0 b) refl refl (met-is a b (p.1 + 1) high ps h.3)
  where
    by_test : (s t : Bool) → nat_le p.1 a ≡ s → nat_lt p.0 b ≡ t → from_to (ended_by a ps) (begun_before b ps) ps ≡ meeting a b ps
        → from_to (ended_by a (p ∷ ps)) (begun_before b (p ∷ ps)) (p ∷ ps) ≡ meeting a b (p ∷ ps)
    by_test true true e f r =
        let i = count_yes (λ span. nat_le span.1 a) p ps e in
        let j = count_yes (λ span. nat_lt span.0 b) p ps f in
        one_on (ended_by a (p ∷ ps)) (begun_before b (p ∷ ps)) (ended_by a ps) (begun_before b ps) p ps i (omega (arith, i, j)) ∙ r ∙ meets-none a b p ps (grind (arith, nat_tests, e))
    by_test true false e f r =
        let i = count_yes (λ span. nat_le span.1 a) p ps e in
        let j = count_no (λ span. nat_lt span.0 b) p ps f in
        let u = h.1 in
        let z = none-begun b (p.1 + 1) high ps (grind (arith, nat_tests, f, u)) h.3 in
        one_on (ended_by a (p ∷ ps)) (begun_before b (p ∷ ps)) (ended_by a ps) (begun_before b ps) p ps i (omega (arith, i, j, z)) ∙ r ∙ meets-none a b p ps (grind (arith, nat_tests, e))
    by_test false true e f r =
        let z = none-ended a (p.1 + 1) high ps (grind (arith, nat_tests, e)) h.3 in
        let i = count_no (λ span. nat_le span.1 a) p ps e ∙ z in
        let j = count_yes (λ span. nat_lt span.0 b) p ps f in
        from_zero (ended_by a (p ∷ ps)) (begun_before b (p ∷ ps)) (p ∷ ps) i ∙ ap (λ n. take n (p ∷ ps)) j
        ∙ ap (λ qs. p ∷ qs) (sym (from_zero (ended_by a ps) (begun_before b ps) ps z) ∙ r) ∙ meets-one a b p ps (grind (arith, nat_tests, e, f))
    by_test false false e f r =
        let z = none-ended a (p.1 + 1) high ps (grind (arith, nat_tests, e)) h.3 in
        let i = count_no (λ span. nat_le span.1 a) p ps e ∙ z in
        let u = h.1 in
        let y = none-begun b (p.1 + 1) high ps (grind (arith, nat_tests, f, u)) h.3 in
        let j = count_no (λ span. nat_lt span.0 b) p ps f ∙ y in
        from_zero (ended_by a (p ∷ ps)) (begun_before b (p ∷ ps)) (p ∷ ps) i ∙ ap (λ n. take n (p ∷ ps)) j
        ∙ sym (from_zero (ended_by a ps) (begun_before b ps) ps z ∙ ap (λ n. take n ps) y) ∙ r ∙ meets-none a b p ps (grind (arith, nat_tests, f))

-- which of some columns they have
pub met-columns : (a b : ℕ) (ps : List (ℕ × ℕ)) (x : ℕ) → (in_spans (meeting a b ps) x && (nat_le a x && nat_lt x b)) ≡ (in_spans ps x && (nat_le a x && nat_lt x b))
met-columns a b [] x = refl
met-columns a b (p ∷ ps) x = by_test (nat_lt a p.1 && nat_lt p.0 b) refl (met-columns a b ps x)
  where
    by_test : (t : Bool) → (nat_lt a p.1 && nat_lt p.0 b) ≡ t → (in_spans (meeting a b ps) x && (nat_le a x && nat_lt x b)) ≡ (in_spans ps x && (nat_le a x && nat_lt x b))
        → (in_spans (cond t (p ∷ meeting a b ps) (meeting a b ps)) x && (nat_le a x && nat_lt x b)) ≡ (in_spans (p ∷ ps) x && (nat_le a x && nat_lt x b))
    by_test true e r = grind (arith, r)
    by_test false e r = r ∙ grind (arith, nat_tests, e)

-- ---- a cut, by the places of the spans that it meets

pub keep_some : (s e : ℕ) → s < e → keep s e ≡ (s, e) ∷ []
keep_some s e h = ap (λ t. if t then (s, e) ∷ [] else []) (is_lt s e h)

keep_none : (s e : ℕ) → e ≤ s → keep s e ≡ []
keep_none s e h = ap (λ t. if t then (s, e) ∷ [] else []) (not_lt s e h)

pub keep-length : (s e : ℕ) → length (keep s e) ≡ (if nat_lt s e then 1 else 0)
keep-length s e = by_test (nat_lt s e)
  where
    by_test : (t : Bool) → length (if◌then◌else◌ {A = List (ℕ × ℕ)} t ((s, e) ∷ []) []) ≡ (if t then 1 else 0)
    by_test true = refl
    by_test false = refl

-- a span before the cut, or behind it, stays
kept-left : (a b : ℕ) (p : ℕ × ℕ) → a < b → p.0 < p.1 → p.1 ≤ a → span_cut a b p ≡ p ∷ []
kept-left a b p l o h =
    let m : min p.1 a ≡ p.1 = omega arith in
    ap (λ qs. keep p.0 (min p.1 a) ++ qs) (keep_none (max p.0 b) p.1 (omega arith)) ∙ ap (λ n. keep p.0 n ++ []) m ∙ ap (λ qs. qs ++ []) (keep_some p.0 p.1 o)

kept-right : (a b : ℕ) (p : ℕ × ℕ) → a < b → p.0 < p.1 → b ≤ p.0 → span_cut a b p ≡ p ∷ []
kept-right a b p l o h =
    let m : max p.0 b ≡ p.0 = omega arith in
    ap (λ qs. qs ++ keep (max p.0 b) p.1) (keep_none p.0 (min p.1 a) (omega arith)) ∙ ap (λ n. keep n p.1) m ∙ keep_some p.0 p.1 o

all-right : (a b low high : ℕ) (ps : List (ℕ × ℕ)) → a < b → b ≤ low → AreApart low high ps → flat_map (span_cut a b) ps ≡ ps
all-right a b low high [] l h k = refl
all-right a b low high (p ∷ ps) l h k =
    let u = k.0 in let v = k.1 in
    ap (λ qs. qs ++ flat_map (span_cut a b) ps) (kept-right a b p l v (omega arith)) ∙ ap (λ qs. p ∷ qs) (all-right a b (p.1 + 1) high ps l (omega arith) k.3)

-- a cut that meets no span changes nothing
pub cut-none : (a b low high : ℕ) (ps : List (ℕ × ℕ)) → a < b → AreApart low high ps → begun_before b ps ≤ ended_by a ps → flat_map (span_cut a b) ps ≡ ps
cut-none a b low high [] l h k = refl
cut-none a b low high (p ∷ ps) l h k = by_test (nat_le p.1 a) (nat_lt p.0 b) refl refl (cut-none a b (p.1 + 1) high ps l h.3)
  where
    by_test : (s t : Bool) → nat_le p.1 a ≡ s → nat_lt p.0 b ≡ t → (begun_before b ps ≤ ended_by a ps → flat_map (span_cut a b) ps ≡ ps) → flat_map (span_cut a b) (p ∷ ps) ≡ p ∷ ps
    by_test true true e f r =
        let i = count_yes (λ span. nat_le span.1 a) p ps e in
        let j = count_yes (λ span. nat_lt span.0 b) p ps f in
        ap (λ qs. qs ++ flat_map (span_cut a b) ps) (kept-left a b p l h.1 (grind (arith, nat_tests, e))) ∙ ap (λ qs. p ∷ qs) (r (omega (arith, i, j, k)))
    by_test s false e f r = all-right a b b high (p ∷ ps) l (omega arith) (grind (arith, nat_tests, f), h.1, h.2, h.3)
    by_test false true e f r =
        let i = count_no (λ span. nat_le span.1 a) p ps e ∙ none-ended a (p.1 + 1) high ps (grind (arith, nat_tests, e)) h.3 in
        let j = count_yes (λ span. nat_lt span.0 b) p ps f in
        absurd (omega (arith, i, j, k))

-- what a cut leaves of the spans from the place i on up to the place n, and all others
abbrev pub cut_between : ℕ → ℕ → ℕ → ℕ → List (ℕ × ℕ) → List (ℕ × ℕ)
cut_between a b i n ps = take i ps ++ (keep (get_or ps i (0, 0)).0 (min (get_or ps i (0, 0)).1 a) ++ (keep (max (get_or ps n (0, 0)).0 b) (get_or ps n (0, 0)).1 ++ drop (suc n) ps))

between_zero : (a b i n : ℕ) (ps : List (ℕ × ℕ)) → i ≡ 0 → cut_between a b i n ps ≡ keep (get_or ps 0 (0, 0)).0 (min (get_or ps 0 (0, 0)).1 a) ++ (keep (max (get_or ps n (0, 0)).0 b) (get_or ps n (0, 0)).1 ++ drop (suc n) ps)
between_zero a b i n ps e = ap (λ k. cut_between a b k n ps) e

-- where one begins before b, the first does
first-begun : (b low high : ℕ) (ps : List (ℕ × ℕ)) (m : ℕ) → AreApart low high ps → begun_before b ps ≡ suc m → (low ≤ (get_or ps 0 (0, 0)).0) × ((get_or ps 0 (0, 0)).0 < b)
first-begun b low high [] m h e = absurd (omega (arith, e))
first-begun b low high (p ∷ ps) m h e = by_test (nat_lt p.0 b) refl
  where
    by_test : (t : Bool) → nat_lt p.0 b ≡ t → (low ≤ p.0) × (p.0 < b)
    by_test true f = (h.0, grind (arith, nat_tests, f))
    by_test false f =
        let u = h.1 in
        absurd (omega (arith, e, count_no (λ span. nat_lt span.0 b) p ps f, none-begun b (p.1 + 1) high ps (grind (arith, nat_tests, f, u)) h.3))

-- the spans after a cut that meets some
pub cut-some : (a b low high : ℕ) (ps : List (ℕ × ℕ)) (n : ℕ) → a < b → AreApart low high ps → ended_by a ps < begun_before b ps → begun_before b ps ≡ suc n
    → flat_map (span_cut a b) ps ≡ cut_between a b (ended_by a ps) n ps
cut-some a b low high [] n l h k e = absurd (omega arith)
cut-some a b low high (p ∷ ps) n l h k e = by_test (nat_le p.1 a) (nat_lt p.0 b) n refl refl e (λ m. cut-some a b (p.1 + 1) high ps m l h.3)
  where
    by_test : (s t : Bool) (n : ℕ) → nat_le p.1 a ≡ s → nat_lt p.0 b ≡ t → begun_before b (p ∷ ps) ≡ suc n
        → ((m : ℕ) → ended_by a ps < begun_before b ps → begun_before b ps ≡ suc m → flat_map (span_cut a b) ps ≡ cut_between a b (ended_by a ps) m ps)
        → flat_map (span_cut a b) (p ∷ ps) ≡ cut_between a b (ended_by a (p ∷ ps)) n (p ∷ ps)
    by_test s false n d f e r =
        let u = h.1 in
        let z = none-begun b (p.1 + 1) high ps (grind (arith, nat_tests, f, u)) h.3 in
        absurd (omega (arith, count_no (λ span. nat_lt span.0 b) p ps f, z))
    by_test true true zero d f e r =
        let i = count_yes (λ span. nat_le span.1 a) p ps d in
        absurd (omega (arith, i, k))
    by_test true true (suc m) d f e r =
        let i = count_yes (λ span. nat_le span.1 a) p ps d in
        let j = count_yes (λ span. nat_lt span.0 b) p ps f in
        ap (λ qs. qs ++ flat_map (span_cut a b) ps) (kept-left a b p l h.1 (grind (arith, nat_tests, d)))
        ∙ ap (λ qs. p ∷ qs) (r m (omega (arith, i, j, k)) (omega (arith, j, e)))
        ∙ sym (ap (λ k. cut_between a b k (suc m) (p ∷ ps)) i)
    by_test false true zero d f e r =
        let i = count_no (λ span. nat_le span.1 a) p ps d ∙ none-ended a (p.1 + 1) high ps (grind (arith, nat_tests, d)) h.3 in
        let j = count_yes (λ span. nat_lt span.0 b) p ps f in
        append_assoc (keep p.0 (min p.1 a)) (keep (max p.0 b) p.1) (flat_map (span_cut a b) ps)
        ∙ ap (λ qs. keep p.0 (min p.1 a) ++ (keep (max p.0 b) p.1 ++ qs)) (cut-none a b (p.1 + 1) high ps l h.3 (omega (arith, j, e)))
        ∙ sym (between_zero a b (ended_by a (p ∷ ps)) 0 (p ∷ ps) i)
    by_test false true (suc m) d f e r =
        let z = none-ended a (p.1 + 1) high ps (grind (arith, nat_tests, d)) h.3 in
        let i = count_no (λ span. nat_le span.1 a) p ps d ∙ z in
        let j = count_yes (λ span. nat_lt span.0 b) p ps f in
        let g : a < p.1 = grind (arith, nat_tests, d) in
        let first = first-begun b (p.1 + 1) high ps m h.3 (omega (arith, j, e)) in
        append_assoc (keep p.0 (min p.1 a)) (keep (max p.0 b) p.1) (flat_map (span_cut a b) ps)
        ∙ ap (λ qs. keep p.0 (min p.1 a) ++ qs) (
        ap (λ qs. qs ++ flat_map (span_cut a b) ps) (keep_none (max p.0 b) p.1 (omega (arith, first.0, first.1)))
        ∙ r m (omega (arith, j, e, z)) (omega (arith, j, e)) ∙ between_zero a b (ended_by a ps) m ps z
        ∙ ap (λ qs. qs ++ (keep (max (get_or ps m (0, 0)).0 b) (get_or ps m (0, 0)).1 ++ drop (suc m) ps)) (keep_none (get_or ps 0 (0, 0)).0 (min (get_or ps 0 (0, 0)).1 a) (omega (arith, first.0, g))))
        ∙ sym (between_zero a b (ended_by a (p ∷ ps)) (suc m) (p ∷ ps) i)

-- there is room for what is left of a cut
pub room_left : (a b width cap n : ℕ) (ps : List (ℕ × ℕ)) → a < b → AreApart 0 width ps → width < 2 * cap → ended_by a ps < begun_before b ps → begun_before b ps ≡ suc n
    → ended_by a ps + length (keep (get_or ps (ended_by a ps) (0, 0)).0 (min (get_or ps (ended_by a ps) (0, 0)).1 a)) + length (keep (max (get_or ps n (0, 0)).0 b) (get_or ps n (0, 0)).1) + (length ps - suc n) ≤ cap
room_left a b width cap n ps l h w k e =
    let i = ended_by a ps in
    let left = keep (get_or ps i (0, 0)).0 (min (get_or ps i (0, 0)).1 a) in
    let right = keep (max (get_or ps n (0, 0)).0 b) (get_or ps n (0, 0)).1 in
    let s = length-apart 0 width (flat_map (span_cut a b) ps) (apart-cut a b 0 width ps l h) in
    let c : length (flat_map (span_cut a b) ps) ≡ length (take i ps ++ (left ++ (right ++ drop (suc n) ps))) = ap length (cut-some a b 0 width ps n l h k e) in
    let d : length (take i ps ++ (left ++ (right ++ drop (suc n) ps))) ≡ length (take i ps) + (length left + (length right + length (drop (suc n) ps))) =
    length-append (take i ps) (left ++ (right ++ drop (suc n) ps)) ∙ ap (λ m. length (take i ps) + m) (length-append left (right ++ drop (suc n) ps) ∙ ap (λ m. length left + m) (length-append right (drop (suc n) ps))) in
    omega (arith, s, c, d, length-take i ps, length-drop (suc n) ps, ended-length a ps)

-- two parts put in the place of some spans, once what is behind them is moved
pub joined : (xs l r : List (ℕ × ℕ)) (first past count : ℕ) → first ≤ past → past ≤ count → count ≤ length xs → first + length l + length r + (count - past) ≤ length xs
    → (moved two three : List (ℕ × ℕ)) → moved ≡ paste xs (first + length l + length r) (drop past xs) (count - past)
    → two ≡ take first moved ++ (l ++ drop (first + length l) moved)
    → three ≡ take (first + length l) two ++ (r ++ drop (first + length l + length r) two)
    → take (first + length l + length r + (count - past)) three ≡ take first xs ++ (l ++ (r ++ drop past (take count xs)))
joined xs l r first past count a b c d moved two three e f g =
    ap (take (first + length l + length r + (count - past))) g
    ∙ same_lists _ _ (grind (arith, places, e, f)) (λ k z h. grind (arith, places, e, f))
