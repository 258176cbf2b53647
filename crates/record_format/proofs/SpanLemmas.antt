-- Numbers one after the other.
use Rattle.std.proofs.Common.{◌≡◌, ℕ, zero, suc, ◌+◌, List, [], ◌∷◌, ◌++◌, ap, ◌∙◌, arith}
use Rattle.desk_laws.specs.Rows.{span}

-- one place more
pub span_more : (a n : ℕ) → span a (n + 1) ≡ span a n ++ (a + n) ∷ []
span_more a zero = let e : a ≡ a + 0 = omega arith in ap (λ (k : ℕ). k ∷ []) e
span_more a (suc n) =
    let e : suc a + n ≡ a + suc n = omega arith in let f : suc n + 1 ≡ suc (n + 1) = omega arith in
    ap (span a) f ∙ ap (λ (l : List ℕ). a ∷ l) (span_more (suc a) n ∙ ap (λ (k : ℕ). span (suc a) n ++ k ∷ []) e)

-- the first places of some
pub span_within : (a n more : ℕ) → span a (n + more) ≡ span a n ++ span (a + n) more
span_within a zero more =
    let e : 0 + more ≡ more = omega arith in let f : a ≡ a + 0 = omega arith in
    ap (span a) e ∙ ap (λ (k : ℕ). span k more) f
span_within a (suc n) more =
    let e : suc n + more ≡ suc (n + more) = omega arith in let f : suc a + n ≡ a + suc n = omega arith in
    ap (span a) e ∙ ap (λ (l : List ℕ). a ∷ l) (span_within (suc a) n more ∙ ap (λ (k : ℕ). span (suc a) n ++ span k more) f)
