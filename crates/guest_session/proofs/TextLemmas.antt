-- A text, byte by byte.
use Rattle.std.proofs.Common.{◌≡◌, ℕ, ◌+◌, ◌<◌, not, List, [], ◌∷◌, ◌++◌, length, get_or, drop, map, cond, sym, ap, ◌∙◌, append_assoc}
use Rattle.std.specs.Prelude.{take_while, ◌==◌}
use Rattle.std.proofs.lemmas.Bool.{ne_eqb}
use Rattle.std.proofs.lemmas.List.{drop_more}
use Rattle.std.proofs.lemmas.List.Sums.{take_while-cons}
use Rattle.desk_laws.specs.Effects.{printed, text_of}

text-cons : (x : ℕ) (xs : List ℕ) → (x ≡ 0 → ⊥) → text_of (x ∷ xs) ≡ printed x ∷ text_of xs
text-cons x xs some =
    ap (map printed) (take_while-cons (λ c. not (c == 0)) x xs)
    ∙ ap (λ b. map printed (cond (not b) (x ∷ take_while (λ c. not (c == 0)) xs) [])) (ne_eqb x 0 some)

-- a text goes on with its next byte, if that isn't zero
pub text-goes-on : (bytes text : List ℕ) (i c : ℕ) (text' : List ℕ) → text_of bytes ≡ text ++ text_of (drop i bytes) → i < length bytes
    → (get_or bytes i 0 ≡ 0 → ⊥) → c ≡ printed (get_or bytes i 0) → text' ≡ text ++ c ∷ [] → text_of bytes ≡ text' ++ text_of (drop (i + 1) bytes)
text-goes-on bytes text i c text' is below some prints more =
    let x = get_or bytes i 0 in
    let rest = text_of (drop (i + 1) bytes) in
    is
    ∙ ap (λ xs. text ++ text_of xs) (drop_more bytes i 0 below)
    ∙ ap (λ ys. text ++ ys) (text-cons x (drop (i + 1) bytes) some)
    ∙ ap (λ y. text ++ y ∷ rest) (sym prints)
    ∙ sym (append_assoc text (c ∷ []) rest)
    ∙ ap (λ ys. ys ++ rest) (sym more)
