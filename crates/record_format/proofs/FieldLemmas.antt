-- The bytes of an item, one field after the other.
use Rattle.std.proofs.Common.{◌≡◌, ℕ, ◌+◌, ◌<◌, ◌≤◌, ◌^◌, List, [], ◌∷◌, ◌++◌, length, drop, sym, ap, ◌∙◌, arith, rules, length-drop, w32, refl, zero, suc}
use Rattle.std.proofs.lemmas.Int.{of_z-to_z}
use Rattle.std.proofs.lemmas.List.{drop-drop, drop_more}
use Rattle.std.proofs.Math.Facts.{sfits_to_z}
use Rattle.std.specs.Prelude.{slice_index, ◌==◌, FitsSigned}
use Rattle.byteorder.specs.Endian.{little_number}
use Rattle.byteorder.specs.Numbers.{little_from-lt}
use Rattle.gui_wire.specs.Words.{word, word_at}
use Rattle.gui_wire.proofs.WordLemmas.{AreBytes, AreBytes-drop, AreBytes-take, little_bytes-reads, word_at-fits}
use Rattle.record_format.specs.Config.{number_at, signed_at}
use Rattle.record_format.specs.ItemSpellings.{half, flag, signed_word}
use Rattle.record_format.specs.ItemFields.{half_at}

pub byte_on : (p : ℕ) (bytes : List ℕ) → p < length bytes → drop p bytes ≡ slice_index bytes p ∷ drop (p + 1) bytes
byte_on p bytes there = drop_more bytes p 0 there

four : (xs : List ℕ) → AreBytes xs → 4 ≤ length xs → xs ≡ word (word_at 0 xs) ++ drop 4 xs
four [] h long = absurd (omega arith)
four (a ∷ []) h long = absurd (omega arith)
four (a ∷ b ∷ []) h long = absurd (omega arith)
four (a ∷ b ∷ c ∷ []) h long = absurd (omega arith)
four (a ∷ b ∷ c ∷ d ∷ xs) h long = ap (λ (l : List ℕ). l ++ xs) (sym (little_bytes-reads (a ∷ b ∷ c ∷ d ∷ []) (AreBytes-take 4 (a ∷ b ∷ c ∷ d ∷ xs) h)))

two : (xs : List ℕ) → AreBytes xs → 2 ≤ length xs → xs ≡ half (little_number 2 xs) ++ drop 2 xs
two [] h long = absurd (omega arith)
two (a ∷ []) h long = absurd (omega arith)
two (a ∷ b ∷ xs) h long = ap (λ (l : List ℕ). l ++ xs) (sym (little_bytes-reads (a ∷ b ∷ []) (AreBytes-take 2 (a ∷ b ∷ xs) h)))

pub word_on : (p : ℕ) (bytes : List ℕ) → AreBytes bytes → p + 4 ≤ length bytes → drop p bytes ≡ word (number_at p bytes) ++ drop (p + 4) bytes
word_on p bytes h long =
    four (drop p bytes) (AreBytes-drop p bytes h) (omega (arith, length-drop p bytes)) ∙ ap (λ (l : List ℕ). word (number_at p bytes) ++ l) (drop-drop 4 p bytes)

pub half_on : (p : ℕ) (bytes : List ℕ) → AreBytes bytes → p + 2 ≤ length bytes → drop p bytes ≡ half (half_at p bytes) ++ drop (p + 2) bytes
half_on p bytes h long =
    two (drop p bytes) (AreBytes-drop p bytes h) (omega (arith, length-drop p bytes)) ∙ ap (λ (l : List ℕ). half (half_at p bytes) ++ l) (drop-drop 2 p bytes)

pub signed_on : (p : ℕ) (bytes : List ℕ) → AreBytes bytes → p + 4 ≤ length bytes → drop p bytes ≡ signed_word (signed_at p bytes) ++ drop (p + 4) bytes
signed_on p bytes h long =
    word_on p bytes h long ∙ ap (λ (n : ℕ). word n ++ drop (p + 4) bytes) (sym (of_z-to_z w32 (number_at p bytes) (word_at-fits 0 (drop p bytes) (AreBytes-drop p bytes h))))

pub half_small : (p : ℕ) (bytes : List ℕ) → AreBytes bytes → half_at p bytes < 2 ^ 16
half_small p bytes h = little_from-lt 0 2 (drop p bytes) (AreBytes-drop p bytes h)

-- the kind, and then the rest
pub kind_on : (kind : ℕ) (bytes : List ℕ) → 1 ≤ length bytes → slice_index bytes 0 ≡ kind → bytes ≡ kind ∷ drop 1 bytes
kind_on kind bytes some is = byte_on 0 bytes some ∙ ap (λ (k : ℕ). k ∷ drop 1 bytes) is

pub signed_fits : (p : ℕ) (bytes : List ℕ) → AreBytes bytes → FitsSigned w32 (signed_at p bytes)
signed_fits p bytes h =
    let small = word_at-fits 0 (drop p bytes) (AreBytes-drop p bytes h) in
    sfits_to_z {w = w32} {n = number_at p bytes} (search rules)

-- a flag that is 0 or 1
flag_is : (n : ℕ) → n ≤ 1 → flag (n == 1) ≡ n
flag_is zero small = refl
flag_is (suc zero) small = refl
flag_is (suc (suc n)) small = absurd (omega arith)

pub flag_on : (p : ℕ) (bytes : List ℕ) → p < length bytes → slice_index bytes p ≤ 1 → drop p bytes ≡ flag (slice_index bytes p == 1) ∷ drop (p + 1) bytes
flag_on p bytes there small = byte_on p bytes there ∙ ap (λ (n : ℕ). n ∷ drop (p + 1) bytes) (sym (flag_is (slice_index bytes p) small))
