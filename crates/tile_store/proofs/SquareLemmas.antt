-- What words stand for, as they are written and cut.
use Rattle.std.proofs.Common.{◌≡◌, ℕ, zero, suc, ◌+◌, ◌/◌, ◌%◌, ◌<◌, ◌≤◌, Bool, true, false, cond, ◌||◌, ltb, List, [], ◌∷◌, ◌++◌, length, take, drop, set, get_or, replicate, Option, Some, None, is_some, refl, sym, ap, ◌∙◌, arith}
use Rattle.std.specs.List.{list_any}
use Rattle.std.proofs.lemmas.Bool.{and_from, lt-ltb}
use Rattle.std.proofs.lemmas.List.{length-set}
use Rattle.tile_store.specs.Squares.{shown, all_shown, blanks, has_pixel, coloured_from, is_inside, cut_from, cut_word, cut_words, is_colour}

pub shown-nothing : (n : ℕ) → all_shown (replicate n 4278190080) ≡ blanks n
unfolding blanks
shown-nothing zero = refl
shown-nothing (suc n) = ap (λ rest. None ∷ rest) (shown-nothing n)

pub shown-colour : (colour : ℕ) → colour < 16777216 → shown colour ≡ Some colour
shown-colour colour few = ap (λ b. cond b (Some colour) None) (lt-ltb colour 16777216 few)

pub shown-set : (words : List ℕ) (k colour : ℕ) → colour < 16777216 → all_shown (set words k colour) ≡ set (all_shown words) k (Some colour)
shown-set [] k colour few = refl
shown-set (word ∷ words) zero colour few = ap (λ o. o ∷ all_shown words) (shown-colour colour few)
shown-set (word ∷ words) (suc k) colour few = ap (λ rest. shown word ∷ rest) (shown-set words k colour few)

pub read-set : (words : List ℕ) (k colour : ℕ) → colour < 16777216 → k < length words → get_or (all_shown (set words k colour)) k None ≡ Some colour
read-set [] k colour few inside = absurd (omega arith)
read-set (word ∷ words) zero colour few inside = shown-colour colour few
read-set (word ∷ words) (suc k) colour few inside = read-set words k colour few (omega arith)

pub shown-get : (words : List ℕ) (k : ℕ) → k < length words → get_or (all_shown words) k None ≡ shown (get_or words k 0)
shown-get [] k inside = absurd (omega arith)
shown-get (word ∷ words) zero inside = refl
shown-get (word ∷ words) (suc k) inside = shown-get words k (omega arith)

pub colour-shown : (word : ℕ) → is_colour word ≡ is_some (shown word)
colour-shown word = by (ltb word 16777216)
  where
    by : (b : Bool) → b ≡ is_some (cond b (Some word) None)
    by true = refl
    by false = refl

pub some-shown : (words : List ℕ) → list_any is_colour words ≡ has_pixel (all_shown words)
some-shown [] = refl
some-shown (word ∷ words) =
    ap (λ b. b || list_any is_colour words) (colour-shown word) ∙ ap (λ b. is_some (shown word) || b) (some-shown words)

pub shown-cut : (k w h : ℕ) (words : List ℕ) → all_shown (cut_words k w h words) ≡ cut_from k w h (all_shown words)
shown-cut k w h [] = refl
shown-cut k w h (word ∷ words) =
    ap (λ o. o ∷ all_shown (cut_words (suc k) w h words)) (by (is_inside w h k))
    ∙ ap (λ rest. cond (is_inside w h k) (shown word) None ∷ rest) (shown-cut (suc k) w h words)
  where
    by : (b : Bool) → shown (cond b word 4278190080) ≡ cond b (shown word) None
    by true = refl
    by false = refl

-- what is cut of the word at a place
pub cut-at : (words : List ℕ) (i k w h : ℕ) → i < length words → get_or (cut_words k w h words) i 0 ≡ cut_word (k + i) w h (get_or words i 0)
cut-at [] i k w h inside = absurd (omega arith)
cut-at (word ∷ words) zero k w h inside = ap (λ n. cut_word n w h word) (omega arith)
cut-at (word ∷ words) (suc i) k w h inside =
    cut-at words i (suc k) w h (omega arith) ∙ ap (λ n. cut_word n w h (get_or words i 0)) (omega arith)

pub length-cut : (k w h : ℕ) (words : List ℕ) → length (cut_words k w h words) ≡ length words
length-cut k w h [] = refl
length-cut k w h (word ∷ words) = ap suc (length-cut (suc k) w h words)

-- colours behind the first pixel leave it
coloured-cons : (k : ℕ) (colours : List ℕ) (pixel : Option ℕ) (pixels : List (Option ℕ)) →
    coloured_from (suc k) colours (pixel ∷ pixels) ≡ pixel ∷ coloured_from k colours pixels
coloured-cons k [] pixel pixels = refl
coloured-cons k (colour ∷ colours) pixel pixels = coloured-cons (suc k) colours pixel (set pixels k (Some colour))

-- words in the place of as many stand for their colours there
pub shown-row : (k : ℕ) (colours words : List ℕ) → k + length colours ≤ length words → ((i : ℕ) → i < length colours → get_or colours i 0 ≤ 16777215) →
    all_shown (take k words ++ colours ++ drop (k + length colours) words) ≡ coloured_from k colours (all_shown words)
shown-row zero [] words fits few = refl
shown-row zero (colour ∷ colours) [] fits few = absurd (omega (arith, fits))
shown-row zero (colour ∷ colours) (word ∷ words) fits few =
    let next : 0 + suc (length colours) ≡ suc (0 + length colours) = omega arith in
    let first : colour ≤ 16777215 = few 0 (omega arith) in
    ap (λ n. all_shown (take 0 (word ∷ words) ++ (colour ∷ colours) ++ drop n (word ∷ words))) next
    ∙ ap (λ o. o ∷ all_shown (colours ++ drop (0 + length colours) words)) (shown-colour colour (omega (arith, first)))
    ∙ ap (λ rest. Some colour ∷ rest) (shown-row zero colours words (omega (arith, fits)) (λ i h. few (suc i) (omega (arith, h))))
    ∙ sym (coloured-cons 0 colours (Some colour) (all_shown words))
shown-row (suc k) colours [] fits few = absurd (omega (arith, fits))
shown-row (suc k) colours (word ∷ words) fits few =
    let next : suc k + length colours ≡ suc (k + length colours) = omega arith in
    ap (λ n. all_shown (take (suc k) (word ∷ words) ++ colours ++ drop n (word ∷ words))) next
    ∙ ap (λ rest. shown word ∷ rest) (shown-row k colours words (omega (arith, fits)) few)
    ∙ sym (coloured-cons k colours (shown word) (all_shown words))

pub length-coloured : (k : ℕ) (colours : List ℕ) (pixels : List (Option ℕ)) → length (coloured_from k colours pixels) ≡ length pixels
length-coloured k [] pixels = refl
length-coloured k (colour ∷ colours) pixels = length-coloured (suc k) colours (set pixels k (Some colour)) ∙ length-set pixels k (Some colour)

-- pixels that all lie inside are left as they are
pub cut-inside : (k w h : ℕ) (pixels : List (Option ℕ)) → 64 ≤ w → 64 ≤ h → k + length pixels ≤ 4096 → pixels ≡ cut_from k w h pixels
cut-inside k w h [] wide high fits = refl
cut-inside k w h (pixel ∷ pixels) wide high fits =
    let here : is_inside w h k ≡ true = and_from (ltb (k % 64) w) (ltb (k / 64) h) (lt-ltb (k % 64) w (omega (arith, wide))) (lt-ltb (k / 64) h (omega (arith, high, fits))) in
    ap (λ rest. pixel ∷ rest) (cut-inside (suc k) w h pixels wide high (omega (arith, fits)))
    ∙ sym (ap (λ b. cond b pixel None ∷ cut_from (suc k) w h pixels) here)
