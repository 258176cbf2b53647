-- The bytes of a picture, row by row.
use Rattle.std.proofs.Common.{◌≡◌, ℕ, ◌+◌, ◌*◌, ◌≤◌, List, [], ◌∷◌, ◌++◌, length, refl, sym, ◌∙◌, ap, arith, length-append}
use Rattle.std.proofs.Math.Nat.{mul-le-mul_left, mul-le-mul_right}
use Rattle.std.proofs.lemmas.Fmt.{length-decimal-le}
use Rattle.std.specs.List.{flat_map}
use Rattle.std.specs.Int.{w32, to_le_bytes}
use Rattle.record_format.specs.OutputGrammar.{rgb, ppm_head, ppm, picture_head, picture_record}

-- three bytes a pixel
pub length-rgbs : (colours : List ℕ) → length (flat_map rgb colours) ≡ 3 * length colours
length-rgbs [] = refl
length-rgbs (c ∷ colours) = omega (arith, length-rgbs colours)

-- the head, and then the rows
pub picture_is : (width height : ℕ) (colours : List ℕ) → length colours ≡ width * height → picture_head width height ++ flat_map rgb colours ≡ picture_record width height colours
unfolding picture_head picture_record
picture_is width height colours size =
    let long : length (ppm width height colours) ≡ length (ppm_head width height) + 3 * (width * height) =
    omega (arith, length-append (ppm_head width height) (flat_map rgb colours), length-rgbs colours, size) in
    ap (λ (n : ℕ). 3 ∷ Rattle.gui_wire.specs.Words.word n ++ ppm width height colours) (sym long)

pub head_small : (width height : ℕ) → width ≤ 8192 → height ≤ 8192 → length (ppm_head width height) ≤ 20
unfolding ppm_head
head_small width height narrow low =
    let w = length-decimal-le 4 width (omega arith) (omega arith) (omega arith) in
    let h = length-decimal-le 4 height (omega arith) (omega arith) (omega arith) in
    simp length-append (omega arith)

pub area_small : (width height : ℕ) → width ≤ 8192 → height ≤ 8192 → width * height ≤ 67108864
area_small width height narrow low =
    let across = mul-le-mul_left width low in
    omega (arith, across, mul-le-mul_right 8192 narrow)

pub head_is : (width height : ℕ) (head text : List ℕ) (size : ℕ) → text ≡ ppm_head width height → size ≡ length text + 3 * (width * height)
    → head ≡ 3 ∷ to_le_bytes w32 size ++ text → head ≡ picture_head width height
unfolding picture_head
head_is width height head text size text_is size_is is =
    is ∙ ap (λ (l : List ℕ). 3 ∷ to_le_bytes w32 size ++ l) text_is
    ∙ ap (λ (n : ℕ). 3 ∷ to_le_bytes w32 n ++ ppm_head width height) (size_is ∙ ap (λ (l : List ℕ). length l + 3 * (width * height)) text_is)
