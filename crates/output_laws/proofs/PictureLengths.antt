-- The bytes of a picture have a length of 32 bits.
use Rattle.std.proofs.Common.{◌≡◌, ◌<◌, ◌≤◌, ◌^◌, ◌*◌, ℕ, zero, suc, true, ◌&&◌, List, [], ◌∷◌, length, map, ℤ, pos, refl, ◌∙◌, arith, length-append}
use Rattle.std.specs.Prelude.{nat_le, int_le, ◌+ℤ◌}
use Rattle.std.specs.List.{flat_map}
use Rattle.std.proofs.Math.Nat.{suc-mul}
use Rattle.std.proofs.lemmas.Nat.{mul-le}
use Rattle.std.proofs.lemmas.Fmt.{length-decimal-le}
use Rattle.std.proofs.lemmas.Bool.{and_parts}
use Rattle.std.proofs.lemmas.Int.{ints}
use Rattle.std.proofs.lemmas.List.{length-map}
use Rattle.gui_num.specs.declared.Rect.{Rect}
use Rattle.gui_num.specs.declared.Point.{Point}
use Rattle.gui_num.specs.Rects.{right, bottom, nat_of}
use Rattle.desk_laws.specs.Rows.{span}
use Rattle.desk_laws.specs.Outputs.{lies_in}
use Rattle.desk_laws.specs.Rules.{is_output}
use Rattle.desk_laws.specs.Picture.{pixels, pixels_of}
use Rattle.desk_laws.proofs.GridLemmas.{length-span, pixel_at}
use Rattle.record_format.specs.OutputGrammar.{rgb, ppm_head, ppm}

length-pixels : (x y w h : ℕ) → length (pixels x y w h) ≡ h * w
length-pixels x y w zero = omega arith
length-pixels x y w (suc h) =
    let row : List Point = map (pixel_at y) (span x w) in
    length-append row (pixels x (suc y) w h)
    ∙ omega (arith, length-map (span x w) (pixel_at y), length-span x w, length-pixels x (suc y) w h, suc-mul h w)

-- three bytes a pixel
length-rgbs : (colours : List ℕ) → length (flat_map rgb colours) ≡ 3 * length colours
length-rgbs [] = refl
length-rgbs (c ∷ colours) = omega (arith, length-rgbs colours)

head-short : (width height : ℕ) → width ≤ 8192 → height ≤ 8192 → length (ppm_head width height) ≤ 20
unfolding ppm_head
head-short width height narrow low =
    let w = length-decimal-le 4 width (omega arith) (omega arith) (omega arith) in
    let h = length-decimal-le 4 height (omega arith) (omega arith) (omega arith) in
    simp length-append (omega arith)

side-small : (x : ℤ) (w limit : ℕ) → limit ≤ 8192 → int_le (pos 0) x ≡ true → int_le (x +ℤ pos w) (pos 0 +ℤ pos limit) ≡ true → w ≤ 8192
side-small x w limit most low high = grind (arith, ints, most, low, high)

area-small : (width height : ℕ) → width ≤ 8192 → height ≤ 8192 → height * width ≤ 67108864
area-small width height narrow low = omega (arith, mul-le height width 8192 8192 low narrow)

-- the picture of an output in a plane, and its head
pub picture-short : (width height : ℕ) (output : Rect) (colour : Point → ℕ) → width ≤ 8192 → height ≤ 8192 → is_output width height output ≡ true
    → length (ppm output.w output.h (map colour (pixels_of output))) < 2 ^ 32
picture-short width height output colour wide high is =
    let plane : Rect = record { x = pos 0; y = pos 0; w = width; h = height } in
    let parts = and_parts (nat_le 1 output.w && nat_le 1 output.h) (lies_in plane output) is in
    let edges = and_parts (int_le (pos 0) output.x && int_le (pos 0) output.y) (int_le (right output) (right plane) && int_le (bottom output) (bottom plane)) parts.1 in
    let first = and_parts (int_le (pos 0) output.x) (int_le (pos 0) output.y) edges.0 in
    let last = and_parts (int_le (right output) (right plane)) (int_le (bottom output) (bottom plane)) edges.1 in
    let w : output.w ≤ 8192 = side-small output.x output.w width wide first.0 last.0 in
    let h : output.h ≤ 8192 = side-small output.y output.h height high first.1 last.1 in
    let colours : List ℕ = map colour (pixels_of output) in
    omega (
      arith,
      length-append (ppm_head output.w output.h) (flat_map rgb colours),
      length-rgbs colours,
      length-map (pixels_of output) colour,
      length-pixels (nat_of output.x) (nat_of output.y) output.w output.h,
      area-small output.w output.h w h,
      head-short output.w output.h w h,
    )
