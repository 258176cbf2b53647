-- Facts of the rows of a picture.
use Rattle.std.proofs.Common.{◌≡◌, ℕ, suc, ◌+◌, ◌-◌, ◌*◌, ◌≤◌, ◌<◌, ap, sym, ◌∙◌, arith}
use Rattle.std.proofs.Math.Nat.{suc-mul, add-mul, mul-le-mul_right}

-- a row lies in the picture
pub row_room : (w h j : ℕ) → j < h → j * w + w ≤ h * w
row_room w h j k = let m : suc j * w ≤ h * w = mul-le-mul_right w k in let n : suc j * w ≡ j * w + w = omega (arith, suc-mul j w) in omega arith

-- a row more
pub one_row : (w j : ℕ) → (j + 1) * w ≡ j * w + w
one_row w j = let n : suc j * w ≡ j * w + w = omega (arith, suc-mul j w) in let s : suc j ≡ j + 1 = omega arith in ap (λ k. k * w) (sym s) ∙ n

-- the place of a pixel in a band whose first row is not that of the picture
pub band_place : (w top y x : ℕ) → top ≤ y → (y * w + x) - top * w ≡ (y - top) * w + x
band_place w top y x h =
    let e : top + (y - top) ≡ y = omega arith in
    let m : y * w ≡ top * w + (y - top) * w = ap (λ n. n * w) (sym e) ∙ add-mul top (y - top) w in
    omega (arith, m)

-- a pixel of a row stands before the rows below it
pub row_before : (w x y j : ℕ) → x < w → y < j → y * w + x < j * w
row_before w x y j h k = let m = row_room w j y k in omega arith
