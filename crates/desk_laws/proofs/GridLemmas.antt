-- Where a pixel stands in the list of all pixels, row by row.
use Rattle.std.proofs.Common.{◌≡◌, ℕ, zero, suc, ◌+◌, ◌*◌, ◌/◌, ◌%◌, ◌<◌, List, ◌++◌, length, get_or, map, pos, refl, sym, ◌∙◌, ap, arith, length-append}
use Rattle.std.proofs.lemmas.List.{length-map, get_or_append_left, get_or-append-add, ext_get_or, get_or-map}
use Rattle.std.proofs.lemmas.Grind.{common_steps}
use Rattle.std.proofs.lemmas.Nat.{rows, mod_below, div-add-mod'}
use Rattle.std.proofs.Math.Nat.{suc-mul, mul-zero}
use Rattle.gui_num.specs.declared.Point.{Point}
use Rattle.desk_laws.specs.Rows.{span}
use Rattle.desk_laws.specs.Picture.{pixels}

pub length-span : (a n : ℕ) → length (span a n) ≡ n
length-span a zero = refl
length-span a (suc n) = ap suc (length-span (suc a) n)

pub get_or-span : (a n i d : ℕ) → i < n → get_or (span a n) i d ≡ a + i
get_or-span a zero i d below = absurd (omega arith)
get_or-span a (suc n) zero d below = let e : a ≡ a + 0 = omega arith in e
get_or-span a (suc n) (suc i) d below = get_or-span (suc a) n i d (omega arith) ∙ omega arith

abbrev pub pixel_at : ℕ → ℕ → Point
pixel_at y x = record { x = pos x; y = pos y }

-- one row of pixels
abbrev pub pixel_row : ℕ → ℕ → List Point
pixel_row y w = map (pixel_at y) (span 0 w)

pub length-pixel_row : (y w : ℕ) → length (pixel_row y w) ≡ w
length-pixel_row y w = length-map (span 0 w) (pixel_at y) ∙ length-span 0 w

pub length-pixels : (b w h : ℕ) → length (pixels 0 b w h) ≡ h * w
length-pixels b w zero = let e : 0 ≡ 0 * w = omega arith in e
length-pixels b w (suc h) =
    length-append (pixel_row b w) (pixels 0 (suc b) w h)
    ∙ omega (arith, length-pixel_row b w, length-pixels (suc b) w h, suc-mul h w)

get_or-pixel_row : (y w x : ℕ) (d : Point) → x < w → get_or (pixel_row y w) x d ≡ pixel_at y x
get_or-pixel_row y w x d across =
    let e : x < length (span 0 w) = omega (arith, length-span 0 w) in
    get_or-map (pixel_at y) (span 0 w) x 0 d e ∙ ap (pixel_at y) (get_or-span 0 w x 0 across ∙ omega arith)

-- the pixel in column x of row y
pub get_or-pixels : (b w h x y : ℕ) (d : Point) → x < w → y < h → get_or (pixels 0 b w h) (y * w + x) d ≡ pixel_at (b + y) x
get_or-pixels b w zero x y d across down = absurd (omega arith)
get_or-pixels b w (suc h) x zero d across down =
    let row = pixel_row b w in
    let at : 0 * w + x ≡ x = omega arith in
    let in_row : x < length row = omega (arith, length-pixel_row b w) in
    let here : b ≡ b + 0 = omega arith in
    ap (λ k. get_or (row ++ pixels 0 (suc b) w h) k d) at
    ∙ get_or_append_left row (pixels 0 (suc b) w h) d x in_row ∙ get_or-pixel_row b w x d across
    ∙ ap (λ r. pixel_at r x) here
get_or-pixels b w (suc h) x (suc y) d across down =
    let row = pixel_row b w in
    let at : suc y * w + x ≡ length row + (y * w + x) = omega (arith, length-pixel_row b w, suc-mul y w) in
    let here : suc b + y ≡ b + suc y = omega arith in
    ap (λ k. get_or (row ++ pixels 0 (suc b) w h) k d) at
    ∙ get_or-append-add row (pixels 0 (suc b) w h) (y * w + x) d ∙ get_or-pixels (suc b) w h x y d across (omega arith)
    ∙ ap (λ r. pixel_at r x) here

-- the place of a pixel lies in the list
pub place-below : (w h x y : ℕ) → x < w → y < h → y * w + x < h * w
place-below w h x y across down = grind (arith, common_steps, rows)

-- a list of colours, read in column x of row y
pub get_or-colours : (f : Point → ℕ) (w h x y : ℕ) → x < w → y < h → get_or (map f (pixels 0 0 w h)) (y * w + x) 0 ≡ f (pixel_at y x)
get_or-colours f w h x y across down =
    let below : y * w + x < length (pixels 0 0 w h) = omega (arith, length-pixels 0 w h, place-below w h x y across down) in
    let here : 0 + y ≡ y = omega arith in
    get_or-map f (pixels 0 0 w h) (y * w + x) (pixel_at 0 0) 0 below
    ∙ ap f (get_or-pixels 0 w h x y (pixel_at 0 0) across down ∙ ap (λ r. pixel_at r x) here)

row_below : (w h k : ℕ) → k < h * w → k / w < h
row_below w h k below = grind (arith, common_steps, rows)

column_below : (w h k : ℕ) → k < h * w → k % w < w
column_below zero h k below = absurd (omega (arith, mul-zero h))
column_below (suc w) h k below = mod_below k (suc w) (omega arith)

-- a list that has its colour in each column of each row
pub colours-from_rows : (f : Point → ℕ) (w h : ℕ) (xs : List ℕ) → length xs ≡ h * w
    → ((x y : ℕ) → x < w → y < h → get_or xs (y * w + x) 0 ≡ f (pixel_at y x))
    → xs ≡ map f (pixels 0 0 w h)
colours-from_rows f w h xs long each =
    let same : length xs ≡ length (map f (pixels 0 0 w h)) = long ∙ sym (length-map (pixels 0 0 w h) f ∙ length-pixels 0 w h) in
    ext_get_or 0 xs (map f (pixels 0 0 w h)) same
    (λ k below.
    let in_list : k < h * w = omega arith in
    let down : k / w < h = row_below w h k in_list in
    let across : k % w < w = column_below w h k in_list in
    let at : k / w * w + k % w ≡ k = div-add-mod' k w in
    ap (λ i. get_or xs i 0) (sym at) ∙ each (k % w) (k / w) across down
    ∙ sym (get_or-colours f w h (k % w) (k / w) across down) ∙ ap (λ i. get_or (map f (pixels 0 0 w h)) i 0) at)
