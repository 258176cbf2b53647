-- Where a pixel stands in the list of all pixels, row by row.
use Rattle.std.proofs.Common.{◌≡◌, ℕ, zero, suc, ◌+◌, ◌*◌, ◌/◌, ◌%◌, ◌<◌, List, [], ◌∷◌, ◌++◌, length, get_or, map, replicate, refl, sym, ◌∙◌, ap, arith, length-append}
use Rattle.std.specs.Prelude.{flat_map}
use Rattle.std.proofs.lemmas.List.{length-map, get_or_append_left, get_or-append-add, ext_get_or, get_or-map}
use Rattle.std.proofs.lemmas.Grind.{common_steps}
use Rattle.std.proofs.lemmas.Nat.{rows, mod_below, div-add-mod'}
use Rattle.std.proofs.Math.Nat.{suc-mul, mul-zero}
use Rattle.gui_num.specs.declared.Point.{Point}
use Rattle.compositor.specs.Composed.{at_pixel, columns, all_pixels}

length-columns : (a n : ℕ) → length (columns a n) ≡ n
length-columns a zero = refl
length-columns a (suc n) = ap suc (length-columns (suc a) n)

get_or-columns : (a n i d : ℕ) → i < n → get_or (columns a n) i d ≡ a + i
get_or-columns a zero i d below = absurd (omega arith)
get_or-columns a (suc n) zero d below = let e : a ≡ a + 0 = omega arith in e
get_or-columns a (suc n) (suc i) d below = get_or-columns (suc a) n i d (omega arith) ∙ omega arith

-- the pixels of one row
abbrev row_pixels : ℕ → ℕ → List Point
row_pixels w y = map (λ x. at_pixel x y) (columns 0 w)

-- the pixels of some rows from the row b on
abbrev pixels_from : ℕ → ℕ → ℕ → List Point
pixels_from w b h = flat_map (row_pixels w) (columns b h)

length-row : (w y : ℕ) → length (row_pixels w y) ≡ w
length-row w y = length-map (columns 0 w) (λ x. at_pixel x y) ∙ length-columns 0 w

length-from : (w b h : ℕ) → length (pixels_from w b h) ≡ h * w
length-from w b zero = let e : 0 ≡ 0 * w = omega arith in e
length-from w b (suc h) =
    length-append (row_pixels w b) (pixels_from w (suc b) h)
    ∙ omega (arith, length-row w b, length-from w (suc b) h, suc-mul h w)

-- how many pixels a picture has
pub length-all_pixels : (w h : ℕ) → length (all_pixels w h) ≡ h * w
length-all_pixels w h = length-from w 0 h

get_or-row : (w y x : ℕ) (d : Point) → x < w → get_or (row_pixels w y) x d ≡ at_pixel x y
get_or-row w y x d across =
    let e : x < length (columns 0 w) = omega (arith, length-columns 0 w) in
    get_or-map (λ n. at_pixel n y) (columns 0 w) x 0 d e ∙ ap (λ n. at_pixel n y) (get_or-columns 0 w x 0 across ∙ omega arith)

get_or-from : (w b h x y : ℕ) (d : Point) → x < w → y < h → get_or (pixels_from w b h) (y * w + x) d ≡ at_pixel x (b + y)
get_or-from w b zero x y d across down = absurd (omega arith)
get_or-from w b (suc h) x zero d across down =
    let at : 0 * w + x ≡ x = omega arith in
    let in_row : x < length (row_pixels w b) = omega (arith, length-row w b) in
    let here : b ≡ b + 0 = omega arith in
    ap (λ k. get_or (row_pixels w b ++ pixels_from w (suc b) h) k d) at
    ∙ get_or_append_left (row_pixels w b) (pixels_from w (suc b) h) d x in_row ∙ get_or-row w b x d across
    ∙ ap (λ r. at_pixel x r) here
get_or-from w b (suc h) x (suc y) d across down =
    let at : suc y * w + x ≡ length (row_pixels w b) + (y * w + x) = omega (arith, length-row w b, suc-mul y w) in
    let here : suc b + y ≡ b + suc y = omega arith in
    ap (λ k. get_or (row_pixels w b ++ pixels_from w (suc b) h) k d) at
    ∙ get_or-append-add (row_pixels w b) (pixels_from w (suc b) h) (y * w + x) d ∙ get_or-from w (suc b) h x y d across (omega arith)
    ∙ ap (λ r. at_pixel x r) here

place-below : (w h x y : ℕ) → x < w → y < h → y * w + x < h * w
place-below w h x y across down = grind (arith, common_steps, rows)

-- the colour in column x of row y
get_or-colours : (f : Point → ℕ) (w h x y : ℕ) → x < w → y < h → get_or (map f (all_pixels w h)) (y * w + x) 0 ≡ f (at_pixel x y)
get_or-colours f w h x y across down =
    let below : y * w + x < length (all_pixels w h) = omega (arith, length-all_pixels w h, place-below w h x y across down) in
    let here : 0 + y ≡ y = omega arith in
    get_or-map f (all_pixels w h) (y * w + x) (at_pixel 0 0) 0 below
    ∙ ap f (get_or-from w 0 h x y (at_pixel 0 0) across down ∙ ap (λ r. at_pixel x r) here)

row_below : (w h k : ℕ) → k < h * w → k / w < h
row_below w h k below = grind (arith, common_steps, rows)

column_below : (w h k : ℕ) → k < h * w → k % w < w
column_below zero h k below = absurd (omega (arith, mul-zero h))
column_below (suc w) h k below = mod_below k (suc w) (omega arith)

-- colours that are right in each column of each row are those of all pixels
pub colours-from_rows : (f : Point → ℕ) (w h : ℕ) (cs : List ℕ) → length cs ≡ h * w
    → ((x y : ℕ) → x < w → y < h → get_or cs (y * w + x) 0 ≡ f (at_pixel x y))
    → cs ≡ map f (all_pixels w h)
colours-from_rows f w h cs long each =
    let same : length cs ≡ length (map f (all_pixels w h)) = long ∙ sym (length-map (all_pixels w h) f ∙ length-all_pixels w h) in
    ext_get_or 0 cs (map f (all_pixels w h)) same
    (λ k below.
    let in_list : k < h * w = omega arith in
    let down : k / w < h = row_below w h k in_list in
    let across : k % w < w = column_below w h k in_list in
    let at : k / w * w + k % w ≡ k = div-add-mod' k w in
    ap (λ i. get_or cs i 0) (sym at) ∙ each (k % w) (k / w) across down
    ∙ sym (get_or-colours f w h (k % w) (k / w) across down) ∙ ap (λ i. get_or (map f (all_pixels w h)) i 0) at)

map-const : {A : Type 0} (c : ℕ) (xs : List A) → map (λ _. c) xs ≡ replicate (length xs) c
map-const c [] = refl
map-const c (x ∷ xs) = ap (λ cs. c ∷ cs) (map-const c xs)

-- one colour everywhere
pub one-colour : (c w h : ℕ) (cs : List ℕ) → cs ≡ replicate (h * w) c → cs ≡ map (λ _. c) (all_pixels w h)
one-colour c w h cs is = is ∙ sym (map-const c (all_pixels w h) ∙ ap (λ n. replicate n c) (length-all_pixels w h))
