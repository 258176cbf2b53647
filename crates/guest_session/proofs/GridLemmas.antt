-- What a test or a function does over all pixels of a rectangle.
use Rattle.std.proofs.Common.{◌≡◌, ℕ, zero, suc, ◌+◌, ◌*◌, ◌/◌, ◌%◌, ◌<◌, ◌≤◌, Bool, true, false, cond, ◌&&◌, eqb, List, [], ◌∷◌, ◌++◌, length, get_or, set, map, replicate, Option, None, refl, sym, ap, ◌∙◌, arith, length-append, ◌⊎◌, inl, inr}
use Rattle.std.specs.Prelude.{slice_get}
use Rattle.std.specs.List.{list_all}
use Rattle.std.proofs.lemmas.Bool.{and_parts, and_from, both_ways, cases_Bool, eq-eqb, eqb-true}
use Rattle.std.proofs.lemmas.List.{map-append, length-set, get_or_append_left, get_or-append-add, get_or-set_same, get_or-set_other, ext_get_or}
use Rattle.std.proofs.lemmas.List.Folds.{list_all-append}
use Rattle.std.proofs.lemmas.Grind.{common_steps}
use Rattle.std.proofs.lemmas.Nat.{rows, mod_below, div-add-mod', same_from_place}
use Rattle.std.proofs.Math.Nat.{suc-mul, mul-zero}
use Rattle.desk_laws.specs.Rows.{span, grid, content_of}

-- one row of pixels
abbrev pub grid_row : ℕ → ℕ → ℕ → List (ℕ × ℕ)
grid_row j a w = map (λ i. (i, j)) (span a w)

-- ---- what is the same at each pixel

row-same : {X : Type 0} (f g : ℕ × ℕ → X) (j a w : ℕ) → ((x : ℕ) → a ≤ x → x < a + w → f (x, j) ≡ g (x, j)) → map f (grid_row j a w) ≡ map g (grid_row j a w)
row-same f g j a zero same = refl
row-same f g j a (suc w) same =
    ap (λ v. v ∷ map f (grid_row j (suc a) w)) (same a (omega arith) (omega arith))
    ∙ ap (λ vs. g (a, j) ∷ vs) (row-same f g j (suc a) w (λ x low high. same x (omega arith) (omega arith)))

pub grid-same : {X : Type 0} (f g : ℕ × ℕ → X) (a b w h : ℕ) → ((x y : ℕ) → a ≤ x → x < a + w → b ≤ y → y < b + h → f (x, y) ≡ g (x, y)) → map f (grid a b w h) ≡ map g (grid a b w h)
grid-same f g a b w zero same = refl
grid-same f g a b w (suc h) same =
    map-append f (grid_row b a w) (grid a (suc b) w h)
    ∙ ap (λ vs. vs ++ map f (grid a (suc b) w h)) (row-same f g b a w (λ x low high. same x b low high (omega arith) (omega arith)))
    ∙ ap (λ vs. map g (grid_row b a w) ++ vs) (grid-same f g a (suc b) w h (λ x y low high above below. same x y low high (omega arith) (omega arith)))
    ∙ sym (map-append g (grid_row b a w) (grid a (suc b) w h))

row-all : (p : ℕ × ℕ → Bool) (j a w : ℕ) → ((x : ℕ) → a ≤ x → x < a + w → p (x, j) ≡ true) → list_all p (grid_row j a w) ≡ true
row-all p j a zero all = refl
row-all p j a (suc w) all =
    and_from (p (a, j)) (list_all p (grid_row j (suc a) w)) (all a (omega arith) (omega arith))
    (row-all p j (suc a) w (λ x low high. all x (omega arith) (omega arith)))

-- a test that each pixel passes
pub grid-all : (p : ℕ × ℕ → Bool) (a b w h : ℕ) → ((x y : ℕ) → a ≤ x → x < a + w → b ≤ y → y < b + h → p (x, y) ≡ true) → list_all p (grid a b w h) ≡ true
grid-all p a b w zero all = refl
grid-all p a b w (suc h) all =
    list_all-append p (grid_row b a w) (grid a (suc b) w h)
    ∙ and_from (list_all p (grid_row b a w)) (list_all p (grid a (suc b) w h))
    (row-all p b a w (λ x low high. all x b low high (omega arith) (omega arith)))
    (grid-all p a (suc b) w h (λ x y low high above below. all x y low high (omega arith) (omega arith)))

-- no pixel where there is no column
pub grid-narrow : (a b h : ℕ) → grid a b 0 h ≡ []
grid-narrow a b zero = refl
grid-narrow a b (suc h) = grid-narrow a (suc b) h

-- ---- where a pixel stands

length-row : {X : Type 0} (f : ℕ × ℕ → X) (j a w : ℕ) → length (map f (grid_row j a w)) ≡ w
length-row f j a zero = refl
length-row f j a (suc w) = ap suc (length-row f j (suc a) w)

pub length-grid : {X : Type 0} (f : ℕ × ℕ → X) (a b w h : ℕ) → length (map f (grid a b w h)) ≡ h * w
length-grid f a b w zero = let e : 0 ≡ 0 * w = omega arith in e
length-grid f a b w (suc h) =
    ap length (map-append f (grid_row b a w) (grid a (suc b) w h))
    ∙ length-append (map f (grid_row b a w)) (map f (grid a (suc b) w h))
    ∙ omega (arith, length-row f b a w, length-grid f a (suc b) w h, suc-mul h w)

get-row : {X : Type 0} (f : ℕ × ℕ → X) (d : X) (j a w i : ℕ) → i < w → get_or (map f (grid_row j a w)) i d ≡ f (a + i, j)
get-row f d j a zero i below = absurd (omega arith)
get-row f d j a (suc w) zero below = let e : a ≡ a + 0 = omega arith in ap (λ k. f (k, j)) e
get-row f d j a (suc w) (suc i) below =
    let e : suc a + i ≡ a + suc i = omega arith in
    get-row f d j (suc a) w i (omega arith) ∙ ap (λ k. f (k, j)) e

-- what stands at the pixel in column x of row y
get-grid : {X : Type 0} (f : ℕ × ℕ → X) (d : X) (b w h x y : ℕ) → x < w → y < h → get_or (map f (grid 0 b w h)) (y * w + x) d ≡ f (x, b + y)
get-grid f d b w zero x y across down = absurd (omega arith)
get-grid f d b w (suc h) x zero across down =
    let row = map f (grid_row b 0 w) in
    let at : 0 * w + x ≡ x = omega arith in
    let in_row : x < length row = omega (arith, length-row f b 0 w) in
    let here : b ≡ b + 0 = omega arith in
    let column : 0 + x ≡ x = omega arith in
    ap (λ vs. get_or vs (0 * w + x) d) (map-append f (grid_row b 0 w) (grid 0 (suc b) w h))
    ∙ ap (λ k. get_or (row ++ map f (grid 0 (suc b) w h)) k d) at
    ∙ get_or_append_left row (map f (grid 0 (suc b) w h)) d x in_row
    ∙ get-row f d b 0 w x across
    ∙ ap (λ k. f (k, b)) column
    ∙ ap (λ r. f (x, r)) here
get-grid f d b w (suc h) x (suc y) across down =
    let row = map f (grid_row b 0 w) in
    let at : suc y * w + x ≡ length row + (y * w + x) = omega (arith, length-row f b 0 w, suc-mul y w) in
    let here : suc b + y ≡ b + suc y = omega arith in
    ap (λ vs. get_or vs (suc y * w + x) d) (map-append f (grid_row b 0 w) (grid 0 (suc b) w h))
    ∙ ap (λ k. get_or (row ++ map f (grid 0 (suc b) w h)) k d) at
    ∙ get_or-append-add row (map f (grid 0 (suc b) w h)) (y * w + x) d
    ∙ get-grid f d (suc b) w h x y across (omega arith)
    ∙ ap (λ r. f (x, r)) here

-- and where the rows are counted from the first one on
pub get-pixel : {X : Type 0} (f : ℕ × ℕ → X) (d : X) (w h x y : ℕ) → x < w → y < h → get_or (map f (grid 0 0 w h)) (y * w + x) d ≡ f (x, y)
get-pixel f d w h x y across down =
    let here : 0 + y ≡ y = omega arith in
    get-grid f d 0 w h x y across down ∙ ap (λ r. f (x, r)) here

row_below : (w h k : ℕ) → k < h * w → k / w < h
row_below w h k below = grind (arith, common_steps, rows)

column_below : (w h k : ℕ) → k < h * w → k % w < w
column_below zero h k below = absurd (omega (arith, mul-zero h))
column_below (suc w) h k below = mod_below k (suc w) (omega arith)

place-below : (w h x y : ℕ) → x < w → y < h → y * w + x < h * w
place-below w h x y across down = grind (arith, common_steps, rows)

-- lists with the same in each column of each row
pub rows-same : {X : Type 0} (d : X) (w h : ℕ) (xs ys : List X) → length xs ≡ h * w → length ys ≡ h * w →
    ((x y : ℕ) → x < w → y < h → get_or xs (y * w + x) d ≡ get_or ys (y * w + x) d) → xs ≡ ys
rows-same d w h xs ys long long' each =
    ext_get_or d xs ys (long ∙ sym long')
    (λ k below.
    let in_list : k < h * w = omega (arith, long, below) in
    let at : k / w * w + k % w ≡ k = div-add-mod' k w in
    ap (λ i. get_or xs i d) (sym at)
    ∙ each (k % w) (k / w) (column_below w h k in_list) (row_below w h k in_list)
    ∙ ap (λ i. get_or ys i d) at)

-- a function with another value at one pixel
abbrev pub with_at : {X : Type 0} → ℕ × ℕ → X → (ℕ × ℕ → X) → ℕ × ℕ → X
with_at q v f p = cond (eqb p.0 q.0 && eqb p.1 q.1) v (f p)

-- another value at one pixel
pub set-grid : {X : Type 0} (f : ℕ × ℕ → X) (d v : X) (w h a b : ℕ) → a < w → b < h →
    set (map f (grid 0 0 w h)) (b * w + a) v ≡ map (with_at (a, b) v f) (grid 0 0 w h)
set-grid f d v w h a b across down =
    rows-same d w h (set (map f (grid 0 0 w h)) (b * w + a) v) (map (with_at (a, b) v f) (grid 0 0 w h))
    (length-set (map f (grid 0 0 w h)) (b * w + a) v ∙ length-grid f 0 0 w h) (length-grid (with_at (a, b) v f) 0 0 w h)
    (λ x y in_row in_column. by x y in_row in_column (cases_Bool (eqb x a && eqb y b)) ∙ sym (get-pixel (with_at (a, b) v f) d w h x y in_row in_column))
  where
    long : length (map f (grid 0 0 w h)) ≡ h * w
    long = length-grid f 0 0 w h

    by : (x y : ℕ) → x < w → y < h → ((eqb x a && eqb y b) ≡ true) ⊎ ((eqb x a && eqb y b) ≡ false) →
        get_or (set (map f (grid 0 0 w h)) (b * w + a) v) (y * w + x) d ≡ cond (eqb x a && eqb y b) v (f (x, y))
    by x y in_row in_column (inl e) =
        let parts = and_parts (eqb x a) (eqb y b) e in
        let inside : b * w + a < length (map f (grid 0 0 w h)) = omega (arith, long, place-below w h a b across down) in
        ap (λ k. get_or (set (map f (grid 0 0 w h)) (b * w + a) v) (y * w + k) d) (eqb-true x a parts.0)
        ∙ ap (λ k. get_or (set (map f (grid 0 0 w h)) (b * w + a) v) (k * w + a) d) (eqb-true y b parts.1)
        ∙ get_or-set_same (map f (grid 0 0 w h)) (b * w + a) v d inside
        ∙ ap (λ t. cond t v (f (x, y))) (sym e)
    by x y in_row in_column (inr e) =
        get_or-set_other (map f (grid 0 0 w h)) (b * w + a) (y * w + x) v d
        (λ one.
        let both = same_from_place y x b a w in_row across one in
        both_ways (eqb x a && eqb y b) e (and_from (eqb x a) (eqb y b) (eq-eqb x a both.1) (eq-eqb y b both.0)))
        ∙ get-pixel f d w h x y in_row in_column
        ∙ ap (λ t. cond t v (f (x, y))) (sym e)

-- ---- what was read of pixels

pub content-get : (xs : List (Option ℕ)) (k : ℕ) → content_of (slice_get xs k) ≡ get_or xs k None
content-get [] zero = refl
content-get [] (suc k) = refl
content-get (x ∷ xs) zero = refl
content-get (x ∷ xs) (suc k) = content-get xs k

-- pixels of which nothing was read
pub map-none : (f : ℕ × ℕ → Option ℕ) (ps : List (ℕ × ℕ)) → ((p : ℕ × ℕ) → f p ≡ None) → map f ps ≡ replicate (length ps) None
map-none f [] none = refl
map-none f (p ∷ ps) none = ap (λ v. v ∷ map f ps) (none p) ∙ ap (λ vs. None ∷ vs) (map-none f ps none)
