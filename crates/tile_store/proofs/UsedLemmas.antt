-- Where a slot's pixels are a row's contents and each of its tiles has a pixel, the held tiles are the
-- row's tiles in use.
use Rattle.std.proofs.Common.{◌≡◌, ℕ, zero, suc, ◌+◌, ◌*◌, ◌/◌, ◌%◌, ◌<◌, ◌≤◌, Bool, true, false, cond, not, ◌||◌, eqb, List, [], ◌∷◌, ◌++◌, length, get_or, map, Option, Some, None, is_some, ◌⊎◌, inl, inr, refl, sym, ap, ◌∙◌, arith}
use Rattle.std.specs.List.{list_all, list_any}
use Rattle.std.proofs.lemmas.Bool.{and_parts, or_left, or_right, or_cases, eqb-true, eqb-false, eq-eqb, cases_Bool}
use Rattle.desk_laws.specs.Rows.{Row, span, grid, content_at}
use Rattle.desk_laws.specs.Tiles.{is_used}
use Rattle.tile_store.specs.declared.spot.Spot.{Spot}
use Rattle.tile_store.specs.Tile.{Tile}
use Rattle.tile_store.specs.Spots.{same, spot_of}
use Rattle.tile_store.specs.Squares.{has_pixel}
use Rattle.tile_store.specs.Held.{tile_at, is_held, pixel_in, colour_at, is_whole, are_whole, is_left}
use Rattle.tile_store.proofs.OrderLemmas.{same-is}
use Rattle.tile_store.proofs.ContentLemmas.{found-same}

any-append : (p : ℕ × ℕ → Bool) (xs ys : List (ℕ × ℕ)) → list_any p (xs ++ ys) ≡ (list_any p xs || list_any p ys)
any-append p [] ys = refl
any-append p (x ∷ xs) ys = ap (λ b. p x || b) (any-append p xs ys) ∙ by (p x)
  where
    by : (b : Bool) → (b || (list_any p xs || list_any p ys)) ≡ ((b || list_any p xs) || list_any p ys)
    by true = refl
    by false = refl

row-none : (p : ℕ × ℕ → Bool) (a b n : ℕ) → ((x : ℕ) → a ≤ x → x < a + n → p (x, b) ≡ false) → list_any p (map (λ i. (i, b)) (span a n)) ≡ false
row-none p a b zero none = refl
row-none p a b (suc n) none =
    ap (λ v. v || list_any p (map (λ i. (i, b)) (span (suc a) n))) (none a (omega arith) (omega arith))
    ∙ row-none p (suc a) b n (λ x low high. none x (omega arith) (omega arith))

pub grid-none : (p : ℕ × ℕ → Bool) (a b n m : ℕ) → ((x y : ℕ) → a ≤ x → x < a + n → b ≤ y → y < b + m → p (x, y) ≡ false) → list_any p (grid a b n m) ≡ false
grid-none p a b n zero none = refl
grid-none p a b n (suc m) none =
    any-append p (map (λ i. (i, b)) (span a n)) (grid a (suc b) n m)
    ∙ ap (λ v. v || list_any p (grid a (suc b) n m)) (row-none p a b n (λ x low high. none x b low high (omega arith) (omega arith)))
    ∙ grid-none p a (suc b) n m (λ x y low high above below. none x y low high (omega arith) (omega arith))

row-some : (p : ℕ × ℕ → Bool) (a b n x : ℕ) → a ≤ x → x < a + n → p (x, b) ≡ true → list_any p (map (λ i. (i, b)) (span a n)) ≡ true
row-some p a b zero x low high here = absurd (omega arith)
row-some p a b (suc n) x low high here =
    by (cases_Bool (eqb x a)) (λ h. row-some p (suc a) b n x h (omega arith) here)
  where
    rest : Bool
    rest = list_any p (map (λ i. (i, b)) (span (suc a) n))

    by : (eqb x a ≡ true) ⊎ (eqb x a ≡ false) → (suc a ≤ x → rest ≡ true) → (p (a, b) || rest) ≡ true
    by (inl e) next = or_left (p (a, b)) rest (ap (λ k. p (k, b)) (sym (eqb-true x a e)) ∙ here)
    by (inr e) next = or_right (p (a, b)) rest (next (let other = eqb-false x a e in grind (arith, other)))

pub grid-some : (p : ℕ × ℕ → Bool) (a b n m x y : ℕ) → a ≤ x → x < a + n → b ≤ y → y < b + m → p (x, y) ≡ true → list_any p (grid a b n m) ≡ true
grid-some p a b n zero x y low high above below here = absurd (omega arith)
grid-some p a b n (suc m) x y low high above below here =
    any-append p (map (λ i. (i, b)) (span a n)) (grid a (suc b) n m)
    ∙ by (cases_Bool (eqb y b)) (λ h. grid-some p a (suc b) n m x y low high h (omega arith) here)
  where
    first : Bool
    first = list_any p (map (λ i. (i, b)) (span a n))

    rest : Bool
    rest = list_any p (grid a (suc b) n m)

    by : (eqb y b ≡ true) ⊎ (eqb y b ≡ false) → (suc b ≤ y → rest ≡ true) → (first || rest) ≡ true
    by (inl e) next =
        or_left first rest (row-some p a b n x low high (ap (λ k. p (x, k)) (sym (eqb-true y b e)) ∙ here))
    by (inr e) next = or_right first rest (next (let other = eqb-false y b e in grind (arith, other)))

-- a pixel of those that have one
pub some-pixel : (pixels : List (Option ℕ)) → has_pixel pixels ≡ true → (k : ℕ) × (k < length pixels) × (is_some (get_or pixels k None) ≡ true)
some-pixel [] e = absurd cc
some-pixel (pixel ∷ pixels) e = by (or_cases (is_some pixel) (has_pixel pixels) e) (λ h. some-pixel pixels h)
  where
    by : (is_some pixel ≡ true) ⊎ (has_pixel pixels ≡ true) →
        (has_pixel pixels ≡ true → (k : ℕ) × (k < length pixels) × (is_some (get_or pixels k None) ≡ true)) →
        (k : ℕ) × (k < length (pixel ∷ pixels)) × (is_some (get_or (pixel ∷ pixels) k None) ≡ true)
    by (inl e) rest = (0, omega arith, e)
    by (inr e) rest = let next = rest e in (suc next.0, omega (arith, next.1), next.2)

-- what holds of all tiles holds of one that is found
pub all-found : (p : Tile → Bool) (q : Spot) (ts : List Tile) (t : Tile) → list_all p ts ≡ true → tile_at q ts ≡ Some t → p t ≡ true
all-found p q [] t all e = absurd cc
all-found p q (u ∷ us) t all e =
    let parts = and_parts (p u) (list_all p us) all in
    by (same u.spot q) parts.0 (λ h. all-found p q us t parts.1 h) e
  where
    by : (b : Bool) → p u ≡ true → (tile_at q us ≡ Some t → p t ≡ true) → cond b (Some u) (tile_at q us) ≡ Some t → p t ≡ true
    by true here rest e = let it : u ≡ t = cc in ap p (sym it) ∙ here
    by false here rest e = rest e

-- a slot's pixels are a row's contents, its tiles have a pixel each, and all tiles are whole
pub record Agrees (row : Row) (slot : ℕ) (held : List Tile) : Type 0 where
  pub contents : (x y : ℕ) → content_at row x y ≡ colour_at slot x y held
  pub left : list_all (is_left slot) held ≡ true
  pub whole : are_whole held ≡ true

-- a place of a row is in use exactly where its tile is held
pub used-held : (row : Row) (slot : ℕ) (held : List Tile) (place : ℕ × ℕ) → Agrees row slot held → is_used row place ≡ is_held (spot_of slot place) held
used-held row slot held place agrees = by (tile_at q held) refl
  where
    q : Spot
    q = spot_of slot place

    p : ℕ × ℕ → Bool
    p = λ k. is_some (content_at row k.0 k.1)

    seen : (x y : ℕ) → x / 64 ≡ place.0 → y / 64 ≡ place.1 → p (x, y) ≡ is_some (pixel_in (y % 64 * 64 + x % 64) (tile_at q held))
    seen x y e f =
        ap is_some (agrees.contents x y)
        ∙ ap (λ c. is_some (pixel_in (y % 64 * 64 + x % 64) (tile_at (spot_of slot (c, y / 64)) held))) e
        ∙ ap (λ r. is_some (pixel_in (y % 64 * 64 + x % 64) (tile_at (spot_of slot (place.0, r)) held))) f

    by : (o : Option Tile) → tile_at q held ≡ o → is_used row place ≡ is_some o
    by None e =
        grid-none p (64 * place.0) (64 * place.1) 64 64
        (λ x y low high above below. seen x y (omega arith) (omega arith) ∙ ap (λ o. is_some (pixel_in (y % 64 * 64 + x % 64) o)) e)
    by (Some t) e =
        let here : t.spot ≡ q = same-is t.spot q (found-same q held t e) in
        let stays = all-found (is_left slot) q held t agrees.left e in
        let full : has_pixel t.square ≡ true =
        ap (λ b. not b || has_pixel t.square) (sym (eq-eqb slot slot refl))
        ∙ ap (λ s. not (eqb s slot) || has_pixel t.square) (ap (λ (s : Spot). s.slot) (sym here)) ∙ stays in
        let long : length t.square ≡ 4096 = eqb-true (length t.square) 4096 (all-found is_whole q held t agrees.whole e) in
        let pick = some-pixel t.square full in
        let k : ℕ = pick.0 in
        let below : k < 4096 = omega (arith, pick.1, long) in
        let x : ℕ = 64 * place.0 + k % 64 in
        let y : ℕ = 64 * place.1 + k / 64 in
        let column : x / 64 ≡ place.0 = omega arith in
        let row_of : y / 64 ≡ place.1 = omega (arith, below) in
        let it : y % 64 * 64 + x % 64 ≡ k = omega (arith, below) in
        let lit : p (x, y) ≡ true =
        seen x y column row_of
        ∙ ap (λ o. is_some (pixel_in (y % 64 * 64 + x % 64) o)) e
        ∙ ap (λ n. is_some (get_or t.square n None)) it
        ∙ pick.2 in
        grid-some p (64 * place.0) (64 * place.1) 64 64 x y (omega arith) (omega arith) (omega arith) (omega (arith, below)) lit
