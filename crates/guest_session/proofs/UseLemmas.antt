-- How many tiles a guest's rows take, and how many an area of one would newly take.
use Rattle.std.proofs.Common.{◌≡◌, ℕ, zero, suc, ◌+◌, ◌*◌, ◌/◌, ◌<◌, ◌≤◌, min, max, Bool, true, false, cond, ◌&&◌, ◌||◌, not, eqb, List, [], ◌∷◌, length, map, filter, Some, is_some, refl, sym, ap, ◌∙◌, ◌⊎◌, inl, inr, arith, length-append}
use Rattle.std.specs.List.{All, list_all}
use Rattle.std.proofs.lemmas.Bool.{and_parts, and_from, both_ways, cases_lt, eq-eqb, eqb-true, lt-ltb, le-ltb}
use Rattle.std.proofs.lemmas.List.Elements.{All-head, All-tail, filter-append}
use Rattle.std.proofs.lemmas.List.Sums.{sum_by-cons}
use Rattle.desk_laws.specs.Rows.{Row, grid}
use Rattle.desk_laws.specs.Layers.{are_apart}
use Rattle.desk_laws.specs.Tiles.{tiles_of, tiles_in_use, tiles_needed, is_met, is_used, sides_meet}
use Rattle.tile_store.specs.Tile.{Tile}
use Rattle.tile_store.specs.Spots.{spot_of}
use Rattle.tile_store.specs.Squares.{has_pixel}
use Rattle.tile_store.specs.Held.{is_held, is_left, rises, are_whole, missing, tiles_along}
use Rattle.tile_store.proofs.UsedLemmas.{Agrees, used-held}
use Rattle.tile_store.proofs.InUseLemmas.{is_of, tiles-of-row}
use Rattle.window_table.specs.Entries.{Entry, AreApart, entry_at}
use Rattle.guest_session.specs.RowsView.{StaysInside, is_owned, own_row, own_rows}
use Rattle.guest_session.proofs.GridLemmas.{grid_row}
use Rattle.guest_session.proofs.TableLemmas.{keyed, apart-head, apart-tail}
use Rattle.guest_session.proofs.KeptLemmas.{content-seen}
use Rattle.guest_session.proofs.ColourLemmas.{some-along}

-- ---- tiles in use

-- each tile of a slot has a pixel
all-left : (slot : ℕ) (ts : List Tile) → list_all (λ (t : Tile). has_pixel t.square) ts ≡ true → list_all (is_left slot) ts ≡ true
all-left slot [] all = refl
all-left slot (t ∷ ts) all =
    let parts = and_parts (has_pixel t.square) (list_all (λ (u : Tile). has_pixel u.square) ts) all in
    and_from (is_left slot t) (list_all (is_left slot) ts) (by (not (eqb t.spot.slot slot)) parts.0) (all-left slot ts parts.1)
  where
    by : (b : Bool) → has_pixel t.square ≡ true → (b || has_pixel t.square) ≡ true
    by true has = refl
    by false has = has

-- the row of an entry agrees with what was read
pub row-agrees : (guest : ℕ) (held : List Tile) (e : Entry) → StaysInside held e → list_all (λ (t : Tile). has_pixel t.square) held ≡ true → are_whole held ≡ true →
    Agrees (own_row guest held e) e.slot held
row-agrees guest held e inside left whole = record {
  contents = λ x y. content-seen guest held e x y inside;
  left = all-left e.slot held left;
  whole = whole;
}

-- no entry behind is at the slot
none-at : (slot : ℕ) (xs : List Entry) → All (λ (y : Entry). eqb y.slot slot ≡ false) xs → is_some (entry_at slot xs) ≡ false
none-at slot [] all = refl
none-at slot (x ∷ xs) all =
    ap (λ b. is_some (cond b (Some x) (entry_at slot xs))) (All-head (λ (y : Entry). eqb y.slot slot ≡ false) x xs all)
    ∙ none-at slot xs (All-tail (λ (y : Entry). eqb y.slot slot ≡ false) x xs all)

swap : (a b : ℕ) → eqb a b ≡ eqb b a
swap a b = by (eqb a b) (eqb b a) refl refl
  where
    by : (u v : Bool) → eqb a b ≡ u → eqb b a ≡ v → u ≡ v
    by true true e f = refl
    by false false e f = refl
    by true false e f = absurd (both_ways (eqb b a) f (eq-eqb b a (sym (eqb-true a b e))))
    by false true e f = absurd (both_ways (eqb a b) e (eq-eqb a b (sym (eqb-true b a f))))

-- the tiles of the first entry's slot, and those of the others
split-owned : (x : Entry) (xs : List Entry) (ts : List Tile) → is_some (entry_at x.slot xs) ≡ false →
    length (filter (is_owned (x ∷ xs)) ts) ≡ length (filter (is_of x.slot) ts) + length (filter (is_owned xs) ts)
split-owned x xs [] none = refl
split-owned x xs (t ∷ ts) none = by (eqb x.slot t.spot.slot) refl (split-owned x xs ts none)
  where
    by : (b : Bool) → eqb x.slot t.spot.slot ≡ b → length (filter (is_owned (x ∷ xs)) ts) ≡ length (filter (is_of x.slot) ts) + length (filter (is_owned xs) ts) →
        length (filter (is_owned (x ∷ xs)) (t ∷ ts)) ≡ length (filter (is_of x.slot) (t ∷ ts)) + length (filter (is_owned xs) (t ∷ ts))
    by true e rest =
        let first : length (filter (is_owned (x ∷ xs)) (t ∷ ts)) ≡ suc (length (filter (is_owned (x ∷ xs)) ts)) =
        ap (λ b. length (cond (is_some (cond b (Some x) (entry_at t.spot.slot xs))) (t ∷ filter (is_owned (x ∷ xs)) ts) (filter (is_owned (x ∷ xs)) ts))) e in
        let second : length (filter (is_of x.slot) (t ∷ ts)) ≡ suc (length (filter (is_of x.slot) ts)) =
        ap (λ b. length (cond b (t ∷ filter (is_of x.slot) ts) (filter (is_of x.slot) ts))) (swap t.spot.slot x.slot ∙ e) in
        let other : is_owned xs t ≡ false = ap (λ n. is_some (entry_at n xs)) (sym (eqb-true x.slot t.spot.slot e)) ∙ none in
        let third : length (filter (is_owned xs) (t ∷ ts)) ≡ length (filter (is_owned xs) ts) =
        ap (λ b. length (cond b (t ∷ filter (is_owned xs) ts) (filter (is_owned xs) ts))) other in
        omega (arith, first, second, third, rest)
    by false e rest =
        let first : length (filter (is_owned (x ∷ xs)) (t ∷ ts)) ≡ length (cond (is_owned xs t) (t ∷ filter (is_owned (x ∷ xs)) ts) (filter (is_owned (x ∷ xs)) ts)) =
        ap (λ b. length (cond (is_some (cond b (Some x) (entry_at t.spot.slot xs))) (t ∷ filter (is_owned (x ∷ xs)) ts) (filter (is_owned (x ∷ xs)) ts))) e in
        let second : length (filter (is_of x.slot) (t ∷ ts)) ≡ length (filter (is_of x.slot) ts) =
        ap (λ b. length (cond b (t ∷ filter (is_of x.slot) ts) (filter (is_of x.slot) ts))) (swap t.spot.slot x.slot ∙ e) in
        first ∙ both (is_owned xs t) rest second
      where
        both : (b : Bool) → length (filter (is_owned (x ∷ xs)) ts) ≡ length (filter (is_of x.slot) ts) + length (filter (is_owned xs) ts) →
            length (filter (is_of x.slot) (t ∷ ts)) ≡ length (filter (is_of x.slot) ts) →
            length (cond b (t ∷ filter (is_owned (x ∷ xs)) ts) (filter (is_owned (x ∷ xs)) ts)) ≡ length (filter (is_of x.slot) (t ∷ ts)) + length (cond b (t ∷ filter (is_owned xs) ts) (filter (is_owned xs) ts))
        both true rest second = omega (arith, rest, second)
        both false rest second = omega (arith, rest, second)

none-owned : (ts : List Tile) → length (filter (is_owned []) ts) ≡ 0
none-owned [] = refl
none-owned (t ∷ ts) = none-owned ts

use-of : (guest : ℕ) (held : List Tile) (xs : List Entry) → are_apart (map (λ e. keyed e.slot) xs) ≡ true → All (StaysInside held) xs →
    list_all (λ (t : Tile). has_pixel t.square) held ≡ true → are_whole held ≡ true → rises held ≡ true → tiles_in_use (own_rows guest held xs) ≡ length (filter (is_owned xs) held)
use-of guest held [] apart inside left whole rising = sym (none-owned held)
use-of guest held (x ∷ xs) apart inside left whole rising =
    let here = tiles-of-row (own_row guest held x) x.slot held (row-agrees guest held x (All-head (StaysInside held) x xs inside) left whole) rising in
    let rest = use-of guest held xs (apart-tail (λ e. e.slot) x xs apart) (All-tail (StaysInside held) x xs inside) left whole rising in
    sum_by-cons tiles_of (own_row guest held x) (own_rows guest held xs)
    ∙ omega (arith, here, rest, split-owned x xs held (none-at x.slot xs (apart-head (λ e. e.slot) x xs apart)))

all-pass : (p : Tile → Bool) (ts : List Tile) → list_all p ts ≡ true → length (filter p ts) ≡ length ts
all-pass p [] all = refl
all-pass p (t ∷ ts) all =
    let parts = and_parts (p t) (list_all p ts) all in
    ap (λ b. length (cond b (t ∷ filter p ts) (filter p ts))) parts.0 ∙ ap suc (all-pass p ts parts.1)

-- the tiles that the rows take are those that are held
pub in-use : (guest : ℕ) (held : List Tile) (xs : List Entry) → AreApart xs → All (StaysInside held) xs → list_all (is_owned xs) held ≡ true →
    list_all (λ (t : Tile). has_pixel t.square) held ≡ true → are_whole held ≡ true → rises held ≡ true → tiles_in_use (own_rows guest held xs) ≡ length held
in-use guest held xs apart inside owned left whole rising = use-of guest held xs apart.slots inside left whole rising ∙ all-pass (is_owned xs) held owned

-- ---- sums over a side

-- the sum over n numbers from a on
abbrev total : (ℕ → ℕ) → ℕ → ℕ → ℕ
total g a zero = 0
total g a (suc n) = g a + total g (suc a) n

total-none : (g : ℕ → ℕ) (a n : ℕ) → ((k : ℕ) → a ≤ k → k < a + n → g k ≡ 0) → total g a n ≡ 0
total-none g a zero none = refl
total-none g a (suc n) none =
    let here = none a (omega arith) (omega arith) in
    let rest = total-none g (suc a) n (λ k low high. none k (omega arith) (omega arith)) in
    omega (arith, here, rest)

-- a sum that has all its parts from c on
total-front : (f g : ℕ → ℕ) (c n m : ℕ) → n ≤ m → ((k : ℕ) → c ≤ k → k < c + n → f k ≡ g k) → ((k : ℕ) → c + n ≤ k → f k ≡ 0) → total f c m ≡ total g c n
total-front f g c zero m short same out = total-none f c m (λ k low high. out k (omega (arith, low)))
total-front f g c (suc n) zero short same out = absurd (omega arith)
total-front f g c (suc n) (suc m) short same out =
    let here = same c (omega arith) (omega arith) in
    let rest = total-front f g (suc c) n m (omega arith) (λ k low high. same k (omega arith) (omega arith)) (λ k low. out k (omega (arith, low))) in
    omega (arith, here, rest)

total-part : (f g : ℕ → ℕ) (c n a m : ℕ) → a ≤ c → c + n ≤ a + m → ((k : ℕ) → c ≤ k → k < c + n → f k ≡ g k) → ((k : ℕ) → (k < c) ⊎ (c + n ≤ k) → f k ≡ 0) → total f a m ≡ total g c n
total-part f g c n a zero low high same out =
    let none : n ≡ 0 = omega arith in
    sym (ap (λ k. total g c k) none)
total-part f g c n a (suc m) low high same out = by (cases_lt a c) (λ h. total-part f g c n (suc a) m h (omega arith) same out)
  where
    by : (a < c) ⊎ (c ≤ a) → (suc a ≤ c → total f (suc a) m ≡ total g c n) → f a + total f (suc a) m ≡ total g c n
    by (inl h) rest = let here = out a (inl h) in let later = rest (omega (arith, h)) in omega (arith, here, later)
    by (inr h) rest =
        let at : a ≡ c = omega (arith, h, low) in
        ap (λ k. total f k (suc m)) at ∙ total-front f g c n (suc m) (omega (arith, h, high)) same (λ k above. out k (inr above))

-- the same where nothing is summed up
total-nothing : (f g : ℕ → ℕ) (c a m : ℕ) → ((k : ℕ) → (k < c) ⊎ (c + 0 ≤ k) → f k ≡ 0) → total f a m ≡ total g c 0
total-nothing f g c a m out = total-none f a m (λ k _ _. by k (cases_lt k c))
  where
    by : (k : ℕ) → (k < c) ⊎ (c ≤ k) → f k ≡ 0
    by k (inl h) = out k (inl h)
    by k (inr h) = out k (inr (omega (arith, h)))

-- either of both
total-within : (f g : ℕ → ℕ) (c n a m : ℕ) → a ≤ c → (0 < n → c + n ≤ a + m) → ((k : ℕ) → c ≤ k → k < c + n → f k ≡ g k) → ((k : ℕ) → (k < c) ⊎ (c + n ≤ k) → f k ≡ 0) → total f a m ≡ total g c n
total-within f g c zero a m low high same out = total-nothing f g c a m out
total-within f g c (suc n) a m low high same out = total-part f g c (suc n) a m low (high (omega arith)) same out

-- 1 where a test is passed
abbrev bit : Bool → ℕ
bit true = 1
bit false = 0

count-row : (p : ℕ × ℕ → Bool) (j a n : ℕ) → length (filter p (grid_row j a n)) ≡ total (λ i. bit (p (i, j))) a n
count-row p j a zero = refl
count-row p j a (suc n) = by (p (a, j)) (count-row p j (suc a) n)
  where
    by : (b : Bool) → length (filter p (grid_row j (suc a) n)) ≡ total (λ i. bit (p (i, j))) (suc a) n →
        length (cond b ((a, j) ∷ filter p (grid_row j (suc a) n)) (filter p (grid_row j (suc a) n))) ≡ bit b + total (λ i. bit (p (i, j))) (suc a) n
    by true e = omega (arith, e)
    by false e = omega (arith, e)

count-grid : (p : ℕ × ℕ → Bool) (a b n m : ℕ) → length (filter p (grid a b n m)) ≡ total (λ j. total (λ i. bit (p (i, j))) a n) b m
count-grid p a b n zero = refl
count-grid p a b n (suc m) =
    let first = count-row p b a n in
    let rest = count-grid p a (suc b) n m in
    ap length (filter-append p (grid_row b a n) (grid a (suc b) n m))
    ∙ length-append (filter p (grid_row b a n)) (filter p (grid a (suc b) n m))
    ∙ omega (arith, first, rest)

-- ---- tiles that an area meets

meets-in : (a n k : ℕ) → a / 64 ≤ k → k < a / 64 + tiles_along a n → sides_meet a n (64 * k) 64 ≡ true
meets-in a zero k low high = absurd (omega arith)
meets-in a (suc n) k low high = lt-ltb (max a (64 * k)) (min (a + suc n) (64 * k + 64)) (omega (arith, low, high, some-along a n))

meets-out : (a n k : ℕ) → (k < a / 64) ⊎ (a / 64 + tiles_along a n ≤ k) → sides_meet a n (64 * k) 64 ≡ false
meets-out a n k (inl h) = le-ltb (max a (64 * k)) (min (a + n) (64 * k + 64)) (omega (arith, h))
meets-out a zero k (inr h) = le-ltb (max a (64 * k)) (min (a + 0) (64 * k + 64)) (omega arith)
meets-out a (suc n) k (inr h) = le-ltb (max a (64 * k)) (min (a + suc n) (64 * k + 64)) (omega (arith, h, some-along a n))

along-within : (a n w : ℕ) → (0 < n → a + n ≤ w) → 0 < tiles_along a n → a / 64 + tiles_along a n ≤ 0 + (w + 63) / 64
along-within a zero w within some = absurd (omega arith)
along-within a (suc n) w within some = let fits = within (omega arith) in omega (arith, fits, some-along a n)

-- of the places of a row those that an area meets and of which something holds
count-met : (f : ℕ × ℕ → Bool) (x y w h cols rows : ℕ) → (0 < tiles_along x w → x / 64 + tiles_along x w ≤ 0 + cols) → (0 < tiles_along y h → y / 64 + tiles_along y h ≤ 0 + rows) →
    length (filter (λ t. is_met x y w h t && f t) (grid 0 0 cols rows)) ≡ length (filter f (grid (x / 64) (y / 64) (tiles_along x w) (tiles_along y h)))
count-met f x y w h cols rows across down =
    count-grid both 0 0 cols rows
    ∙ total-within (λ j. total (λ i. bit (both (i, j))) 0 cols) (λ j. total (λ i. bit (f (i, j))) (x / 64) (tiles_along x w)) (y / 64) (tiles_along y h) 0 rows (omega arith) down
    (λ j low high.
    total-within (λ i. bit (both (i, j))) (λ i. bit (f (i, j))) (x / 64) (tiles_along x w) 0 cols (omega arith) across
    (λ i left right. ap (λ b. bit ((b && sides_meet y h (64 * j) 64) && f (i, j))) (meets-in x w i left right) ∙ ap (λ b. bit (b && f (i, j))) (meets-in y h j low high))
    (λ i out. ap (λ b. bit ((b && sides_meet y h (64 * j) 64) && f (i, j))) (meets-out x w i out)))
    (λ j out. total-none (λ i. bit (both (i, j))) 0 cols
    (λ i _ _. ap (λ b. bit ((sides_meet x w (64 * i) 64 && b) && f (i, j))) (meets-out y h j out) ∙ ap (λ b. bit (b && f (i, j))) (and-none (sides_meet x w (64 * i) 64))))
    ∙ sym (count-grid f (x / 64) (y / 64) (tiles_along x w) (tiles_along y h))
  where
    both : ℕ × ℕ → Bool
    both = λ t. is_met x y w h t && f t

    and-none : (b : Bool) → (b && false) ≡ false
    and-none true = refl
    and-none false = refl

count-same : (f g : ℕ × ℕ → Bool) (ps : List (ℕ × ℕ)) → ((p : ℕ × ℕ) → f p ≡ g p) → length (filter f ps) ≡ length (filter g ps)
count-same f g [] same = refl
count-same f g (p ∷ ps) same =
    ap (λ b. length (cond b (p ∷ filter f ps) (filter f ps))) (same p) ∙ by (g p) (count-same f g ps same)
  where
    by : (b : Bool) → length (filter f ps) ≡ length (filter g ps) → length (cond b (p ∷ filter f ps) (filter f ps)) ≡ length (cond b (p ∷ filter g ps) (filter g ps))
    by true e = ap suc e
    by false e = e

-- the tiles that an area of a row would newly take
pub needs : (row : Row) (slot : ℕ) (held : List Tile) → Agrees row slot held → (x y w h : ℕ) → (0 < w → x + w ≤ row.place.w) → (0 < h → y + h ≤ row.place.h) →
    tiles_needed row x y w h ≡ missing slot (grid (x / 64) (y / 64) (tiles_along x w) (tiles_along y h)) held
needs row slot held agrees x y w h right below =
    let cols = (row.place.w + 63) / 64 in
    let rows = (row.place.h + 63) / 64 in
    count-same (λ t. is_met x y w h t && not (is_used row t)) (λ t. is_met x y w h t && not (is_held (spot_of slot t) held)) (grid 0 0 cols rows)
    (λ t. ap (λ b. is_met x y w h t && not b) (used-held row slot held t agrees))
    ∙ count-met (λ t. not (is_held (spot_of slot t) held)) x y w h cols rows (along-within x w row.place.w right) (along-within y h row.place.h below)
