-- Entries and the tiles that they show among their squares.
use Rattle.std.proofs.Common.{◌≡◌, ℕ, zero, suc, ◌-◌, ◌<◌, ◌≤◌, Bool, true, false, cond, not, ◌&&◌, eqb, ltb, List, [], ◌∷◌, length, drop, get_or, set, map, filter, Option, Some, is_some, refl, sym, ap, ◌∙◌, arith}
use Rattle.std.specs.List.{list_all}
use Rattle.std.proofs.lemmas.Bool.{eq-eqb, ltb-true}
use Rattle.std.proofs.lemmas.List.{length-map, get_or-set_same, get_or-set_other}
use Rattle.tile_store.specs.declared.spot.Spot.{Spot}
use Rattle.tile_store.specs.declared.shelf.Entry.{Entry}
use Rattle.tile_store.specs.Tile.{Tile}
use Rattle.tile_store.specs.Spots.{before, same, spot_of}
use Rattle.tile_store.specs.Squares.{blank}
use Rattle.tile_store.specs.Held.{tile_at, is_held, rises, blank_tile, missing}
use Rattle.tile_store.specs.Places.{IsPlaceFor, is_first}
use Rattle.tile_store.specs.Kept.{tile_in, tiles_in, laid, numbers, times, known, AreOnce}

-- tiles that lie alike stand alike
module _ (f g : Entry → Tile) (alike : (e : Entry) → (f e).spot ≡ (g e).spot) where
  all-alike : (s : Spot) (es : List Entry) → list_all (λ u. before s u.spot) (map f es) ≡ list_all (λ u. before s u.spot) (map g es)
  all-alike s [] = refl
  all-alike s (e ∷ es) =
      ap (λ v. before s v && list_all (λ u. before s u.spot) (map f es)) (alike e)
      ∙ ap (λ b. before s (g e).spot && b) (all-alike s es)

  rises-alike : (es : List Entry) → rises (map f es) ≡ rises (map g es)
  rises-alike [] = refl
  rises-alike (e ∷ es) =
      ap (λ v. list_all (λ u. before v u.spot) (map f es) && rises (map f es)) (alike e)
      ∙ ap (λ b. b && rises (map f es)) (all-alike (g e).spot es)
      ∙ ap (λ b. list_all (λ u. before (g e).spot u.spot) (map g es) && b) (rises-alike es)

  first-alike : (spot : Spot) (es : List Entry) (i : ℕ) → is_first spot (drop i (map f es)) ≡ is_first spot (drop i (map g es))
  first-alike spot [] zero = refl
  first-alike spot [] (suc i) = refl
  first-alike spot (e ∷ es) zero = ap (λ s. same s spot) (alike e)
  first-alike spot (e ∷ es) (suc i) = first-alike spot es i

  held-alike : (spot : Spot) (es : List Entry) → is_held spot (map f es) ≡ is_held spot (map g es)
  held-alike spot [] = refl
  held-alike spot (e ∷ es) =
      ap (λ s. is_some (cond (same s spot) (Some (f e)) (tile_at spot (map f es)))) (alike e)
      ∙ by (same (g e).spot spot) (held-alike spot es)
    where
      by : (b : Bool) → is_held spot (map f es) ≡ is_held spot (map g es) →
          is_some (cond b (Some (f e)) (tile_at spot (map f es))) ≡ is_some (cond b (Some (g e)) (tile_at spot (map g es)))
      by true rest = refl
      by false rest = rest

  get-alike : (es : List Entry) (i : ℕ) (d : Tile) → (get_or (map f es) i d).spot ≡ (get_or (map g es) i d).spot
  get-alike [] zero d = refl
  get-alike [] (suc i) d = refl
  get-alike (e ∷ es) zero d = alike e
  get-alike (e ∷ es) (suc i) d = get-alike es i d

  place-alike : (spot : Spot) (es : List Entry) (i : ℕ) → IsPlaceFor spot (map f es) i → IsPlaceFor spot (map g es) i
  place-alike spot es i place = record {
    within = omega (arith, place.within, length-map es f, length-map es g);
    behind = λ d h. ap (λ s. before s spot) (sym (get-alike es (i - 1) d)) ∙ place.behind d h;
    ahead = λ d h. ap (λ s. before s spot) (sym (get-alike es i d)) ∙ place.ahead d (omega (arith, h, length-map es f, length-map es g));
  }

  missing-alike : (slot : ℕ) (places : List (ℕ × ℕ)) (es : List Entry) → missing slot places (map f es) ≡ missing slot places (map g es)
  missing-alike slot [] es = refl
  missing-alike slot (p ∷ ps) es =
      ap (λ v. length (cond (not v) (p ∷ a) a)) (held-alike (spot_of slot p) es) ∙ by (is_held (spot_of slot p) (map g es)) (missing-alike slot ps es)
    where
      a : List (ℕ × ℕ)
      a = filter (λ place. not (is_held (spot_of slot place) (map f es))) ps

      b : List (ℕ × ℕ)
      b = filter (λ place. not (is_held (spot_of slot place) (map g es))) ps

      by : (v : Bool) → length a ≡ length b → length (cond (not v) (p ∷ a) a) ≡ length (cond (not v) (p ∷ b) b)
      by true e = e
      by false e = ap suc e

-- entries as they are laid, and among squares
module _ (squares : List (List (Option ℕ))) where
  pub laid-rises : (held : List Entry) → rises (laid held) ≡ rises (tiles_in squares held)
  laid-rises held = rises-alike (λ (e : Entry). blank_tile e.spot) (tile_in squares) (λ e. refl) held

  pub laid-first : (spot : Spot) (held : List Entry) (i : ℕ) → is_first spot (drop i (laid held)) ≡ is_first spot (drop i (tiles_in squares held))
  laid-first spot held i = first-alike (λ (e : Entry). blank_tile e.spot) (tile_in squares) (λ e. refl) spot held i

  pub laid-place : (spot : Spot) (held : List Entry) (i : ℕ) → IsPlaceFor spot (laid held) i → IsPlaceFor spot (tiles_in squares held) i
  laid-place spot held i place = place-alike (λ (e : Entry). blank_tile e.spot) (tile_in squares) (λ e. refl) spot held i place

  pub laid-missing : (slot : ℕ) (places : List (ℕ × ℕ)) (held : List Entry) → missing slot places (laid held) ≡ missing slot places (tiles_in squares held)
  laid-missing slot places held = missing-alike (λ (e : Entry). blank_tile e.spot) (tile_in squares) (λ e. refl) slot places held

  pub get-tile : (held : List Entry) (i : ℕ) (e : Entry) → i < length held → e ≡ get_or held i e → tile_in squares e ≡ get_or (tiles_in squares held) i (tile_in squares e)
  get-tile [] i e inside is = absurd (omega (arith, inside))
  get-tile (x ∷ xs) zero e inside is = ap (tile_in squares) is
  get-tile (x ∷ xs) (suc i) e inside is = get-tile xs i e (omega (arith, inside)) is

-- the entry at a place, as the code reads it
pub entry-first : (spot : Spot) (held : List Entry) (i : ℕ) (x : Entry) → i < length held → x ≡ get_or held i x → same x.spot spot ≡ is_first spot (drop i (laid held))
entry-first spot [] i x inside e = absurd (omega (arith, inside))
entry-first spot (t ∷ ts) zero x inside e = ap (λ (u : Entry). same u.spot spot) e
entry-first spot (t ∷ ts) (suc i) x inside e = entry-first spot ts i x (omega (arith, inside)) e

pub entry-end : (spot : Spot) (held : List Entry) (i : ℕ) → length held ≤ i → is_first spot (drop i (laid held)) ≡ false
entry-end spot [] zero past = refl
entry-end spot [] (suc i) past = refl
entry-end spot (t ∷ ts) zero past = absurd (omega (arith, past))
entry-end spot (t ∷ ts) (suc i) past = entry-end spot ts i (omega (arith, past))

-- the place of a spot, as the code finds it
laid-get : (held : List Entry) (i : ℕ) (d : Tile) (e : Entry) → i < length held → (get_or (laid held) i d).spot ≡ (get_or held i e).spot
laid-get [] i d e inside = absurd (omega (arith, inside))
laid-get (x ∷ xs) zero d e inside = refl
laid-get (x ∷ xs) (suc i) d e inside = laid-get xs i d e (omega (arith, inside))

pub place-laid : (spot : Spot) (held : List Entry) (i : ℕ) → i ≤ length held →
    ((d : Entry) → 0 < i → before (get_or held (i - 1) d).spot spot ≡ true) →
    ((d : Entry) → i < length held → before (get_or held i d).spot spot ≡ false) → IsPlaceFor spot (laid held) i
place-laid spot held i within behind ahead = record {
  within = omega (arith, within, length-map held (λ (e : Entry). blank_tile e.spot));
  behind = λ d h.
      let e : Entry = record { spot = spot; number = 0 } in
      ap (λ s. before s spot) (laid-get held (i - 1) d e (omega (arith, h, within))) ∙ behind e h;
  ahead = λ d h.
      let e : Entry = record { spot = spot; number = 0 } in
      let below : i < length held = omega (arith, h, length-map held (λ (e : Entry). blank_tile e.spot)) in
      ap (λ s. before s spot) (laid-get held i d e below) ∙ ahead e below;
}

-- how often a number is there
pub times-here : (n : ℕ) (ms : List ℕ) → times n (n ∷ ms) ≡ suc (times n ms)
times-here n ms = ap (λ b. cond b (suc (times n ms)) (times n ms)) (eq-eqb n n refl)

pub times-more : (n m : ℕ) (ms : List ℕ) → times n ms ≤ times n (m ∷ ms)
times-more n m ms = by (eqb m n)
  where
    by : (b : Bool) → times n ms ≤ cond b (suc (times n ms)) (times n ms)
    by true = omega arith
    by false = omega arith

pub known-most : (n count : ℕ) → known n count ≤ 1
known-most n count = by (ltb n count)
  where
    by : (b : Bool) → cond b 1 0 ≤ 1
    by true = omega arith
    by false = omega arith

pub known-below : (n count : ℕ) → 1 ≤ known n count → n < count
known-below n count some = by (ltb n count) refl some
  where
    by : (b : Bool) → ltb n count ≡ b → 1 ≤ cond b 1 0 → n < count
    by true e h = ltb-true n count e
    by false e h = absurd (omega (arith, h))

pub entry-times : (held : List Entry) (i : ℕ) (e : Entry) → i < length held → e ≡ get_or held i e → 1 ≤ times e.number (numbers held)
entry-times [] i e inside is = absurd (omega (arith, inside))
entry-times (x ∷ xs) zero e inside is =
    let there : times e.number (numbers (x ∷ xs)) ≡ suc (times x.number (numbers xs)) =
    ap (λ (k : Entry). times k.number (numbers (x ∷ xs))) is ∙ times-here x.number (numbers xs) in
    omega (arith, there)
entry-times (x ∷ xs) (suc i) e inside is =
    let rest = entry-times xs i e (omega (arith, inside)) is in
    omega (arith, rest, times-more e.number x.number (numbers xs))

-- the number of an entry is below the count
pub number-below : (held : List Entry) (count i : ℕ) (e : Entry) → AreOnce (numbers held) count → i < length held → e ≡ get_or held i e → e.number < count
number-below held count i e once inside is =
    known-below e.number count (omega (arith, once e.number, entry-times held i e inside is))

-- squares that are alike where entries point show alike
pub tiles-alike : (xs ys : List (List (Option ℕ))) (held : List Entry) →
    ((m : ℕ) → 1 ≤ times m (numbers held) → get_or xs m blank ≡ get_or ys m blank) → tiles_in xs held ≡ tiles_in ys held
tiles-alike xs ys [] alike = refl
tiles-alike xs ys (e ∷ es) alike =
    let here : get_or xs e.number blank ≡ get_or ys e.number blank =
    alike e.number (let there = times-here e.number (numbers es) in omega (arith, there)) in
    let one : List (Option ℕ) → Tile = λ square. record { spot = e.spot; square = square } in
    ap (λ square. one square ∷ tiles_in xs es) here
    ∙ ap (λ rest. one (get_or ys e.number blank) ∷ rest)
    (tiles-alike xs ys es (λ m h. alike m (let more = times-more m e.number (numbers es) in omega (arith, h, more))))

-- a change of one square is a change of one tile
pub set-square : (squares : List (List (Option ℕ))) (held : List Entry) (i : ℕ) (e : Entry) (square : List (Option ℕ)) →
    ((n : ℕ) → times n (numbers held) ≤ 1) → e.number < length squares → i < length held → e ≡ get_or held i e →
    tiles_in (set squares e.number square) held ≡ set (tiles_in squares held) i (record { spot = e.spot; square = square })
set-square squares [] i e square once below inside is = absurd (omega (arith, inside))
set-square squares (x ∷ xs) zero e square once below inside is =
    let next : List (List (Option ℕ)) = set squares e.number square in
    let put : Tile = record { spot = e.spot; square = square } in
    let at : ℕ → Tile = λ n. record { spot = e.spot; square = get_or next n blank } in
    let first : tile_in next x ≡ put =
    ap (tile_in next) (sym is)
    ∙ ap (λ s. let t : Tile = record { spot = e.spot; square = s } in t) (get_or-set_same squares e.number square blank below) in
    let there : times e.number (numbers (x ∷ xs)) ≡ suc (times x.number (numbers xs)) =
    ap (λ (k : Entry). times k.number (numbers (x ∷ xs))) is ∙ times-here x.number (numbers xs) in
    let none : times e.number (numbers xs) ≡ 0 =
    ap (λ (k : Entry). times k.number (numbers xs)) is ∙ omega (arith, there, once e.number) in
    let rest : tiles_in next xs ≡ tiles_in squares xs =
    tiles-alike next squares xs
    (λ m h. get_or-set_other squares e.number m square blank (λ same. let there = ap (λ n. times n (numbers xs)) same in omega (arith, h, there, none))) in
    ap (λ t. t ∷ tiles_in next xs) first ∙ ap (λ ts. put ∷ ts) rest
set-square squares (x ∷ xs) (suc i) e square once below inside is =
    let next : List (List (Option ℕ)) = set squares e.number square in
    let put : Tile = record { spot = e.spot; square = square } in
    let later : 1 ≤ times e.number (numbers xs) = entry-times xs i e (omega (arith, inside)) is in
    let other : x.number ≡ e.number → ⊥ = λ same.
    let twice : times e.number (numbers (x ∷ xs)) ≡ suc (times e.number (numbers xs)) =
    ap (λ n. times e.number (n ∷ numbers xs)) same ∙ times-here e.number (numbers xs) in
    omega (arith, once e.number, twice, later) in
    ap (λ s. (let t : Tile = record { spot = x.spot; square = s } in t) ∷ tiles_in next xs) (get_or-set_other squares e.number x.number square blank other)
    ∙ ap (λ ts. tile_in squares x ∷ ts)
    (set-square squares xs i e square (λ n. let more = times-more n x.number (numbers xs) in omega (arith, more, once n)) below (omega (arith, inside)) is)

pub once-one : (held : List Entry) (count : ℕ) → AreOnce (numbers held) count → (n : ℕ) → times n (numbers held) ≤ 1
once-one held count once n = omega (arith, once n, known-most n count)
