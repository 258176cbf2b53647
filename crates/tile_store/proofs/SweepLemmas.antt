-- Tiles that are cut one after another, and entries that close up.
use Rattle.std.proofs.Common.{◌≡◌, ℕ, zero, suc, ◌+◌, ◌-◌, ◌*◌, ◌<◌, ◌≤◌, Bool, true, false, cond, eqb, List, [], ◌∷◌, ◌++◌, length, take, drop, get_or, set, map, filter, Option, refl, sym, ap, ◌∙◌, subst, arith}
use Rattle.std.proofs.lemmas.Bool.{cond-true, eq-eqb, ne_eqb}
use Rattle.std.proofs.lemmas.List.{length-map, length-append, length-set, get_or_default, drop-set-lt, map-append, append-nil}
use Rattle.std.proofs.Math.Seq.{take-suc, take-suc-set}
use Rattle.std.proofs.lemmas.List.Elements.{filter-append}
use Rattle.tile_store.specs.declared.shelf.Entry.{Entry}
use Rattle.tile_store.specs.Tile.{Tile}
use Rattle.tile_store.specs.Squares.{blank, cut_from}
use Rattle.tile_store.specs.Held.{cut_tile}
use Rattle.tile_store.specs.Kept.{tile_in, tiles_in, numbers, times, AreOnce, ClosesOne, cut_at}
use Rattle.tile_store.proofs.RiseLemmas.{cut-other}
use Rattle.tile_store.proofs.EntryLemmas.{get-tile, number-below, set-square, once-one}
use Rattle.tile_store.proofs.ShelfLemmas.{own-default, number-in}

module _ (slot w h : ℕ) where
  -- the tile at a place, cut
  pub cut-here : (ts : List Tile) (i : ℕ) (x : Tile) → i < length ts → x ≡ get_or ts i x → set ts i (cut_tile slot w h x) ≡ cut_at slot w h i ts
  cut-here [] i x inside is = absurd (omega (arith, inside))
  cut-here (t ∷ ts) zero x inside is = ap (λ u. cut_tile slot w h u ∷ ts) is
  cut-here (t ∷ ts) (suc i) x inside is = ap (λ rest. t ∷ rest) (cut-here ts i x (omega (arith, inside)) is)

  -- the tile of another slot stays as it is
  pub cut-nothing : (ts : List Tile) (i : ℕ) (x : Tile) → i < length ts → x ≡ get_or ts i x → eqb x.spot.slot slot ≡ false → ts ≡ cut_at slot w h i ts
  cut-nothing [] i x inside is other = absurd (omega (arith, inside))
  cut-nothing (t ∷ ts) zero x inside is other =
      let same : cut_tile slot w h t ≡ t = cut-other slot w h t (ap (λ (u : Tile). eqb u.spot.slot slot) (sym is) ∙ other) in
      ap (λ u. u ∷ ts) (sym same)
  cut-nothing (t ∷ ts) (suc i) x inside is other = ap (λ rest. t ∷ rest) (cut-nothing ts i x (omega (arith, inside)) is other)

  -- one more tile is cut
  pub cut-step : (ts : List Tile) (i : ℕ) → i < length ts →
      cut_at slot w h i (map (cut_tile slot w h) (take i ts) ++ drop i ts) ≡ map (cut_tile slot w h) (take (suc i) ts) ++ drop (suc i) ts
  cut-step [] i inside = absurd (omega (arith, inside))
  cut-step (t ∷ ts) zero inside = refl
  cut-step (t ∷ ts) (suc i) inside = ap (λ rest. cut_tile slot w h t ∷ rest) (cut-step ts i (omega (arith, inside)))

  pub cut-end : (ts : List Tile) (n : ℕ) → length ts ≤ n → map (cut_tile slot w h) (take n ts) ++ drop n ts ≡ map (cut_tile slot w h) ts
  cut-end [] zero all = refl
  cut-end [] (suc n) all = refl
  cut-end (t ∷ ts) zero all = absurd (omega (arith, all))
  cut-end (t ∷ ts) (suc n) all = ap (λ rest. cut_tile slot w h t ∷ rest) (cut-end ts n (omega (arith, all)))

-- the tile of an entry is cut with its square
pub cut-entry : (slot w h : ℕ) (squares : List (List (Option ℕ))) (held : List Entry) (i : ℕ) (d : Entry) (x square : List (Option ℕ)) (columns rows : ℕ) →
    AreOnce (numbers held) (length squares) → i < length held → (let e : Entry = get_or held i d in e.spot.slot) ≡ slot →
    columns ≡ w - 64 * (let e : Entry = get_or held i d in e.spot.column) → rows ≡ h - 64 * (let e : Entry = get_or held i d in e.spot.row) →
    x ≡ get_or squares (let e : Entry = get_or held i d in e.number) x → square ≡ cut_from 0 columns rows x →
    tiles_in (set squares (let e : Entry = get_or held i d in e.number) square) held ≡ cut_at slot w h i (tiles_in squares held)
cut-entry slot w h squares held i d x square columns rows once inside its across down is cut =
    let e : Entry = get_or held i d in
    let own = own-default held i d inside in
    let below = number-below held (length squares) i e once inside own in
    let t : Tile = tile_in squares e in
    let at : List (Option ℕ) → Tile = λ s. record { spot = e.spot; square = s } in
    let left : List (Option ℕ) → Tile = λ s. at (cut_from 0 (w - 64 * e.spot.column) (h - 64 * e.spot.row) s) in
    let new : at square ≡ cut_tile slot w h t =
    ap at cut ∙ ap (λ n. at (cut_from 0 n rows x)) across ∙ ap (λ n. at (cut_from 0 (w - 64 * e.spot.column) n x)) down
    ∙ ap left (is ∙ get_or_default squares e.number x blank below)
    ∙ sym (cond-true (eqb e.spot.slot slot) (left t.square) t (eq-eqb e.spot.slot slot its)) in
    set-square squares held i e square (once-one held (length squares) once) below inside own
    ∙ ap (set (tiles_in squares held) i) new
    ∙ cut-here slot w h (tiles_in squares held) i t (omega (arith, inside, length-map held (tile_in squares))) (get-tile squares held i e inside own)

pub uncut-entry : (slot w h : ℕ) (squares : List (List (Option ℕ))) (held : List Entry) (i : ℕ) (d : Entry) → i < length held →
    ((let e : Entry = get_or held i d in e.spot.slot) ≡ slot → ⊥) → tiles_in squares held ≡ cut_at slot w h i (tiles_in squares held)
uncut-entry slot w h squares held i d inside other =
    let e : Entry = get_or held i d in
    let own = own-default held i d inside in
    cut-nothing slot w h (tiles_in squares held) i (tile_in squares e) (omega (arith, inside, length-map held (tile_in squares)))
    (get-tile squares held i e inside own) (ne_eqb e.spot.slot slot other)

times-app : (n : ℕ) (xs ys : List ℕ) → times n (xs ++ ys) ≡ times n xs + times n ys
times-app n [] ys = omega arith
times-app n (x ∷ xs) ys = by (eqb x n) (times-app n xs ys)
  where
    by : (b : Bool) → times n (xs ++ ys) ≡ times n xs + times n ys →
        cond b (suc (times n (xs ++ ys))) (times n (xs ++ ys)) ≡ cond b (suc (times n xs)) (times n xs) + times n ys
    by true e = omega (arith, e)
    by false e = e

pub times-entries : (n : ℕ) (xs ys : List Entry) → times n (numbers (xs ++ ys)) ≡ times n (numbers xs) + times n (numbers ys)
times-entries n xs ys = ap (times n) (map-append (λ (e : Entry). e.number) xs ys) ∙ times-app n (numbers xs) (numbers ys)

-- entries of which the first i were looked at, and those that stay moved to the front
pub record ClosedUp (stay : Entry → Bool) (old now : List Entry) (spare spare2 : List ℕ) (kept i : ℕ) : Type 0 where
  pub front : take kept now ≡ filter stay (take i old)
  pub rest : drop i now ≡ drop i old
  pub long : length now ≡ length old
  pub few : kept ≤ i
  pub within : i ≤ length old
  pub counts : length spare2 + kept ≡ length spare + i
  pub balance : (n : ℕ) → times n spare2 + times n (numbers (take kept now)) ≡ times n spare + times n (numbers (take i old))

pub closing : (stay : Entry → Bool) (old : List Entry) (spare : List ℕ) → ClosedUp stay old old spare spare 0 0
closing stay old spare = record {
  front = refl;
  rest = refl;
  long = refl;
  few = omega arith;
  within = omega arith;
  counts = refl;
  balance = λ n. refl;
}

drop-get : (xs ys : List Entry) (i : ℕ) (d : Entry) → drop i xs ≡ drop i ys → get_or xs i d ≡ get_or ys i d
drop-get xs ys i d e = at xs i ∙ ap (λ es. get_or es 0 d) e ∙ sym (at ys i)
  where
    at : (zs : List Entry) (j : ℕ) → get_or zs j d ≡ get_or (drop j zs) 0 d
    at [] zero = refl
    at [] (suc j) = refl
    at (z ∷ zs) zero = refl
    at (z ∷ zs) (suc j) = at zs j

drop-more : (xs ys : List Entry) (i : ℕ) → drop i xs ≡ drop i ys → drop (suc i) xs ≡ drop (suc i) ys
drop-more xs ys i e = at xs i ∙ ap (λ es. drop 1 es) e ∙ sym (at ys i)
  where
    at : (zs : List Entry) (j : ℕ) → drop (suc j) zs ≡ drop 1 (drop j zs)
    at [] zero = refl
    at [] (suc j) = refl
    at (z ∷ zs) zero = refl
    at (z ∷ zs) (suc j) = at zs j

-- the entry that is looked at has a number below the count
pub closed-number : {stay : Entry → Bool} {old now : List Entry} {spare spare2 : List ℕ} {kept i : ℕ} (count : ℕ) (d : Entry) → ClosedUp stay old now spare spare2 kept i →
    AreOnce (numbers old) count → i < length now → (let e : Entry = get_or now i d in e.number) < count
closed-number {stay} {old} {now} {spare} {spare2} {kept} {i} count d so once inside =
    let P : Entry → Type 0 = λ (e : Entry). e.number < count in
    subst P (sym (drop-get now old i d so.rest)) (number-in old count i d once (omega (arith, inside, so.long)))

-- all entries were looked at
pub closed-all : {stay : Entry → Bool} {old now : List Entry} {spare spare2 : List ℕ} {kept i : ℕ} → ClosedUp stay old now spare spare2 kept i → length now ≤ i →
    ClosedUp stay old now spare spare2 kept (length old)
closed-all {stay} {old} {now} {spare} {spare2} {kept} {i} so all =
    let P : ℕ → Type 0 = λ n. ClosedUp stay old now spare spare2 kept n in
    let last : i ≡ length old = omega (arith, all, so.within, so.long) in
    subst P last so

module _ (stay : Entry → Bool) (old now new : List Entry) (spare spare2 spare3 : List ℕ) (kept i count : ℕ) (left : Bool) (d : Entry)
    (so : ClosedUp stay old now spare spare2 kept i) (inside : i < length old) (is : left ≡ stay (get_or now i d))
    (closes : ClosesOne now new spare2 spare3 kept i left count) where
  abbrev e : Entry
  e = get_or old i d

  same : get_or now i d ≡ e
  same = drop-get now old i d so.rest

  more : filter stay (take (suc i) old) ≡ filter stay (take i old) ++ filter stay (e ∷ [])
  more = ap (filter stay) (take-suc old i d inside) ∙ filter-append stay (take i old) (e ∷ [])

  more-times : (n : ℕ) → times n (numbers (take (suc i) old)) ≡ times n (numbers (take i old)) + times n (e.number ∷ [])
  more-times n = ap (λ es. times n (numbers es)) (take-suc old i d inside) ∙ times-entries n (take i old) (e ∷ [])

  pub closed-kept : left ≡ true → ClosedUp stay old new spare spare3 count (suc i)
  closed-kept stays_there =
      let put : new ≡ set now kept e =
      closes.entries d ∙ ap (λ b. cond b (set now kept (get_or now i d)) now) stays_there ∙ ap (set now kept) same in
      let spared : spare3 ≡ spare2 = closes.spares d ∙ ap (λ b. cond b spare2 (spare2 ++ (let u : Entry = get_or now i d in u.number) ∷ [])) stays_there in
      let counted : count ≡ kept + 1 = closes.counts ∙ ap (λ b. cond b (kept + 1) kept) stays_there in
      let next : count ≡ suc kept = omega (arith, counted) in
      let stays_e : stay e ≡ true = ap stay (sym same) ∙ sym is ∙ stays_there in
      let fronts : take count new ≡ take kept now ++ e ∷ [] =
      ap (λ k. take k new) next ∙ ap (take (suc kept)) put
      ∙ take-suc-set now kept e (omega (arith, so.few, so.long, inside)) in
      record {
        front = fronts ∙ ap (λ es. es ++ e ∷ []) so.front ∙ ap (λ b. filter stay (take i old) ++ cond b (e ∷ []) []) (sym stays_e) ∙ sym more;
        rest = ap (drop (suc i)) put ∙ drop-set-lt (suc i) now kept e (omega (arith, so.few)) ∙ drop-more now old i so.rest;
        long = ap length put ∙ length-set now kept e ∙ so.long;
        few = omega (arith, next, so.few);
        within = omega (arith, inside);
        counts = omega (arith, so.counts, next, ap length spared);
        balance = λ n.
            let front_times = ap (λ es. times n (numbers es)) fronts ∙ times-entries n (take kept now) (e ∷ []) in
            omega (arith, front_times, more-times n, so.balance n, ap (times n) spared);
      }

  pub closed-gone : left ≡ false → ClosedUp stay old new spare spare3 count (suc i)
  closed-gone goes =
      let put : new ≡ now = closes.entries d ∙ ap (λ b. cond b (set now kept (get_or now i d)) now) goes in
      let spared : spare3 ≡ spare2 ++ e.number ∷ [] =
      closes.spares d ∙ ap (λ b. cond b spare2 (spare2 ++ (let u : Entry = get_or now i d in u.number) ∷ [])) goes
      ∙ ap (λ (u : Entry). spare2 ++ u.number ∷ []) same in
      let counted : count ≡ kept = closes.counts ∙ ap (λ b. cond b (kept + 1) kept) goes in
      let goes_e : stay e ≡ false = ap stay (sym same) ∙ sym is ∙ goes in
      let fronts : take count new ≡ take kept now = ap (λ k. take k new) counted ∙ ap (take kept) put in
      let none : filter stay (take i old) ≡ filter stay (take i old) ++ [] = sym (append-nil (filter stay (take i old))) in
      record {
        front = fronts ∙ so.front ∙ none ∙ ap (λ b. filter stay (take i old) ++ cond b (e ∷ []) []) (sym goes_e) ∙ sym more;
        rest = ap (drop (suc i)) put ∙ drop-more now old i so.rest;
        long = ap length put ∙ so.long;
        few = omega (arith, counted, so.few);
        within = omega (arith, inside);
        counts = omega (arith, so.counts, counted, ap length spared ∙ length-append spare2 (e.number ∷ []));
        balance = λ n.
            let front_times = ap (λ es. times n (numbers es)) fronts in
            let spare_times = ap (times n) spared ∙ times-app n spare2 (e.number ∷ []) in
            omega (arith, front_times, spare_times, more-times n, so.balance n);
      }

  pub closed-step : ClosedUp stay old new spare spare3 count (suc i)
  closed-step = by left refl
    where
      by : (b : Bool) → left ≡ b → ClosedUp stay old new spare spare3 count (suc i)
      by true e = closed-kept e
      by false e = closed-gone e

-- a test of tiles that entries show is a test of entries
pub filter-tiles : (squares : List (List (Option ℕ))) (p : Tile → Bool) (held : List Entry) →
    tiles_in squares (filter (λ e. p (tile_in squares e)) held) ≡ filter p (tiles_in squares held)
filter-tiles squares p [] = refl
filter-tiles squares p (e ∷ es) = by (p (tile_in squares e)) (filter-tiles squares p es)
  where
    by : (b : Bool) → tiles_in squares (filter (λ e. p (tile_in squares e)) es) ≡ filter p (tiles_in squares es) →
        tiles_in squares (cond b (e ∷ filter (λ e. p (tile_in squares e)) es) (filter (λ e. p (tile_in squares e)) es))
        ≡ cond b (tile_in squares e ∷ filter p (tiles_in squares es)) (filter p (tiles_in squares es))
    by true rest = ap (λ ts. tile_in squares e ∷ ts) rest
    by false rest = rest
