-- A row's tiles in use are as many as the held tiles of its slot.
use Rattle.std.proofs.Common.{◌≡◌, ℕ, zero, suc, ◌+◌, ◌*◌, ◌/◌, ◌<◌, ◌≤◌, Bool, true, false, cond, not, ◌&&◌, ◌||◌, eqb, ltb, List, [], ◌∷◌, ◌++◌, length, map, filter, Some, None, is_some, ◌⊎◌, inl, inr, refl, sym, ap, ◌∙◌, arith}
use Rattle.std.specs.List.{list_all, slice_get}
use Rattle.std.proofs.lemmas.Bool.{and_parts, and_from, both_ways, eqb-true, eqb-false, eq-eqb, and_left, cases_Bool, ltb-true}
use Rattle.std.proofs.lemmas.List.{length-append}
use Rattle.std.proofs.lemmas.List.Elements.{filter-append}
use Rattle.std.proofs.lemmas.Bool.Decides.{nat_tests}
use Rattle.desk_laws.specs.Rows.{Row, span, grid, content_at, content_of}
use Rattle.desk_laws.specs.Tiles.{is_used, tiles_of}
use Rattle.tile_store.specs.declared.spot.Spot.{Spot}
use Rattle.tile_store.specs.Tile.{Tile}
use Rattle.tile_store.specs.Spots.{same, spot_of}
use Rattle.tile_store.specs.Held.{tile_at, is_held, rises}
use Rattle.tile_store.proofs.OrderLemmas.{same-is, same-refl}
use Rattle.tile_store.proofs.HeldLemmas.{after, none-behind}
use Rattle.tile_store.proofs.CutLemmas.{same-not-before}
use Rattle.tile_store.proofs.UsedLemmas.{Agrees, used-held, grid-none}

-- how many places pass a test
abbrev pub count : (ℕ × ℕ → Bool) → List (ℕ × ℕ) → ℕ
count f places = length (filter f places)

count-append : (f : ℕ × ℕ → Bool) (ps qs : List (ℕ × ℕ)) → count f (ps ++ qs) ≡ count f ps + count f qs
count-append f ps qs = ap length (filter-append f ps qs) ∙ length-append (filter f ps) (filter f qs)

count-same : (f g : ℕ × ℕ → Bool) (ps : List (ℕ × ℕ)) → ((p : ℕ × ℕ) → f p ≡ g p) → count f ps ≡ count g ps
count-same f g [] same = refl
count-same f g (p ∷ ps) same =
    ap (λ b. length (cond b (p ∷ filter f ps) (filter f ps))) (same p) ∙ by (g p) (count-same f g ps same)
  where
    by : (b : Bool) → count f ps ≡ count g ps → length (cond b (p ∷ filter f ps) (filter f ps)) ≡ length (cond b (p ∷ filter g ps) (filter g ps))
    by true e = ap suc e
    by false e = e

count-none : (ps : List (ℕ × ℕ)) → count (λ _. false) ps ≡ 0
count-none [] = refl
count-none (p ∷ ps) = count-none ps

-- two tests that differ at one place alone, where the first passes
module _ (f g : ℕ × ℕ → Bool) (c r : ℕ) (agree : (k j : ℕ) → ((k ≡ c) → (j ≡ r) → ⊥) → f (k, j) ≡ g (k, j))
    (yes : f (c, r) ≡ true) (no : g (c, r) ≡ false) where
  step : (p : ℕ × ℕ) (ps : List (ℕ × ℕ)) (more : ℕ) → f p ≡ g p → count f ps ≡ more + count g ps → count f (p ∷ ps) ≡ more + count g (p ∷ ps)
  step p ps more same rest = ap (λ b. length (cond b (p ∷ filter f ps) (filter f ps))) same ∙ by (g p)
    where
      by : (b : Bool) → length (cond b (p ∷ filter f ps) (filter f ps)) ≡ more + length (cond b (p ∷ filter g ps) (filter g ps))
      by true = omega (arith, rest)
      by false = rest

  here : (ps : List (ℕ × ℕ)) → count f ps ≡ 0 + count g ps → count f ((c, r) ∷ ps) ≡ 1 + count g ((c, r) ∷ ps)
  here ps rest =
      let first : count f ((c, r) ∷ ps) ≡ suc (count f ps) = ap (λ b. length (cond b ((c, r) ∷ filter f ps) (filter f ps))) yes in
      let second : count g ((c, r) ∷ ps) ≡ count g ps = ap (λ b. length (cond b ((c, r) ∷ filter g ps) (filter g ps))) no in
      omega (arith, first, second, rest)

  row-past : (j from n : ℕ) → ((j ≡ r) → c < from) → count f (map (λ i. (i, j)) (span from n)) ≡ 0 + count g (map (λ i. (i, j)) (span from n))
  row-past j from zero past = refl
  row-past j from (suc n) past =
      step (from, j) (map (λ i. (i, j)) (span (suc from) n)) 0 (agree from j (λ e h. let less = past h in omega (arith, less, e)))
      (row-past j (suc from) n (λ h. let less = past h in omega (arith, less)))

  row-one : (from n : ℕ) → from ≤ c → c < from + n → count f (map (λ i. (i, r)) (span from n)) ≡ 1 + count g (map (λ i. (i, r)) (span from n))
  row-one from zero low high = absurd (omega arith)
  row-one from (suc n) low high = by (cases_Bool (eqb from c)) (λ h. row-one (suc from) n h (omega arith))
    where
      rest : List (ℕ × ℕ)
      rest = map (λ i. (i, r)) (span (suc from) n)

      by : (eqb from c ≡ true) ⊎ (eqb from c ≡ false) → (suc from ≤ c → count f rest ≡ 1 + count g rest) → count f ((from, r) ∷ rest) ≡ 1 + count g ((from, r) ∷ rest)
      by (inl e) next =
          let it : from ≡ c = eqb-true from c e in
          ap (λ k. count f ((k, r) ∷ rest)) it
          ∙ here rest (row-past r (suc from) n (λ h. omega (arith, it)))
          ∙ ap (λ k. 1 + count g ((k, r) ∷ rest)) (sym it)
      by (inr e) next =
          let other = eqb-false from c e in
          step (from, r) rest 1 (agree from r (λ h _. other h)) (next (grind (arith, other)))

  grid-past : (from n top m : ℕ) → r < top → count f (grid from top n m) ≡ 0 + count g (grid from top n m)
  grid-past from n top zero past = refl
  grid-past from n top (suc m) past =
      let first = row-past top from n (λ h. absurd (omega (arith, h, past))) in
      let rest = grid-past from n (suc top) m (omega arith) in
      let ps : List (ℕ × ℕ) = map (λ i. (i, top)) (span from n) in
      let qs : List (ℕ × ℕ) = grid from (suc top) n m in
      omega (arith, first, rest, count-append f ps qs, count-append g ps qs)

  pub grid-one : (from n top m : ℕ) → from ≤ c → c < from + n → top ≤ r → r < top + m → count f (grid from top n m) ≡ 1 + count g (grid from top n m)
  grid-one from n top zero low high above below = absurd (omega arith)
  grid-one from n top (suc m) low high above below = by (cases_Bool (eqb top r)) (λ h. grid-one from n (suc top) m low high h (omega arith))
    where
      ps : List (ℕ × ℕ)
      ps = map (λ i. (i, top)) (span from n)

      qs : List (ℕ × ℕ)
      qs = grid from (suc top) n m

      by : (eqb top r ≡ true) ⊎ (eqb top r ≡ false) → (suc top ≤ r → count f qs ≡ 1 + count g qs) → count f (ps ++ qs) ≡ 1 + count g (ps ++ qs)
      by (inl e) next =
          let it : top ≡ r = eqb-true top r e in
          let first : count f ps ≡ 1 + count g ps =
          ap (λ j. count f (map (λ i. (i, j)) (span from n))) it ∙ row-one from n low high
          ∙ ap (λ j. 1 + count g (map (λ i. (i, j)) (span from n))) (sym it) in
          let rest = grid-past from n (suc top) m (omega (arith, it)) in
          omega (arith, first, rest, count-append f ps qs, count-append g ps qs)
      by (inr e) next =
          let other = eqb-false top r e in
          let first = row-past top from n (λ h. absurd (other h)) in
          let rest = next (grind (arith, other)) in
          omega (arith, first, rest, count-append f ps qs, count-append g ps qs)

-- whether a tile is of a slot
abbrev pub is_of : ℕ → Tile → Bool
is_of slot t = eqb t.spot.slot slot

-- whether a tile of the slot lies in the first n columns and m rows
abbrev pub lies_within : ℕ → ℕ → ℕ → Tile → Bool
lies_within slot n m t = not (is_of slot t) || (ltb t.spot.column n && ltb t.spot.row m)

-- the places of a slot whose tiles are held are as many as these tiles
held-places : (slot n m : ℕ) (ts : List Tile) → rises ts ≡ true → list_all (lies_within slot n m) ts ≡ true →
    count (λ place. is_held (spot_of slot place) ts) (grid 0 0 n m) ≡ length (filter (is_of slot) ts)
held-places slot n m [] rising within = count-none (grid 0 0 n m)
held-places slot n m (t ∷ ts) rising within =
    let parts = and_parts (list_all (after t) ts) (rises ts) rising in
    let ins = and_parts (lies_within slot n m t) (list_all (lies_within slot n m) ts) within in
    by (is_of slot t) refl ins.0 parts.0 (held-places slot n m ts parts.1 ins.1)
  where
    f : ℕ × ℕ → Bool
    f = λ place. is_held (spot_of slot place) (t ∷ ts)

    g : ℕ × ℕ → Bool
    g = λ place. is_held (spot_of slot place) ts

    other : (place : ℕ × ℕ) → same t.spot (spot_of slot place) ≡ false → f place ≡ g place
    other place e = ap (λ b. is_some (cond b (Some t) (tile_at (spot_of slot place) ts))) e

    by : (b : Bool) → is_of slot t ≡ b → lies_within slot n m t ≡ true → list_all (after t) ts ≡ true →
        count g (grid 0 0 n m) ≡ length (filter (is_of slot) ts) → count f (grid 0 0 n m) ≡ length (cond b (t ∷ filter (is_of slot) ts) (filter (is_of slot) ts))
    by false e inside all rest =
        count-same f g (grid 0 0 n m)
        (λ place. other place (and_left (eqb t.spot.slot slot && eqb t.spot.row place.1) (eqb t.spot.column place.0) (and_left (eqb t.spot.slot slot) (eqb t.spot.row place.1) e)))
        ∙ rest
    by true e inside all rest =
        let c : ℕ = t.spot.column in
        let r : ℕ = t.spot.row in
        let q : Spot = spot_of slot (c, r) in
        let here : same t.spot q ≡ true =
        and_from (eqb t.spot.slot slot && eqb r r) (eqb c c) (and_from (eqb t.spot.slot slot) (eqb r r) e (eq-eqb r r refl)) (eq-eqb c c refl) in
        let yes : f (c, r) ≡ true = ap (λ b. is_some (cond b (Some t) (tile_at q ts))) here in
        let no : g (c, r) ≡ false = ap is_some (none-behind q t ts (same-not-before t.spot q here) all) in
        let agree : (k j : ℕ) → (k ≡ c → j ≡ r → ⊥) → f (k, j) ≡ g (k, j) = λ k j differs.
        other (k, j) (apart k j differs) in
        let sides : (ltb c n ≡ true) × (ltb r m ≡ true) = and_parts (ltb c n) (ltb r m) (ap (λ b. not b || (ltb c n && ltb r m)) (sym e) ∙ inside) in
        let across = ltb-true c n sides.0 in
        let down = ltb-true r m sides.1 in
        let total = grid-one f g c r agree yes no 0 n 0 m (omega arith) (omega (arith, across)) (omega arith) (omega (arith, down)) in
        let one : 1 + count g (grid 0 0 n m) ≡ suc (count g (grid 0 0 n m)) = omega arith in
        total ∙ one ∙ ap suc rest
      where
        apart : (k j : ℕ) → (k ≡ t.spot.column → j ≡ t.spot.row → ⊥) → same t.spot (spot_of slot (k, j)) ≡ false
        apart k j differs = case (same t.spot (spot_of slot (k, j))) refl
          where
            case : (v : Bool) → same t.spot (spot_of slot (k, j)) ≡ v → v ≡ false
            case true is =
                let it = same-is t.spot (spot_of slot (k, j)) is in
                absurd (differs (ap (λ (s : Spot). s.column) (sym it)) (ap (λ (s : Spot). s.row) (sym it)))
            case false is = refl

-- a place outside a row's tiles isn't in use
outside : (row : Row) (c r : ℕ) → (ltb c ((row.place.w + 63) / 64) && ltb r ((row.place.h + 63) / 64)) ≡ false → is_used row (c, r) ≡ false
outside row c r out = grid-none (λ k. is_some (content_at row k.0 k.1)) (64 * c) (64 * r) 64 64 (λ x y low high above below. no x y (past x y low above))
  where
    no : (x y : ℕ) → (ltb x row.place.w && ltb y row.place.h) ≡ false → is_some (content_at row x y) ≡ false
    no x y e = ap (λ b. is_some (cond b (content_of (slice_get row.contents (y * row.place.w + x))) None)) e

    past : (x y : ℕ) → 64 * c ≤ x → 64 * r ≤ y → (ltb x row.place.w && ltb y row.place.h) ≡ false
    past x y low above = grind (arith, nat_tests)

-- what holds of each tile that lies where one is held holds of all
all-members : (p : Tile → Bool) (held ts : List Tile) → ((t : Tile) → is_held t.spot held ≡ true → p t ≡ true) →
    ((q : Spot) → is_held q ts ≡ true → is_held q held ≡ true) → list_all p ts ≡ true
all-members p held [] each among = refl
all-members p held (t ∷ ts) each among =
    and_from (p t) (list_all p ts)
    (each t (among t.spot (ap (λ b. is_some (cond b (Some t) (tile_at t.spot ts))) (same-refl t.spot))))
    (all-members p held ts each (λ q there. among q (more q (same t.spot q) there)))
  where
    more : (q : Spot) (b : Bool) → is_held q ts ≡ true → is_some (cond b (Some t) (tile_at q ts)) ≡ true
    more q true there = refl
    more q false there = there

-- a row's tiles in use are as many as the held tiles of its slot
pub tiles-of-row : (row : Row) (slot : ℕ) (held : List Tile) → Agrees row slot held → rises held ≡ true → length (filter (is_of slot) held) ≡ tiles_of row
tiles-of-row row slot held agrees rising =
    let n = (row.place.w + 63) / 64 in
    let m = (row.place.h + 63) / 64 in
    sym (held-places slot n m held rising (all-members (lies_within slot n m) held held inside (λ q there. there)))
    ∙ count-same (λ place. is_held (spot_of slot place) held) (is_used row) (grid 0 0 n m) (λ place. sym (used-held row slot held place agrees))
  where
    inside : (t : Tile) → is_held t.spot held ≡ true → lies_within slot ((row.place.w + 63) / 64) ((row.place.h + 63) / 64) t ≡ true
    inside t there = by (is_of slot t) (ltb t.spot.column ((row.place.w + 63) / 64) && ltb t.spot.row ((row.place.h + 63) / 64)) refl refl
      where
        by : (a b : Bool) → is_of slot t ≡ a → (ltb t.spot.column ((row.place.w + 63) / 64) && ltb t.spot.row ((row.place.h + 63) / 64)) ≡ b → (not a || b) ≡ true
        by false b e f = refl
        by true true e f = refl
        by true false e f =
            let at : t.spot ≡ spot_of slot (t.spot.column, t.spot.row) =
            ap (λ s. let it : Spot = record { slot = s; column = t.spot.column; row = t.spot.row } in it) (eqb-true t.spot.slot slot e) in
            let used : is_used row (t.spot.column, t.spot.row) ≡ true =
            used-held row slot held (t.spot.column, t.spot.row) agrees ∙ ap (λ q. is_held q held) (sym at) ∙ there in
            absurd (both_ways (is_used row (t.spot.column, t.spot.row)) (outside row t.spot.column t.spot.row f) used)
