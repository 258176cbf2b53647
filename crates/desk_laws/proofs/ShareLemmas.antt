-- What a guest's override windows take of the desktop, and how a change of its rows changes that.
use Rattle.std.proofs.Common.{◌≡◌, ℕ, ◌+◌, ◌≤◌, Bool, true, false, ◌&&◌, not, ◌==◌, List, [], ◌∷◌, ◌++◌, map, Some, refl, sym, ◌∙◌, ap, arith}
use Rattle.std.specs.Prelude.{filter, sum_by, if◌then◌else◌}
use Rattle.std.specs.List.{All}
use Rattle.std.proofs.lemmas.Bool.{and_parts, not-true, eqb-true}
use Rattle.std.proofs.lemmas.List.Elements.{All-head, All-tail}
use Rattle.std.proofs.lemmas.List.Sums.{sum_by-cons, sum_by-le-sum_by, sum_by_push}
use Rattle.gui_num.specs.Rects.{area}
use Rattle.desk_laws.specs.declared.row_id.RowId.{RowId}
use Rattle.desk_laws.specs.Rows.{Row, id_of, mine, is_row, row_with, outer}
use Rattle.desk_laws.specs.Layers.{is_in, are_apart}
use Rattle.desk_laws.specs.Effects.{replaced_in, of_guest, forgets, name_without}
use Rattle.desk_laws.specs.Override.{taken_by, taken_besides, is_over, area_over}
use Rattle.desk_laws.proofs.RowLemmas.{row-differs, kept-others}

-- ---- sums

-- a sum over some members
sum-filter : {X : Type 0} (f : X → ℕ) (p : X → Bool) (xs : List X) → sum_by f (filter p xs) ≡ sum_by (λ x. if p x then f x else 0) xs
sum-filter f p [] = refl
sum-filter f p (x ∷ xs) = by_test (p x) (sum-filter f p xs) ∙ sym (sum_by-cons (λ y. if p y then f y else 0) x xs)
  where
    some : ℕ
    some = sum_by (λ y. if p y then f y else 0) xs

    by_test : (b : Bool) → sum_by f (filter p xs) ≡ some → sum_by f (if b then x ∷ filter p xs else filter p xs) ≡ (if b then f x else 0) + some
    by_test true ih = sum_by-cons f x (filter p xs) ∙ ap (λ n. f x + n) ih
    by_test false ih = let e : some ≡ 0 + some = omega arith in ih ∙ e

sum-map-same : {X : Type 0} (f : X → ℕ) (h : X → X) → ((x : X) → f (h x) ≡ f x) → (xs : List X) → sum_by f (map h xs) ≡ sum_by f xs
sum-map-same f h same [] = refl
sum-map-same f h same (x ∷ xs) =
    let here = same x in
    omega (arith, here, sum-map-same f h same xs, sum_by-cons f (h x) (map h xs), sum_by-cons f x xs)

sum-some : {X : Type 0} (f : X → ℕ) (p : X → Bool) (xs : List X) → sum_by f (filter p xs) ≤ sum_by f xs
sum-some f p xs =
    let fewer = sum_by-le-sum_by (λ x. if p x then f x else 0) f xs (λ x. if-le (p x) (f x)) in
    omega (arith, sum-filter f p xs, fewer)
  where
    if-le : (b : Bool) (n : ℕ) → (if b then n else 0) ≤ n
    if-le true n = omega arith
    if-le false n = omega arith

-- ---- one row

-- what a row takes of its guest's override area
abbrev pub share_of : ℕ → Row → ℕ
share_of border row = if is_over row then area (outer border row) else 0

-- what a row takes of this guest's
abbrev weight : ℕ → ℕ → Row → ℕ
weight border guest row = if row.guest == guest then share_of border row else 0

-- what a row of another window takes of this guest's
abbrev weight_besides : ℕ → ℕ → ℕ → Row → ℕ
weight_besides border window guest row = if row.guest == guest then taken_by border window row else 0

taken-le : (border window : ℕ) (row : Row) → taken_by border window row ≤ share_of border row
taken-le border window row = by_tests (is_over row) (row.window == window) (area (outer border row))
  where
    by_tests : (over own : Bool) (n : ℕ) → (if over && not own then n else 0) ≤ (if over then n else 0)
    by_tests true true n = omega arith
    by_tests true false n = omega arith
    by_tests false own n = omega arith

-- the row itself isn't counted
taken-none : (border window : ℕ) (row : Row) → (row.window == window) ≡ true → taken_by border window row ≡ 0
taken-none border window row e =
    ap (λ b. if is_over row && not b then area (outer border row) else 0) e ∙ by_over (is_over row) (area (outer border row))
  where
    by_over : (over : Bool) (n : ℕ) → (if over && false then n else 0) ≡ 0
    by_over true n = refl
    by_over false n = refl

-- a row of another window counts in full
weight-le : (border window guest : ℕ) (row : Row) → is_row guest window row ≡ false → weight border guest row ≤ weight_besides border window guest row
weight-le border window guest row e = by_tests (row.guest == guest) (is_over row) (row.window == window) (area (outer border row)) e
  where
    by_tests : (mine over own : Bool) (n : ℕ) → (mine && own) ≡ false
        → (if mine then (if over then n else 0) else 0) ≤ (if mine then (if over && not own then n else 0) else 0)
    by_tests true over true n e = absurd (cc)
    by_tests true true false n e = omega arith
    by_tests true false false n e = omega arith
    by_tests false over own n e = omega arith

-- ---- all rows of a guest

area-weights : (border guest : ℕ) (rows : List Row) → area_over border (mine guest rows) ≡ sum_by (weight border guest) rows
area-weights border guest rows = sum-filter (share_of border) (λ row. row.guest == guest) rows

besides-weights : (border window guest : ℕ) (rows : List Row) → taken_besides border window (mine guest rows) ≡ sum_by (weight_besides border window guest) rows
besides-weights border window guest rows = sum-filter (taken_by border window) (λ row. row.guest == guest) rows

-- the others take no more than all
pub besides-le : (border window : ℕ) (own : List Row) → taken_besides border window own ≤ area_over border own
besides-le border window own = sum_by-le-sum_by (taken_by border window) (share_of border) own (taken-le border window)

-- the others and a row that is there take no more than all
pub besides-and_row : (border window : ℕ) (own : List Row) (row : Row) → row_with window own ≡ Some row
    → taken_besides border window own + share_of border row ≤ area_over border own
besides-and_row border window [] row is = absurd (cc)
besides-and_row border window (r ∷ own) row is = by_test (r.window == window) refl is (λ h. besides-and_row border window own row h)
  where
    first : sum_by (taken_by border window) (r ∷ own) ≡ taken_by border window r + sum_by (taken_by border window) own
    first = sum_by-cons (taken_by border window) r own

    all : sum_by (share_of border) (r ∷ own) ≡ share_of border r + sum_by (share_of border) own
    all = sum_by-cons (share_of border) r own

    by_test : (b : Bool) → (r.window == window) ≡ b → (if b then Some r else row_with window own) ≡ Some row
        → (row_with window own ≡ Some row → taken_besides border window own + share_of border row ≤ area_over border own)
        → taken_besides border window (r ∷ own) + share_of border row ≤ area_over border (r ∷ own)
    by_test true e h ih =
        let same : r ≡ row = cc in
        let here = ap (share_of border) same in
        let none = taken-none border window r e in
        let others = besides-le border window own in
        omega (arith, first, all, here, none, others)
    by_test false e h ih =
        let fewer = taken-le border window r in
        let rest = ih h in
        omega (arith, first, all, fewer, rest)

none-weigh : (border window guest : ℕ) (rows : List Row) → All (λ row. is_row guest window row ≡ false) rows
    → sum_by (weight border guest) rows ≤ sum_by (weight_besides border window guest) rows
none-weigh border window guest [] out = omega arith
none-weigh border window guest (row ∷ rows) out =
    let here = weight-le border window guest row (All-head (λ r. is_row guest window r ≡ false) row rows out) in
    let rest = none-weigh border window guest rows (All-tail (λ r. is_row guest window r ≡ false) row rows out) in
    omega (arith, here, rest, sum_by-cons (weight border guest) row rows, sum_by-cons (weight_besides border window guest) row rows)

module _ (border guest : ℕ) (new : Row) where
  new-weighs : weight border guest (of_guest guest new) ≤ share_of border new
  new-weighs = by_own (guest == guest) (share_of border new)
    where
      by_own : (b : Bool) (n : ℕ) → (if b then n else 0) ≤ n
      by_own true n = omega arith
      by_own false n = omega arith

  -- the id of a row of this window
  here-out : (row : Row) (rows : List Row) → is_row guest new.window row ≡ true → is_in (map id_of rows) (id_of row) ≡ false
      → is_in (map id_of rows) (record { guest = guest; window = new.window }) ≡ false
  here-out row rows e out =
      let parts = and_parts (row.guest == guest) (row.window == new.window) e in
      ap (λ g. is_in (map id_of rows) (at g new.window)) (sym (eqb-true row.guest guest parts.0))
      ∙ ap (λ w. is_in (map id_of rows) (at row.guest w)) (sym (eqb-true row.window new.window parts.1)) ∙ out
    where
      at : ℕ → ℕ → RowId
      at g w = record { guest = g; window = w }

  replaced-weigh : (rows : List Row) → are_apart (map id_of rows) ≡ true
      → sum_by (weight border guest) (map (replaced_in guest new) rows) ≤ sum_by (weight_besides border new.window guest) rows + share_of border new
  replaced-weigh [] apart = omega arith
  replaced-weigh (row ∷ rows) apart =
      let parts = and_parts (not (is_in (map id_of rows) (id_of row))) (are_apart (map id_of rows)) apart in
      by_row (is_row guest new.window row) refl (not-true _ parts.0) (replaced-weigh rows parts.1)
    where
      rest : List Row
      rest = map (replaced_in guest new) rows

      others : sum_by (weight_besides border new.window guest) (row ∷ rows)
          ≡ weight_besides border new.window guest row + sum_by (weight_besides border new.window guest) rows
      others = sum_by-cons (weight_besides border new.window guest) row rows

      by_row : (b : Bool) → is_row guest new.window row ≡ b → is_in (map id_of rows) (id_of row) ≡ false
          → sum_by (weight border guest) rest ≤ sum_by (weight_besides border new.window guest) rows + share_of border new
          → sum_by (weight border guest) ((if b then of_guest guest new else row) ∷ rest)
          ≤ sum_by (weight_besides border new.window guest) (row ∷ rows) + share_of border new
      by_row true e out ih =
          let there = here-out row rows e out in
          let kept = ap (sum_by (weight border guest)) (kept-others guest new rows there) in
          let still = none-weigh border new.window guest rows (row-differs guest new.window rows there) in
          let first = sum_by-cons (weight border guest) (of_guest guest new) rest in
          omega (arith, others, kept, still, first, new-weighs)
      by_row false e out ih =
          let here = weight-le border new.window guest row e in
          let first = sum_by-cons (weight border guest) row rest in
          omega (arith, others, here, ih, first)

  -- a row in the place of another takes its own, beside the others
  pub replaced-area : (rows : List Row) → are_apart (map id_of rows) ≡ true
      → area_over border (mine guest (map (replaced_in guest new) rows)) ≤ taken_besides border new.window (mine guest rows) + share_of border new
  replaced-area rows apart =
      let after = area-weights border guest (map (replaced_in guest new) rows) in
      let before = besides-weights border new.window guest rows in
      let less = replaced-weigh rows apart in
      omega (arith, after, before, less)

-- a new row that isn't mapped takes nothing
pub added-area : (border guest : ℕ) (rows : List Row) (row : Row) → row.mapped ≡ false → area_over border (mine guest (rows ++ row ∷ [])) ≡ area_over border (mine guest rows)
added-area border guest rows row unmapped =
    let after = area-weights border guest (rows ++ row ∷ []) in
    let before = area-weights border guest rows in
    let sum = sum_by_push (weight border guest) rows row in
    omega (arith, after, before, sum, none)
  where
    by_guest : (mine over : Bool) (n : ℕ) → (if mine then (if false && over then n else 0) else 0) ≡ 0
    by_guest true over n = refl
    by_guest false over n = refl

    none : weight border guest row ≡ 0
    none =
        ap (λ m. if row.guest == guest then (if m && row.over then area (outer border row) else 0) else 0) unmapped
        ∙ by_guest (row.guest == guest) row.over (area (outer border row))

-- fewer rows take no more
pub fewer-area : (border guest : ℕ) (p : Row → Bool) (rows : List Row) → area_over border (mine guest (filter p rows)) ≤ area_over border (mine guest rows)
fewer-area border guest p rows =
    let after = area-weights border guest (filter p rows) in
    let before = area-weights border guest rows in
    let less = sum-some (weight border guest) p rows in
    omega (arith, after, before, less)

-- rows that forget a window take the same
pub forgetting-area : (border other guest window : ℕ) (rows : List Row)
    → area_over border (mine other (map (forgets guest window) rows)) ≡ area_over border (mine other rows)
forgetting-area border other guest window rows =
    area-weights border other (map (forgets guest window) rows)
    ∙ sum-map-same (weight border other) (forgets guest window) (λ row. by_guest row (row.guest == guest)) rows
    ∙ sym (area-weights border other rows)
  where
    by_guest : (row : Row) (b : Bool)
        → weight border other (if b then record row { parent = name_without window row.parent; transient = name_without window row.transient } else row)
        ≡ weight border other row
    by_guest row true = refl
    by_guest row false = refl
