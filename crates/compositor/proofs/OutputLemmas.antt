-- Facts of outputs, and of the columns of a row that they have.
use Rattle.std.proofs.Common.{◌≡◌, ℕ, zero, suc, ◌+◌, ◌≤◌, ◌<◌, Bool, true, false, List, [], ◌∷◌, All, length, get_or, drop, inl, inr, refl, sym, ◌∙◌, ap, arith, nat_lt, min, if◌then◌else◌}
use Rattle.std.specs.Prelude.{◌&&◌, ◌||◌, not, ℤ, pos}
use Rattle.std.proofs.lemmas.Bool.{and_parts, cases_lt}
use Rattle.std.proofs.lemmas.Bool.Decides.{nat_tests}
use Rattle.std.proofs.lemmas.Int.{ints}
use Rattle.std.proofs.lemmas.List.{drop_more}
use Rattle.gui_num.specs.declared.Rect.{Rect}
use Rattle.gui_num.specs.declared.Point.{Point}
use Rattle.gui_num.specs.Rects.{IsFit, nat_of, on_side, has, right}
use Rattle.region_clip.specs.Spans.{in_columns, in_spans}
use Rattle.compositor.specs.Composed.{is_in, at_pixel}
use Rattle.compositor.specs.PictureView.{LiesIn}
use Rattle.compositor.proofs.DrawLemmas.{outer-in}

-- the first of the outputs from one on
pub in-first : (outputs : List Rect) (n : ℕ) (d : Rect) (p : Point) → n < length outputs
    → is_in (drop n outputs) p ≡ (has (get_or outputs n d) p || is_in (drop (n + 1) outputs) p)
in-first outputs n d p h = ap (λ os. is_in os p) (drop_more outputs n d h)

-- those behind an output that hasn't the pixel
pub in-others : (outputs : List Rect) (n : ℕ) (d : Rect) (p : Point) → n < length outputs → has (get_or outputs n d) p ≡ false
    → is_in (drop n outputs) p ≡ is_in (drop (n + 1) outputs) p
in-others outputs n d p h e = in-first outputs n d p h ∙ ap (λ b. b || is_in (drop (n + 1) outputs) p) e

or-right : (a b : Bool) → b ≡ true → (a || b) ≡ true
or-right true b e = refl
or-right false b e = e

-- what some of them have, all have
in-some : (outputs : List Rect) (n : ℕ) (p : Point) → is_in (drop n outputs) p ≡ true → is_in outputs p ≡ true
in-some outputs zero p e = e
in-some [] (suc n) p e = e
in-some (o ∷ outputs) (suc n) p e = or-right (has o p) (is_in outputs p) (in-some outputs n p e)

-- an output that has a pixel
pub in-one : (outputs : List Rect) (n : ℕ) (d : Rect) (p : Point) → n < length outputs → has (get_or outputs n d) p ≡ true → is_in outputs p ≡ true
in-one outputs n d p h e = in-some outputs n p (in-first outputs n d p h ∙ ap (λ b. b || is_in (drop (n + 1) outputs) p) e)

-- ---- the columns that one output has

-- the columns of an output, and whether it has the row
has-columns : (o : Rect) (x y : ℕ) → has o (at_pixel x y) ≡ (in_columns (nat_of o.x) (nat_of (right o)) x && on_side o.y o.h (pos y))
has-columns o x y = ap (λ b. b && on_side o.y o.h (pos y)) (sym (outer-in o.x (right o) x))

columns-past : (a b x : ℕ) → in_columns a b x ≡ true → x < b
columns-past a b x e = grind (arith, nat_tests, e)

columns-on : (a b x k : ℕ) → in_columns a b x ≡ true → x ≤ k → k < b → in_columns a b k ≡ true
columns-on a b x k e low high = grind (arith, nat_tests, e)

both : (a b : Bool) → a ≡ true → b ≡ true → (a && b) ≡ true
both a b s t = cc

pub has-past : (o : Rect) (x y : ℕ) → has o (at_pixel x y) ≡ true → x < nat_of (right o)
has-past o x y e = columns-past (nat_of o.x) (nat_of (right o)) x (and_parts _ _ (sym (has-columns o x y) ∙ e)).0

-- from a pixel on up to its right edge
pub has-on : (o : Rect) (x y k : ℕ) → has o (at_pixel x y) ≡ true → x ≤ k → k < nat_of (right o) → has o (at_pixel k y) ≡ true
has-on o x y k e low high =
    let parts = and_parts (in_columns (nat_of o.x) (nat_of (right o)) x) (on_side o.y o.h (pos y)) (sym (has-columns o x y) ∙ e) in
    has-columns o k y ∙ both _ _ (columns-on (nat_of o.x) (nat_of (right o)) x k parts.0 low high) parts.1

before-left : (a b k : ℕ) (row : Bool) → k < a → (in_columns a b k && row) ≡ false
before-left a b k row h = grind (arith, nat_tests)

-- before its left edge
pub hidden-before : (o : Rect) (k y : ℕ) → k < nat_of o.x → has o (at_pixel k y) ≡ false
hidden-before o k y h = has-columns o k y ∙ before-left (nat_of o.x) (nat_of (right o)) k (on_side o.y o.h (pos y)) h

past-right : (a b x k : ℕ) (row : Bool) → (in_columns a b x && row) ≡ false → (nat_lt x a && row) ≡ false → x ≤ k → (in_columns a b k && row) ≡ false
past-right a b x k true e f h = grind (arith, nat_tests, e, f)
past-right a b x k false e f h = grind (arith, nat_tests)

-- where it doesn't begin past a column that it hasn't
pub hidden-on : (o : Rect) (x y k : ℕ) → has o (at_pixel x y) ≡ false → (nat_lt x (nat_of o.x) && on_side o.y o.h (pos y)) ≡ false → x ≤ k → has o (at_pixel k y) ≡ false
hidden-on o x y k e f h =
    has-columns o k y ∙ past-right (nat_of o.x) (nat_of (right o)) x k (on_side o.y o.h (pos y)) (sym (has-columns o x y) ∙ e) f h

no-or : (a b : Bool) → (a || b) ≡ false → a ≡ false
no-or true b e = e
no-or false b e = refl

-- where none from one on has a pixel, this one hasn't
pub first-hidden : (outputs : List Rect) (n : ℕ) (d : Rect) (p : Point) → n < length outputs → is_in (drop n outputs) p ≡ false → has (get_or outputs n d) p ≡ false
first-hidden outputs n d p h e = no-or (has (get_or outputs n d) p) (is_in (drop (n + 1) outputs) p) (sym (in-first outputs n d p h) ∙ e)

-- a pixel whose places are given as signed numbers
pub at-place : (r : Rect) (x y : ℕ) (a b : ℤ) → a ≡ pos x → b ≡ pos y → has r (record { x = a; y = b }) ≡ has r (at_pixel x y)
at-place r x y a b e f = ap (λ n. has r (record { x = n; y = b })) e ∙ ap (λ n. has r (record { x = pos x; y = n })) f

-- ---- a row that is swept from the left

kept : (s w : Bool) → w ≡ false → (s && not w) ≡ s
kept true w e = ap not e
kept false w e = refl

cut-off : (s w : Bool) → w ≡ true → (s && not w) ≡ false
cut-off true w e = ap not e
cut-off false w e = refl

not-in : (a b k : ℕ) → k < a → in_columns a b k ≡ false
not-in a b k h = grind (arith, nat_tests)

not-in-past : (a b k : ℕ) → b ≤ k → in_columns a b k ≡ false
not-in-past a b k h = grind (arith, nat_tests)

is-within : (a b k : ℕ) → a ≤ k → k < b → in_columns a b k ≡ true
is-within a b k h l = grind (arith, nat_tests)

-- what is cut off up to the next column that an output has
pub gap-swept : (outputs : List Rect) (spans spans' : List (ℕ × ℕ)) (y width a b : ℕ)
    → ((k : ℕ) → in_spans spans' k ≡ (in_spans spans k && not (in_columns a b k)))
    → ((k : ℕ) → a ≤ k → k < b → is_in outputs (at_pixel k y) ≡ false)
    → ((k : ℕ) → k < a → k < width → in_spans spans k ≡ is_in outputs (at_pixel k y))
    → (k : ℕ) → k < b → k < width → in_spans spans' k ≡ is_in outputs (at_pixel k y)
gap-swept outputs spans spans' y width a b cut hidden swept k low high = elim (cases_lt k a) [
  | inl before ↦ (cut k ∙ kept (in_spans spans k) (in_columns a b k) (not-in a b k before) ∙ swept k before high)
  | inr on ↦ (cut k ∙ cut-off (in_spans spans k) (in_columns a b k) (is-within a b k on low) ∙ sym (hidden k on low))
]

pub gap-ahead : (spans spans' : List (ℕ × ℕ)) (width a b : ℕ) → a ≤ b
    → ((k : ℕ) → in_spans spans' k ≡ (in_spans spans k && not (in_columns a b k)))
    → ((k : ℕ) → a ≤ k → k < width → in_spans spans k ≡ true)
    → (k : ℕ) → b ≤ k → k < width → in_spans spans' k ≡ true
gap-ahead spans spans' width a b order cut ahead k low high =
    cut k ∙ kept (in_spans spans k) (in_columns a b k) (not-in-past a b k low) ∙ ahead k (omega arith) high

-- ---- pixels that count as drawn

pub counted-more : (painted shown more most : ℕ) → min (min (painted + shown) most + more) most ≡ min (painted + (shown + more)) most
counted-more painted shown more most = grind arith

-- ---- outputs that lie in a plane

lies-fit : (w h : ℕ) (r : Rect) → w ≤ 8192 → h ≤ 8192 → LiesIn w h r → IsFit r
lies-fit w h r wide high l = record {
  x_low = omega (arith, ints, l.left);
  x_high = omega (arith, ints, l.right_edge);
  y_low = omega (arith, ints, l.top);
  y_high = omega (arith, ints, l.bottom_edge);
  w_small = omega (arith, ints, l.left, l.right_edge);
  h_small = omega (arith, ints, l.top, l.bottom_edge);
}

pub all-fit : (w h : ℕ) (outputs : List Rect) → w ≤ 8192 → h ≤ 8192 → All (LiesIn w h) outputs → All IsFit outputs
all-fit w h outputs wide high placed = λ k d l. lies-fit w h (get_or outputs k d) wide high (placed k d l)

-- a pixel that no output has keeps its 0
pub zero-outside : (b : Bool) (m n : ℕ) → (b ≡ false → n ≡ 0) → (if b then m else n) ≡ (if b then m else 0)
zero-outside true m n f = refl
zero-outside false m n f = f refl
