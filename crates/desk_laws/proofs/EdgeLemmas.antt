-- Two pixels that touch never show the contents of two windows.
use Rattle.std.proofs.Common.{◌≡◌, ℕ, ◌+◌, ◌*◌, ◌≤◌, Bool, true, false, List, [], ◌∷◌, Option, Some, None, refl, sym, ◌∙◌, ap, arith, if◌then◌else◌}
use Rattle.std.specs.Prelude.{◌&&◌, ℤ, pos, ◌+ℤ◌, ◌-ℤ◌, ◌≤ℤ◌, int_le, int_lt}
use Rattle.std.proofs.lemmas.Bool.Decides.{nat_tests}
use Rattle.std.proofs.lemmas.Int.{ints}
use Rattle.gui_num.specs.declared.Rect.{Rect}
use Rattle.gui_num.specs.declared.Point.{Point}
use Rattle.gui_num.specs.Rects.{has, grown}
use Rattle.desk_laws.specs.declared.row_id.RowId.{RowId}
use Rattle.desk_laws.specs.Rows.{Row, id_of, outer, is_shown}
use Rattle.desk_laws.specs.Layers.{Layers, last_that, stack, topmost}
use Rattle.desk_laws.specs.Settle.{content_owner}
use Rattle.desk_laws.specs.Edges.{Touch, PicturesKeepEdges}

touch-back : (p q : Point) → Touch p q → Touch q p
touch-back p q t = record { left = t.right; right = t.left; above = t.below; below = t.above }

-- a member that passes is found, or one behind it
last-none : {X : Type 0} (f h : X → Bool) (xs : List X) (b : X) → last_that h xs ≡ Some b → f b ≡ true → last_that f xs ≡ None → ⊥
last-none f h [] b eb fb n = cc
last-none f h (x ∷ xs) b eb fb n = grind (arith, nat_tests, last-none f h xs b)

-- the last members of two tests are one where each passes the other's test
last-same : {X : Type 0} (f h : X → Bool) (xs : List X) (a b : X) → last_that f xs ≡ Some a → last_that h xs ≡ Some b → f b ≡ true → h a ≡ true → a ≡ b
last-same f h [] a b ea eb fb ha = cc
last-same f h (x ∷ xs) a b ea eb fb ha = grind (arith, nat_tests, last-none f h xs b, last-none h f xs a, last-same f h xs a b)

-- the last member that passes passes
pub last-passes : {X : Type 0} (f : X → Bool) (xs : List X) (a : X) → last_that f xs ≡ Some a → f a ≡ true
last-passes f [] a e = cc
last-passes f (x ∷ xs) a e = grind (arith, nat_tests, last-passes f xs a)

-- a side that has p has q beside it too, with a margin of one or more
side-grown : (x : ℤ) (w n : ℕ) (p q : ℤ) → 1 ≤ n → p ≤ℤ (q +ℤ pos 1) → q ≤ℤ (p +ℤ pos 1)
    → (int_le x p && int_lt p (x +ℤ pos w)) ≡ true → (int_le (x -ℤ pos n) q && int_lt q ((x -ℤ pos n) +ℤ pos (w + 2 * n))) ≡ true
side-grown x w n p q h a b e = grind (arith, ints)

-- what touches a rectangle lies in it with a margin of one or more
has-grown : (r : Rect) (n : ℕ) (p q : Point) → 1 ≤ n → has r p ≡ true → Touch p q → has (grown r n) q ≡ true
has-grown r n p q h e t =
    let across = side-grown r.x r.w n p.x q.x h t.left t.right in
    let down = side-grown r.y r.h n p.y q.y h t.above t.below in
    grind (arith, across, down)

-- a window whose content a pixel shows is the topmost one there, and its place has the pixel
owner-is : (t : Option Row) (p : Point) (id : RowId) → content_owner t p ≡ Some id → (row : Row) × (t ≡ Some row) × (has row.place p ≡ true) × (id_of row ≡ id)
owner-is None p id e = cc
owner-is (Some row) p id e = by_has (has row.place p) refl e
  where
    by_has : (b : Bool) → has row.place p ≡ b → (if b then Some (id_of row) else None) ≡ Some id
        → (r : Row) × (Some row ≡ Some r) × (has r.place p ≡ true) × (id_of r ≡ id)
    by_has true h e = let same : id_of row ≡ id = cc in (row, refl, h, same)
    by_has false h e = absurd (cc)

same-owner : (border : ℕ) (rows : List Row) (layers : Layers) (p q : Point) (a b : Row) → 1 ≤ border → Touch p q → Touch q p
    → topmost border rows layers p ≡ Some a → topmost border rows layers q ≡ Some b → has a.place p ≡ true → has b.place q ≡ true → a ≡ b
same-owner border rows layers p q a b h t t' ea eb ha hb =
    let shown_a = last-passes (λ row. is_shown row && has (outer border row) p) (stack rows layers) a ea in
    let shown_b = last-passes (λ row. is_shown row && has (outer border row) q) (stack rows layers) b eb in
    let out_a : has (outer border a) q ≡ true = has-grown a.place border p q h ha t in
    let out_b : has (outer border b) p ≡ true = has-grown b.place border q p h hb t' in
    last-same (λ row. is_shown row && has (outer border row) p) (λ row. is_shown row && has (outer border row) q) (stack rows layers) a b ea eb
    (grind arith) (grind arith)

pub pictures-keep_edges : PicturesKeepEdges
pictures-keep_edges border rows layers h p q a b t ea eb =
    let x = owner-is (topmost border rows layers p) p a ea in
    let y = owner-is (topmost border rows layers q) q b eb in
    sym x.3 ∙ ap id_of (same-owner border rows layers p q x.0 y.0 h t (touch-back p q t) x.1 y.1 x.2 y.2) ∙ y.3
