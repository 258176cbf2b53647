-- The points of a region, and what the code needs to know of its cuts.
use Rattle.std.proofs.Common.{◌≡◌, ℕ, ◌+◌, ◌≤◌, ◌<◌, Bool, true, false, List, [], ◌∷◌, ◌++◌, length, Option, Some, None, refl, sym, ◌∙◌, ap, arith, if◌then◌else◌, nat_le, nat_lt, add-zero, subst}
use Rattle.std.specs.Prelude.{◌||◌, option_map}
use Rattle.std.specs.List.{All, AllByRecursion}
use Rattle.std.proofs.lemmas.List.Elements.{All-nil, All-append}
use Rattle.std.proofs.lemmas.Bool.Decides.{nat_tests}
use Rattle.std.proofs.lemmas.Int.{ints}
use Rattle.gui_num.specs.declared.Rect.{Rect}
use Rattle.gui_num.specs.declared.Point.{Point}
use Rattle.gui_num.specs.Rects.{has}
use Rattle.region_clip.specs.RectCuts.{cut_by, IsNear, bit, holders, in_rects}
use Rattle.region_clip.specs.Regions.{most, cut_all, cut_each, is_empty, added, all_added, AreDisjoint}
use Rattle.region_clip.proofs.CutLemmas.{append-holders, cut-holders, near-cut_by}

-- cutting a rectangle out takes off its points, and leaves each other one as often as it was there
pub all-holders : (h : Rect) (pieces : List Rect) (q : Point) → holders (cut_all h pieces) q ≡ (if has h q then 0 else holders pieces q)
all-holders h [] q = none (has h q)
  where
    none : (b : Bool) → let zero' : ℕ = 0 in zero' ≡ (if b then 0 else 0)
    none true = refl
    none false = refl
all-holders h (p ∷ pieces) q =
    append-holders (cut_by h p) (cut_all h pieces) q ∙ sum_of (has h q) _ _ _ _ (cut-holders h p q) (all-holders h pieces q)
  where
    sum_of : (b : Bool) (m n x y : ℕ) → m ≡ (if b then 0 else x) → n ≡ (if b then 0 else y) → m + n ≡ (if b then 0 else x + y)
    sum_of true m n x y e f = omega arith
    sum_of false m n x y e f = cc

-- the pieces that are left have the points of those before that no held rectangle has
pub each-holders : (n : ℕ) (held pieces new : List Rect) (q : Point) → cut_each n held pieces ≡ Some new → holders new q ≡ (if in_rects held q then 0 else holders pieces q)
each-holders n [] pieces new q e = by_room (nat_le (n + length pieces) most) e
  where
    by_room : (b : Bool) → (if b then Some pieces else None) ≡ Some new → holders new q ≡ holders pieces q
    by_room true e = let s : pieces ≡ new = cc in ap (λ ps. holders ps q) (sym s)
    by_room false e = cc
each-holders n (h ∷ held) pieces new q e = by_room (nat_le (n + length pieces) most) e (λ f. each-holders n held (cut_all h pieces) new q f)
  where
    join : (a b : Bool) (m x y : ℕ) → m ≡ (if b then 0 else x) → x ≡ (if a then 0 else y) → m ≡ (if a || b then 0 else y)
    join true true m x y e f = e
    join true false m x y e f = e ∙ f
    join false b m x y e f = e ∙ ap (λ z. if b then 0 else z) f

    by_room : (b : Bool) → (if b then cut_each n held (cut_all h pieces) else None) ≡ Some new → (cut_each n held (cut_all h pieces) ≡ Some new → holders new q ≡ (if in_rects held q then 0 else holders (cut_all h pieces) q)) → holders new q ≡ (if has h q || in_rects held q then 0 else holders pieces q)
    by_room true e k = join (has h q) (in_rects held q) (holders new q) (holders (cut_all h pieces) q) (holders pieces q) (k e) (all-holders h pieces q)
    by_room false e k = cc

-- ---- what the code needs

pub near-cut_all : (h : Rect) (pieces : List Rect) → IsNear h → AllByRecursion IsNear pieces → All IsNear (cut_all h pieces)
near-cut_all h [] n a = All-nil IsNear
near-cut_all h (p ∷ pieces) n a = All-append IsNear (cut_by h p) (cut_all h pieces) (near-cut_by h p n a.0) (near-cut_all h pieces n a.1)

-- too many stay too many
pub cut_each-full : (n : ℕ) (held pieces : List Rect) → most < n + length pieces → cut_each n held pieces ≡ None
cut_each-full n [] pieces h = grind (arith, nat_tests)
cut_each-full n (r ∷ held) pieces h = grind (arith, nat_tests)

pub cut_each-step : (n : ℕ) (h : Rect) (held pieces : List Rect) → n + length pieces ≤ most → cut_each n (h ∷ held) pieces ≡ cut_each n held (cut_all h pieces)
cut_each-step n h held pieces e = grind (arith, nat_tests)

pub cut_each-end : (n : ℕ) (pieces : List Rect) → n + length pieces ≤ most → cut_each n [] pieces ≡ Some pieces
cut_each-end n pieces e = grind (arith, nat_tests)

-- ---- adding

-- a held point stays held as often; another one is held once where r has it
pub added-holders : (held new : List Rect) (r : Rect) (q : Point) → added held r ≡ Some new → holders new q ≡ (if in_rects held q then holders held q else bit (has r q))
added-holders held new r q e = by_empty (is_empty r) refl
  where
    none : (held : List Rect) (q : Point) → in_rects held q ≡ false → holders held q ≡ 0
    none [] q e = refl
    none (h ∷ held) q e = grind (arith, none held q)

    no_point : (r : Rect) (q : Point) → is_empty r ≡ true → has r q ≡ false
    no_point r q e = grind (arith, ints, nat_tests)

    kept : (b : Bool) (n m : ℕ) → (b ≡ false → n ≡ 0) → m ≡ 0 → n ≡ (if b then n else m)
    kept true n m f g = refl
    kept false n m f g = f refl ∙ sym g

    more : (b : Bool) (n k m : ℕ) → (b ≡ false → n ≡ 0) → k ≡ (if b then 0 else m) → n + k ≡ (if b then n else m)
    more true n k m f g = omega arith
    more false n k m f g = let z = f refl in omega arith

    by_pieces : (o : Option (List Rect)) → cut_each (length held) held (r ∷ []) ≡ o → option_map (λ ps. held ++ ps) o ≡ Some new → holders new q ≡ (if in_rects held q then holders held q else bit (has r q))
    by_pieces None f g = cc
    by_pieces (Some ps) f g =
        let n : held ++ ps ≡ new = cc in
        ap (λ rs. holders rs q) (sym n) ∙ append-holders held ps q
        ∙ more (in_rects held q) (holders held q) (holders ps q) (bit (has r q)) (none held q) (each-holders (length held) held (r ∷ []) ps q f ∙ ap (λ m. if in_rects held q then 0 else m) (add-zero (bit (has r q))))

    by_empty : (b : Bool) → is_empty r ≡ b → holders new q ≡ (if in_rects held q then holders held q else bit (has r q))
    by_empty true f =
        let n : held ≡ new = let g : added held r ≡ Some held = ap (λ b. if b then Some held else option_map (λ ps. held ++ ps) (cut_each (length held) held (r ∷ []))) f in cc in
        ap (λ rs. holders rs q) (sym n) ∙ kept (in_rects held q) (holders held q) (bit (has r q)) (none held q) (ap bit (no_point r q f))
    by_empty false f =
        let g : added held r ≡ option_map (λ ps. held ++ ps) (cut_each (length held) held (r ∷ [])) = ap (λ b. if b then Some held else option_map (λ ps. held ++ ps) (cut_each (length held) held (r ∷ []))) f in
        by_pieces (cut_each (length held) held (r ∷ [])) refl (sym g ∙ e)

in_rects-holders : (rects : List Rect) (q : Point) → in_rects rects q ≡ nat_lt 0 (holders rects q)
in_rects-holders [] q = refl
in_rects-holders (r ∷ rects) q = grind (arith, nat_tests, in_rects-holders rects q)

-- the region has the pixels that it had and those that were added
pub added-points : (held new : List Rect) (r : Rect) (q : Point) → added held r ≡ Some new → in_rects new q ≡ (in_rects held q || has r q)
added-points held new r q e =
    let t = added-holders held new r q e in
    let a = in_rects-holders new q in
    let b = in_rects-holders held q in
    grind (arith, nat_tests, t, a, b)

-- and its rectangles stay disjoint
pub added-disjoint : (held new : List Rect) (r : Rect) → added held r ≡ Some new → AreDisjoint held → AreDisjoint new
added-disjoint held new r e d = λ q. let t = added-holders held new r q e in let o = d q in grind (arith, t, o)

-- what is added is held behind the rest
pub added-some : (held pieces new : List Rect) (r : Rect) → is_empty r ≡ false → cut_each (length held) held (r ∷ []) ≡ Some pieces → new ≡ held ++ pieces → added held r ≡ Some new
added-some held pieces new r e f g =
    ap (λ b. if b then Some held else option_map (λ ps. held ++ ps) (cut_each (length held) held (r ∷ []))) e
    ∙ ap (option_map (λ ps. held ++ ps)) f ∙ ap Some (sym g)

-- ---- adding some to none

-- what is held once some were added, in their order, to others
all-points : (held rects new : List Rect) (q : Point) → all_added held rects ≡ Some new → in_rects new q ≡ (in_rects held q || in_rects rects q)
all-points held [] new q e = let s : held ≡ new = cc in ap (λ rs. in_rects rs q) (sym s) ∙ or_false (in_rects held q)
  where
    or_false : (b : Bool) → b ≡ (b || false)
    or_false true = refl
    or_false false = refl
all-points held (r ∷ rects) new q e = by_room (added held r) refl e (λ next. all-points next rects new q)
  where
    by_room : (o : Option (List Rect)) → added held r ≡ o → elim o [ None ↦ None | Some next ↦ all_added next rects ] ≡ Some new
        → ((next : List Rect) → all_added next rects ≡ Some new → in_rects new q ≡ (in_rects next q || in_rects rects q))
        → in_rects new q ≡ (in_rects held q || (has r q || in_rects rects q))
    by_room None f g more = cc
    by_room (Some next) f g more = let a = added-points held next r q f in let b = more next g in grind (arith, a, b)

all-disjoint : (held rects new : List Rect) → all_added held rects ≡ Some new → AreDisjoint held → AreDisjoint new
all-disjoint held [] new e d = let s : held ≡ new = cc in subst AreDisjoint s d
all-disjoint held (r ∷ rects) new e d = by_room (added held r) refl e (λ next. all-disjoint next rects new)
  where
    by_room : (o : Option (List Rect)) → added held r ≡ o → elim o [ None ↦ None | Some next ↦ all_added next rects ] ≡ Some new
        → ((next : List Rect) → all_added next rects ≡ Some new → AreDisjoint next → AreDisjoint new) → AreDisjoint new
    by_room None f g more = absurd (none-some g)
      where
        none-some : {A : Type 0} {x : A} → None ≡ Some x → ⊥
        none-some e = cc
    by_room (Some next) f g more = more next g (added-disjoint held next r f d)

pub regions-disjoint : (rects held : List Rect) → all_added [] rects ≡ Some held → AreDisjoint held
regions-disjoint rects held e = all-disjoint [] rects held e (λ q. omega arith)

pub regions-points : (rects held : List Rect) → all_added [] rects ≡ Some held → (q : Point) → in_rects held q ≡ in_rects rects q
regions-points rects held e q = all-points [] rects held q e
