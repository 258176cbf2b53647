-- The rectangles of a window's damage lie in the window.
use Rattle.std.proofs.Common.{◌≡◌, ℕ, ◌+◌, ◌≤◌, Bool, true, false, List, [], ◌∷◌, ◌++◌, length, Option, Some, None, refl, sym, ◌∙◌, ap, arith, if◌then◌else◌, nat_le, subst}
use Rattle.std.specs.Prelude.{◌&&◌, ℤ, pos, ◌≤ℤ◌, ◌<ℤ◌, int_lt, option_map}
use Rattle.std.specs.Int.{int_max, int_min}
use Rattle.std.specs.List.{All, AllByRecursion}
use Rattle.std.specs.Option.{ForSome, option_to_list}
use Rattle.std.proofs.lemmas.List.Elements.{All-nil, All-cons, All-append, recursion_from_All}
use Rattle.std.proofs.lemmas.Int.{ints, clamps}
use Rattle.gui_num.specs.declared.Rect.{Rect}
use Rattle.gui_num.specs.Rects.{IsFit, right, bottom, size_between, spanned}
use Rattle.region_clip.specs.RectCuts.{meets, part, parts, cut_by}
use Rattle.region_clip.specs.Regions.{most, cut_all, cut_each, is_empty, added, all_added}
use Rattle.agent_tree.specs.Frames.{IsPlace, IsWithin, IsPart}
use Rattle.agent_tree.specs.Scenes.{damaged, whole}
use Rattle.agent_tree.proofs.FrameLemmas.{end_is}

both : (a b : Bool) → (a && b) ≡ true → (a ≡ true) × (b ≡ true)
both true true e = (refl, refl)
both true false e = cc
both false b e = cc

-- the edges of a part lie within the window's
record InBounds (w : Rect) (x0 y0 x1 y1 : ℤ) : Type 0 where
  x_low : w.x ≤ℤ x0
  y_low : w.y ≤ℤ y0
  x_high : x1 ≤ℤ right w
  y_high : y1 ≤ℤ bottom w

inside-part : (w : Rect) (x0 y0 x1 y1 : ℤ) → InBounds w x0 y0 x1 y1 → All (IsPart w) (part x0 y0 x1 y1)
inside-part w x0 y0 x1 y1 b = by_open (int_lt x0 x1) (int_lt y0 y1) refl refl
  where
    wide : (a b : ℤ) → int_lt a b ≡ true → 1 ≤ size_between a b
    wide a b h = let e = end_is a b h in grind (arith, ints)

    by_open : (f g : Bool) → int_lt x0 x1 ≡ f → int_lt y0 y1 ≡ g → All (IsPart w) (if f && g then spanned x0 y0 x1 y1 ∷ [] else [])
    by_open true true f g = All-cons (IsPart w) (spanned x0 y0 x1 y1) [] (record { within = record { x_low = b.x_low; y_low = b.y_low; x_high = rw (end_is x0 x1 f) b.x_high; y_high = rw (end_is y0 y1 g) b.y_high }; wide = wide x0 x1 f; high = wide y0 y1 g }) (All-nil (IsPart w))
    by_open true false f g = All-nil (IsPart w)
    by_open false g f k = All-nil (IsPart w)

open-side : (a b c d : ℤ) → int_lt (int_max a c) (int_min b d) ≡ true → (int_lt a d ≡ true) × (int_lt c b ≡ true)
open-side a b c d e = (grind (arith, ints, clamps), grind (arith, ints, clamps))

inside-cut_by : (w h p : Rect) → IsPart w p → All (IsPart w) (cut_by h p)
inside-cut_by w h p i = by_meets (meets p h) refl
  where
    m : IsWithin w p
    m = i.within

    by_meets : (b : Bool) → meets p h ≡ b → All (IsPart w) (if b then parts h p else p ∷ [])
    by_meets false e = All-cons (IsPart w) p [] i (All-nil (IsPart w))
    by_meets true e =
        let s = both (int_lt (int_max p.x h.x) (int_min (right p) (right h))) (int_lt (int_max p.y h.y) (int_min (bottom p) (bottom h))) e in
        let mx = open-side p.x (right p) h.x (right h) s.0 in
        let my = open-side p.y (bottom p) h.y (bottom h) s.1 in
        let x : p.x <ℤ right h = grind (arith, ints) in
        let y : p.y <ℤ bottom h = grind (arith, ints) in
        let x' : h.x <ℤ right p = grind (arith, ints) in
        let y' : h.y <ℤ bottom p = grind (arith, ints) in
        let n : IsWithin w p = m in
        All-append (IsPart w) _ _ (inside-part w p.x p.y (right p) h.y (record { x_low = n.x_low; y_low = n.y_low; x_high = n.x_high; y_high = omega (arith, ints, n) }))
        (All-append (IsPart w) _ _ (inside-part w p.x (bottom h) (right p) (bottom p) (record { x_low = n.x_low; y_low = omega (arith, ints, n); x_high = n.x_high; y_high = n.y_high }))
        (All-append (IsPart w) _ _ (inside-part w p.x (int_max p.y h.y) h.x (int_min (bottom p) (bottom h)) (record { x_low = n.x_low; y_low = omega (arith, ints, clamps, n); x_high = omega (arith, ints, n); y_high = omega (arith, ints, clamps, n) }))
        (inside-part w (right h) (int_max p.y h.y) (right p) (int_min (bottom p) (bottom h)) (record { x_low = omega (arith, ints, n); y_low = omega (arith, ints, clamps, n); x_high = n.x_high; y_high = omega (arith, ints, clamps, n) }))))

inside-cut_all : (w h : Rect) (pieces : List Rect) → AllByRecursion (IsPart w) pieces → All (IsPart w) (cut_all h pieces)
inside-cut_all w h [] a = All-nil (IsPart w)
inside-cut_all w h (p ∷ pieces) a = All-append (IsPart w) (cut_by h p) (cut_all h pieces) (inside-cut_by w h p a.0) (inside-cut_all w h pieces a.1)

inside-each : (w : Rect) (n : ℕ) (held pieces new : List Rect) → cut_each n held pieces ≡ Some new → All (IsPart w) pieces → All (IsPart w) new
inside-each w n [] pieces new e a = by_room (nat_le (n + length pieces) most) e
  where
    by_room : (b : Bool) → (if b then Some pieces else None) ≡ Some new → All (IsPart w) new
    by_room true e = let s : pieces ≡ new = cc in subst (All (IsPart w)) s a
    by_room false e = absurd (none-some e)
      where
        none-some : {A : Type 0} {x : A} → None ≡ Some x → ⊥
        none-some e = cc
inside-each w n (h ∷ held) pieces new e a = by_room (nat_le (n + length pieces) most) e (λ f. inside-each w n held (cut_all h pieces) new f (inside-cut_all w h pieces (recursion_from_All (IsPart w) pieces a)))
  where
    by_room : (b : Bool) → (if b then cut_each n held (cut_all h pieces) else None) ≡ Some new → (cut_each n held (cut_all h pieces) ≡ Some new → All (IsPart w) new) → All (IsPart w) new
    by_room true e k = k e
    by_room false e k = absurd (none-some e)
      where
        none-some : {A : Type 0} {x : A} → None ≡ Some x → ⊥
        none-some e = cc

none-some : {A : Type 0} {x : A} → None ≡ Some x → ⊥
none-some e = cc

inside-added : (w : Rect) (held new : List Rect) (r : Rect) → All (IsPart w) held → IsPart w r → added held r ≡ Some new → All (IsPart w) new
inside-added w held new r a i e = by_empty (is_empty r) e
  where
    by_pieces : (o : Option (List Rect)) → cut_each (length held) held (r ∷ []) ≡ o → option_map (λ ps. held ++ ps) o ≡ Some new → All (IsPart w) new
    by_pieces None f g = absurd (none-some g)
    by_pieces (Some ps) f g =
        let n : held ++ ps ≡ new = cc in
        subst (All (IsPart w)) n (All-append (IsPart w) held ps a (inside-each w (length held) held (r ∷ []) ps f (All-cons (IsPart w) r [] i (All-nil (IsPart w)))))

    by_empty : (b : Bool) → (if b then Some held else option_map (λ ps. held ++ ps) (cut_each (length held) held (r ∷ []))) ≡ Some new → All (IsPart w) new
    by_empty true f = let n : held ≡ new = cc in subst (All (IsPart w)) n a
    by_empty false f = by_pieces (cut_each (length held) held (r ∷ [])) refl f

inside-all_added : (w : Rect) (held rects new : List Rect) → All (IsPart w) held → AllByRecursion (IsPart w) rects → all_added held rects ≡ Some new → All (IsPart w) new
inside-all_added w held [] new a i e = let n : held ≡ new = cc in subst (All (IsPart w)) n a
inside-all_added w held (r ∷ rects) new a i e = by_added (added held r) refl e (λ next b f. inside-all_added w next rects new b i.1 f)
  where
    by_added : (o : Option (List Rect)) → added held r ≡ o → elim o [ None ↦ None | Some next ↦ all_added next rects ] ≡ Some new
        → ((next : List Rect) → All (IsPart w) next → all_added next rects ≡ Some new → All (IsPart w) new) → All (IsPart w) new
    by_added None f g k = absurd (none-some g)
    by_added (Some next) f g k = k next (inside-added w held next r a i.0 f) g

-- the whole window is a part of it
pub whole-part : (w : Rect) → 1 ≤ w.w → 1 ≤ w.h → All (IsPart w) (w ∷ [])
whole-part w h k = All-cons (IsPart w) w [] (record { within = record { x_low = omega (arith, ints); y_low = omega (arith, ints); x_high = omega (arith, ints); y_high = omega (arith, ints) }; wide = h; high = k }) (All-nil (IsPart w))

pub inside-damaged : (w : Rect) (held : List Rect) (before after : Option Rect) → 1 ≤ w.w → 1 ≤ w.h → All (IsPart w) held → ForSome before (IsPart w) → ForSome after (IsPart w)
    → All (IsPart w) (damaged w held before after)
inside-damaged w held before after wide high a b c = by_added (all_added held (option_to_list before ++ option_to_list after)) refl
  where
    rects : (p q : Option Rect) → ForSome p (IsPart w) → ForSome q (IsPart w) → AllByRecursion (IsPart w) (option_to_list p ++ option_to_list q)
    rects None None f g = tt
    rects None (Some y) f g = (g y refl, tt)
    rects (Some x) None f g = (f x refl, tt)
    rects (Some x) (Some y) f g = (f x refl, (g y refl, tt))

    by_added : (o : Option (List Rect)) → all_added held (option_to_list before ++ option_to_list after) ≡ o → All (IsPart w) (elim o [ None ↦ w ∷ [] | Some new ↦ new ])
    by_added None f = whole-part w wide high
    by_added (Some new) f = inside-all_added w held (option_to_list before ++ option_to_list after) new a (rects before after b c) f

-- ---- adding one after the other

pub all_added-append : (held xs ys : List Rect) → all_added held (xs ++ ys) ≡ elim (all_added held xs) as (λ _. Option (List Rect)) [ None ↦ None | Some next ↦ all_added next ys ]
all_added-append held [] ys = refl
all_added-append held (x ∷ xs) ys = by_added (added held x) (λ next. all_added-append next xs ys)
  where
    by_added : (o : Option (List Rect)) → ((next : List Rect) → all_added next (xs ++ ys) ≡ elim (all_added next xs) as (λ _. Option (List Rect)) [ None ↦ None | Some next ↦ all_added next ys ])
        → elim o as (λ _. Option (List Rect)) [ None ↦ None | Some next ↦ all_added next (xs ++ ys) ]
        ≡ elim (elim o as (λ _. Option (List Rect)) [ None ↦ None | Some next ↦ all_added next xs ]) as (λ _. Option (List Rect)) [ None ↦ None | Some next ↦ all_added next ys ]
    by_added None k = refl
    by_added (Some next) k = k next

damaged-by : (window : Rect) (held : List Rect) (before after : Option Rect) (o : Option (List Rect)) → all_added held (option_to_list before ++ option_to_list after) ≡ o
    → damaged window held before after ≡ elim o as (λ _. List Rect) [ None ↦ window ∷ [] | Some new ↦ new ]
damaged-by window held before after o e = ap (λ (o : Option (List Rect)). elim o as (λ _. List Rect) [ None ↦ window ∷ [] | Some new ↦ new ]) e

-- both were added
pub damaged-both : (window : Rect) (held next new : List Rect) (before after : Option Rect) → all_added held (option_to_list before) ≡ Some next → all_added next (option_to_list after) ≡ Some new
    → new ≡ damaged window held before after
damaged-both window held next new before after e f =
    sym (damaged-by window held before after (Some new) (all_added-append held (option_to_list before) (option_to_list after) ∙ ap (λ (o : Option (List Rect)). elim o as (λ _. Option (List Rect)) [ None ↦ None | Some next ↦ all_added next (option_to_list after) ]) e ∙ f))

-- there was no room for the first one
pub damaged-first : (window : Rect) (held new : List Rect) (before after : Option Rect) → all_added held (option_to_list before) ≡ None → new ≡ window ∷ []
    → new ≡ damaged window held before after
damaged-first window held new before after e f =
    f ∙ sym (damaged-by window held before after None (all_added-append held (option_to_list before) (option_to_list after) ∙ ap (λ (o : Option (List Rect)). elim o as (λ _. Option (List Rect)) [ None ↦ None | Some next ↦ all_added next (option_to_list after) ]) e))

-- or for the second one
pub damaged-second : (window : Rect) (held next new : List Rect) (before after : Option Rect) → all_added held (option_to_list before) ≡ Some next → all_added next (option_to_list after) ≡ None
    → new ≡ window ∷ [] → new ≡ damaged window held before after
damaged-second window held next new before after e f g =
    g ∙ sym (damaged-by window held before after None (all_added-append held (option_to_list before) (option_to_list after) ∙ ap (λ (o : Option (List Rect)). elim o as (λ _. Option (List Rect)) [ None ↦ None | Some next ↦ all_added next (option_to_list after) ]) e ∙ f))

-- a part of a window is fit
pub part-fit : (w r : Rect) → IsPlace w → w.x ≡ pos 0 → w.y ≡ pos 0 → IsPart w r → IsFit r
part-fit w r p x y i =
    let n : IsWithin w r = i.within in
    record { x_low = omega (arith, ints, n, p); x_high = omega (arith, ints, n, p); y_low = omega (arith, ints, n, p); y_high = omega (arith, ints, n, p); w_small = omega (arith, ints, n, p); h_small = omega (arith, ints, n, p) }

-- the rectangle of a window is a place
pub place-whole : (r : Rect) → IsPlace r → IsPlace (whole r)
place-whole r p = record { x_low = omega (arith, ints); x_high = omega (arith, ints); y_low = omega (arith, ints); y_high = omega (arith, ints); w_low = p.w_low; w_high = p.w_high; h_low = p.h_low; h_high = p.h_high }
