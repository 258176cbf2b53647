-- Facts of spans, and of a row that is drawn bit by bit.
use Rattle.std.proofs.Common.{◌≡◌, ℕ, zero, suc, ◌+◌, ◌-◌, ◌≤◌, ◌<◌, Bool, true, false, List, [], ◌∷◌, length, get_or, refl, sym, ◌∙◌, ap, arith, if◌then◌else◌, nat_le, nat_lt, min, max, take, drop, replicate, Option, Some, None, subst}
use Rattle.std.specs.Prelude.{◌&&◌, ◌||◌, not, slice_get, ℤ, pos, negsuc, ◌+ℤ◌, ◌-ℤ◌, ◌≤ℤ◌, int_le, int_lt}
use Rattle.std.proofs.lemmas.Bool.{leb-true, ltb-true, and_parts}
use Rattle.std.proofs.lemmas.Bool.Decides.{nat_tests}
use Rattle.std.proofs.lemmas.Int.{ints}
use Rattle.std.proofs.lemmas.List.{places, length-replicate, get_or-replicate}
use borrow.Rule.Slice.PartMut.{put_mid}
use Rattle.gui_num.specs.declared.Rect.{Rect}
use Rattle.gui_num.specs.Rects.{nat_of, on_side, has, right}
use Rattle.label_border.specs.Rings.{columns_of}
use Rattle.region_clip.specs.Spans.{in_columns, in_spans, AreApart}
use Rattle.compositor.specs.declared.panes.PaneView.{PaneView}
use Rattle.compositor.specs.Composed.{Pane, views_of, topmost, colour_by, composed, pane_colour, at_pixel}

-- ---- parts of a row

-- after a part of a row was filled
pub filled-at : (xs : List ℕ) (a e c k : ℕ) → a ≤ e → e ≤ length xs → k < length xs
    → get_or (put_mid a (e - a) xs (replicate (e - a) c)) k 0 ≡ (if in_columns a e k then c else get_or xs k 0)
filled-at xs a e c k order inside below = grind (arith, nat_tests, places, length-replicate {A = ℕ}, get_or-replicate {A = ℕ})

-- after a part of a row was written
put-at : (xs ys : List ℕ) (a e k : ℕ) → a ≤ e → e ≤ length xs → length ys ≡ e - a → k < length xs
    → get_or (put_mid a (e - a) xs ys) k 0 ≡ (if in_columns a e k then get_or ys (k - a) 0 else get_or xs k 0)
put-at xs ys a e k order inside long below = grind (arith, nat_tests, places)

-- what stands in a part that was written
pub put-in : (xs ys : List ℕ) (a e k : ℕ) → a ≤ k → k < e → e ≤ length xs → length ys ≡ e - a → get_or (put_mid a (e - a) xs ys) k 0 ≡ get_or ys (k - a) 0
put-in xs ys a e k low high inside long = grind (arith, places)

-- what stands in a part
pub taken-at : (xs : List ℕ) (a e k : ℕ) → a ≤ k → k < e → get_or (take (e - a) (drop a xs)) (k - a) 0 ≡ get_or xs k 0
taken-at xs a e k low high = grind (arith, places)

-- after a part of a row got the values of a function
pub drawn-at : (f : ℕ → ℕ) (xs ys : List ℕ) (a e k : ℕ) → a ≤ e → e ≤ length xs → length ys ≡ e - a → k < length xs
    → ((i : ℕ) → i < e - a → get_or ys i 0 ≡ f i)
    → get_or (put_mid a (e - a) xs ys) k 0 ≡ (if in_columns a e k then f (k - a) else get_or xs k 0)
drawn-at f xs ys a e k order inside long below is = put-at xs ys a e k order inside long below ∙ by_place (in_columns a e k) (λ t. within t)
  where
    within : in_columns a e k ≡ true → get_or ys (k - a) 0 ≡ f (k - a)
    within t =
        let parts = and_parts (nat_le a k) (nat_lt k e) t in
        is (k - a) (omega (arith, leb-true a k parts.0, ltb-true k e parts.1))

    by_place : (b : Bool) → (b ≡ true → get_or ys (k - a) 0 ≡ f (k - a)) → (if b then get_or ys (k - a) 0 else get_or xs k 0) ≡ (if b then f (k - a) else get_or xs k 0)
    by_place true same = same refl
    by_place false same = refl

-- ---- spans

-- each span has a column and ends at high or before it
abbrev pub AreWithin : ℕ → List (ℕ × ℕ) → Type 0
AreWithin high [] = 0 ≤ high
AreWithin high (span ∷ spans) = (span.0 < span.1) × (span.1 ≤ high) × AreWithin high spans

pub apart-within : (low high : ℕ) (spans : List (ℕ × ℕ)) → AreApart low high spans → AreWithin high spans
apart-within low high [] a = omega arith
apart-within low high (span ∷ spans) a = (a.1, a.2, apart-within (span.1 + 1) high spans a.3)

-- drawing one span more: what is drawn, and what drawing the rest will give, stays the same
pub span_more : (here rest w part : Bool) (old new f all : ℕ) → part ≡ (here && w) → new ≡ (if part then f else old)
    → (if (here || rest) && w then f else old) ≡ all → (if rest && w then f else new) ≡ all
span_more true true true part old new f all e g h = h
span_more false true true part old new f all e g h = h
span_more true true false part old new f all e g h = g ∙ ap (λ b. if b then f else old) e ∙ h
span_more true false true part old new f all e g h = g ∙ ap (λ b. if b then f else old) e ∙ h
span_more true false false part old new f all e g h = g ∙ ap (λ b. if b then f else old) e ∙ h
span_more false true false part old new f all e g h = g ∙ ap (λ b. if b then f else old) e ∙ h
span_more false false w part old new f all e g h = g ∙ ap (λ b. if b then f else old) e ∙ h

pub fill_more : (here rest : Bool) (old new f all : ℕ) → new ≡ (if here then f else old)
    → (if here || rest then f else old) ≡ all → (if rest then f else new) ≡ all
fill_more true true old new f all g h = h
fill_more false true old new f all g h = h
fill_more true false old new f all g h = g ∙ h
fill_more false false old new f all g h = g ∙ h

-- the part of a span from x0 on and before x1
pub clip-in : (s e x0 x1 a b x : ℕ) → s < e → a ≡ min (max s x0) e → b ≡ max (min e x1) a → in_columns a b x ≡ (in_columns s e x && in_columns x0 x1 x)
clip-in s e x0 x1 a b x h f g = grind (arith, nat_tests)

-- ---- columns of a picture and places

pub nat_of-is : (z : ℤ) → pos 0 ≤ℤ z → pos (nat_of z) ≡ z
nat_of-is z h = elim z as (λ v. pos 0 ≤ℤ v → pos (nat_of v) ≡ v) [ pos n ↦ λ _. refl | negsuc n ↦ λ k. absurd (omega (arith, ints)) ] h

nat_of-low : (x : ℤ) (c : ℕ) → nat_le (nat_of x) c ≡ int_le x (pos c)
nat_of-low (pos n) c = grind (arith, nat_tests, ints)
nat_of-low (negsuc n) c = grind (arith, nat_tests, ints)

nat_of-high : (x : ℤ) (c : ℕ) → nat_lt c (nat_of x) ≡ int_lt (pos c) x
nat_of-high (pos n) c = grind (arith, nat_tests, ints)
nat_of-high (negsuc n) c = grind (arith, nat_tests, ints)

-- the columns from l on and before r, among those from a on and before b
part-in : (l r a b left right x : ℕ) → in_columns a b x ≡ true → left ≡ min (max l a) b → right ≡ min (max r left) b → in_columns left right x ≡ (nat_le l x && nat_lt x r)
part-in l r a b left right x h f g = grind (arith, nat_tests, h)

pub content-in : (cx rx : ℤ) (a b left right x : ℕ) → in_columns a b x ≡ true → left ≡ min (max (nat_of cx) a) b → right ≡ min (max (nat_of rx) left) b
    → in_columns left right x ≡ (int_le cx (pos x) && int_lt (pos x) rx)
content-in cx rx a b left right x h f g =
    part-in (nat_of cx) (nat_of rx) a b left right x h f g ∙ ap (λ t. t && nat_lt x (nat_of rx)) (nat_of-low cx x) ∙ ap (λ t. int_le cx (pos x) && t) (nat_of-high rx x)

pub outer-in : (cx rx : ℤ) (x : ℕ) → in_columns (nat_of cx) (nat_of rx) x ≡ (int_le cx (pos x) && int_lt (pos x) rx)
outer-in cx rx x = ap (λ t. t && nat_lt x (nat_of rx)) (nat_of-low cx x) ∙ ap (λ t. int_le cx (pos x) && t) (nat_of-high rx x)

-- the columns of a content, where a row has it
pub columns-are : (r : Rect) (y a b : ℤ) → columns_of r y ≡ Some (a, b) → (a ≡ r.x) × (b ≡ right r)
columns-are r y a b = by_test (nat_lt 0 r.w && on_side r.y r.h y)
  where
    by_test : (t : Bool) → if◌then◌else◌ {A = Option (ℤ × ℤ)} t (Some (r.x, right r)) None ≡ Some (a, b) → (a ≡ r.x) × (b ≡ right r)
    by_test true e =
        let both : ◌≡◌ {A = ℤ × ℤ} (r.x, right r) (a, b) = cc in
        (sym (ap (λ (c : ℤ × ℤ). c.0) both), sym (ap (λ (c : ℤ × ℤ). c.1) both))
    by_test false e = cc

-- as many columns from a place in a content on as lie before its right edge are in it
pub in-width : (c : ℤ) (w a b at : ℕ) → c ≤ℤ pos a → a ≤ b → pos b ≤ℤ (c +ℤ pos w) → at ≡ nat_of (pos a -ℤ c) → at + (b - a) ≤ w
in-width c w a b at low order high e =
    let i : pos (nat_of (pos a -ℤ c)) ≡ pos a -ℤ c = nat_of-is (pos a -ℤ c) (omega (arith, ints)) in
    omega (arith, ints, i, e)

-- a row that a content reaches lies behind its upper edge
pub reached-low : (c : ℤ) (h y : ℕ) → on_side c h (pos y) ≡ true → c ≤ℤ pos y
reached-low c h y t = grind (arith, ints, t)

pub in-height : (c : ℤ) (h y at : ℕ) → on_side c h (pos y) ≡ true → at ≡ nat_of (pos y -ℤ c) → at < h
in-height c h y at t e =
    let l = reached-low c h y t in
    let i : pos (nat_of (pos y -ℤ c)) ≡ pos y -ℤ c = nat_of-is (pos y -ℤ c) (omega (arith, ints)) in
    grind (arith, ints, i, e, t)

-- label, content, label
pub three : (a b left right x label content r0 r1 r2 r3 : ℕ) (h : Bool) → a ≤ left → left ≤ right → right ≤ b
    → r1 ≡ (if in_columns a left x then label else r0) → r2 ≡ (if in_columns left right x then content else r1) → r3 ≡ (if in_columns right b x then label else r2)
    → (in_columns a b x ≡ true → in_columns left right x ≡ h)
    → r3 ≡ (if in_columns a b x then (if h then content else label) else r0)
three a b left right x label content r0 r1 r2 r3 h p q s e f g k = grind (arith, nat_tests, k)

pub same_in : (t : Bool) (m n o : ℕ) → (t ≡ true → m ≡ n) → (if t then m else o) ≡ (if t then n else o)
same_in true m n o f = f refl
same_in false m n o f = refl

pub at_least : (a b x : ℕ) → in_columns a b x ≡ true → a ≤ x
at_least a b x e = grind (arith, nat_tests, e)

pub shifted : (c : ℤ) (a x at : ℕ) → c ≤ℤ pos a → a ≤ x → at ≡ nat_of (pos a -ℤ c) → at + (x - a) ≡ nat_of (pos x -ℤ c)
shifted c a x at h k e =
    let i : pos (nat_of (pos a -ℤ c)) ≡ pos a -ℤ c = nat_of-is (pos a -ℤ c) (omega (arith, ints)) in
    let j : pos (nat_of (pos x -ℤ c)) ≡ pos x -ℤ c = nat_of-is (pos x -ℤ c) (omega (arith, ints)) in
    omega (arith, ints)

pub with_row : (a b : Bool) → true ≡ b → a ≡ (a && b)
with_row true b e = e
with_row false b e = refl

-- a rectangle that doesn't reach a row has no pixel of it
pub no_row : (a b : Bool) → false ≡ b → (a && b) ≡ false
no_row true b e = sym e
no_row false b e = refl

-- ---- panes

some-is : {A : Type 0} (o : Option A) (v w : A) → o ≡ Some v → o ≡ Some w → v ≡ w
some-is o v w e f = cc

views-at : (panes : List Pane) (k : ℕ) (pane : Pane) → slice_get panes k ≡ Some pane → slice_get (views_of panes) k ≡ Some pane.view
views-at [] k pane e = cc
views-at (p ∷ panes) zero pane e = let s : p ≡ pane = cc in ap (λ (q : Pane). Some q.view) s
views-at (p ∷ panes) (suc k) pane e = views-at panes k pane e

-- the view of a pane
pub view-is : (panes : List Pane) (k : ℕ) (pane : Pane) (v : PaneView) → slice_get panes k ≡ Some pane → slice_get (views_of panes) k ≡ Some v → v ≡ pane.view
view-is panes k pane v e f = some-is (slice_get (views_of panes) k) v pane.view f (views-at panes k pane e)

-- the pane at a place, and those from it on
pub pane_at : (panes : List Pane) (k : ℕ) → k < length panes → (pane : Pane) × (slice_get panes k ≡ Some pane) × (drop k panes ≡ pane ∷ drop (suc k) panes)
pane_at [] k h = absurd (omega arith)
pane_at (pane ∷ panes) zero h = (pane, refl, refl)
pane_at (pane ∷ panes) (suc k) h = pane_at panes k (omega arith)

-- the colour under a pane and those below it
pub composed-more : (background : ℕ) (pane : Pane) (panes : List Pane) (x y : ℕ)
    → composed background (pane ∷ panes) (at_pixel x y) ≡ (if has pane.view.outer (at_pixel x y) then pane_colour pane (at_pixel x y) else composed background panes (at_pixel x y))
composed-more background pane panes x y = by_test (has pane.view.outer (at_pixel x y))
  where
    by_test : (t : Bool) → colour_by background (if t then Some pane else topmost panes (at_pixel x y)) (at_pixel x y)
        ≡ (if t then pane_colour pane (at_pixel x y) else composed background panes (at_pixel x y))
    by_test true = refl
    by_test false = refl

-- a pane more
pub more : (s h t : Bool) (pane deeper old new all : ℕ) → t ≡ (s && not h) → new ≡ (if s && h then pane else old) → all ≡ (if h then pane else deeper)
    → (if t then deeper else new) ≡ (if s then all else old)
more true true t pane deeper old new all e f g = ap (λ b. if b then deeper else new) e ∙ f ∙ sym g
more true false t pane deeper old new all e f g = ap (λ b. if b then deeper else new) e ∙ sym g
more false h t pane deeper old new all e f g = ap (λ b. if b then deeper else new) e ∙ f

-- ---- the next of some spans

pub within-first : (high : ℕ) (spans rest : List (ℕ × ℕ)) (span : ℕ × ℕ) → AreWithin high spans → spans ≡ span ∷ rest → (span.0 < span.1) × (span.1 ≤ high) × AreWithin high rest
within-first high spans rest span w e = subst (AreWithin high) e w

-- one span less is to be filled
pub fill-first : (spans rest : List (ℕ × ℕ)) (span : ℕ × ℕ) (x old new f all : ℕ) → spans ≡ span ∷ rest
    → new ≡ (if in_columns span.0 span.1 x then f else old)
    → (if in_spans spans x then f else old) ≡ all → (if in_spans rest x then f else new) ≡ all
fill-first spans rest span x old new f all e g h =
    fill_more (in_columns span.0 span.1 x) (in_spans rest x) old new f all g (ap (λ ss. if in_spans ss x then f else old) (sym e) ∙ h)

-- one span less is to be drawn, in the columns from x0 on and before x1
pub draw-first : (spans rest : List (ℕ × ℕ)) (span : ℕ × ℕ) (x0 x1 a b x old new f all : ℕ) → spans ≡ span ∷ rest → span.0 < span.1
    → a ≡ min (max span.0 x0) span.1 → b ≡ max (min span.1 x1) a
    → new ≡ (if in_columns a b x then f else old)
    → (if in_spans spans x && in_columns x0 x1 x then f else old) ≡ all → (if in_spans rest x && in_columns x0 x1 x then f else new) ≡ all
draw-first spans rest span x0 x1 a b x old new f all e order from until g h =
    span_more (in_columns span.0 span.1 x) (in_spans rest x) (in_columns x0 x1 x) (in_columns a b x) old new f all
    (clip-in span.0 span.1 x0 x1 a b x order from until) g (ap (λ ss. if in_spans ss x && in_columns x0 x1 x then f else old) (sym e) ∙ h)

-- where a pane has nothing, all stays as it was
pub kept-left : (s h : Bool) → h ≡ false → s ≡ (s && not h)
kept-left true h e = sym (ap not e)
kept-left false h e = refl

pub kept-row : (s h : Bool) (f old : ℕ) → h ≡ false → old ≡ (if s && h then f else old)
kept-row true h f old e = sym (ap (λ b. if b then f else old) e)
kept-row false h f old e = refl
