-- Edits of the windows of a scene, and the limits.
use Rattle.std.proofs.Common.{◌≡◌, ℕ, suc, ◌+◌, ◌-◌, ◌≤◌, ◌<◌, Bool, true, false, List, map, [], ◌∷◌, length, take, get_or, set, reverse, slice_get, Some, Result, Ok, Err, refl, sym, ◌∙◌, ap, subst, arith, if◌then◌else◌, nat_lt, nat_le, sum_by, get_or-set_same}
use Rattle.std.specs.Prelude.{◌&&◌, ◌==◌, OnOk, OnErr, is_err}
use Rattle.std.specs.List.{list_any}
use Rattle.std.proofs.lemmas.List.{take-set, length-set}
use Rattle.std.proofs.lemmas.List.Sums.{sum_by-cons, sum_by-set, get_or-le-sum_by}
use Rattle.std.proofs.lemmas.Option.{get_or_from_slice_get}
use Rattle.std.proofs.lemmas.Bool.Decides.{nat_tests}
use Rattle.gui_num.specs.declared.Rect.{Rect}
use Rattle.agent_tree.specs.declared.boxes.SceneBox.{SceneBox}
use Rattle.agent_tree.specs.declared.edits.BoxEdit.{BoxEdit}
use Rattle.agent_tree.specs.declared.edits.BoxEdit.TheVariants.{Place, Fill}
use Rattle.agent_tree.specs.declared.fault.SceneFault.{SceneFault}
use Rattle.agent_tree.specs.Frames.{clip}
use Rattle.agent_tree.specs.Lists.{at_first, IsFirst}
use Rattle.agent_tree.specs.Trees.{is_box, taken_out, outer, clip_of}
use Rattle.agent_tree.specs.Views.{TopView}
use Rattle.agent_tree.specs.Scenes.{whole, changed, is_named, top_placed, spoilt, undamaged, box_removed, pages, tiles, pages_of, tiles_of, boxes_of, fit}
use Rattle.agent_tree.specs.Edits.{clip_at, replaced_at}
use Rattle.agent_tree.specs.Limits.{IsScene}
use Rattle.agent_tree.specs.BoxEdits.{new_box, box_edited}
use Rattle.agent_tree.proofs.ListLemmas.{at_first-at}
use Rattle.agent_tree.proofs.TreeLemmas.{clip_of-at}
use Rattle.agent_tree.proofs.NestLemmas.{clip_at-is}

pub on-ok : {T E : Type 0} {P : Type 0} (r : Result T E) → is_err r ≡ false → OnOk r P → P
on-ok (Ok x) e p = p
on-ok (Err x) e p = cc

-- the list with the first element that passes a test changed, by its index
pub set-first : {X : Type 0} (test : X → Bool) (f : X → X) (xs : List X) (k : ℕ) (x y : X) → IsFirst test xs k → x ≡ get_or xs k x → y ≡ f x → set xs k y ≡ at_first test f xs
set-first test f xs k x y i e g = ap (set xs k) (g ∙ ap f e) ∙ sym (at_first-at test f xs k x i)

-- what replaces such an element and passes as well is the first one that does
first-set : {X : Type 0} (test : X → Bool) (xs : List X) (k : ℕ) (y : X) → IsFirst test xs k → test y ≡ true → IsFirst test (set xs k y) k
first-set test xs k y i e = record {
  within = let h = i.within in let l = length-set xs k y in omega arith;
  none = ap (list_any test) (take-set xs k y) ∙ i.none;
  here = λ d. ap test (get_or-set_same xs k y d i.within) ∙ e;
}

-- a box that is changed keeps its id
same-box : (edit : BoxEdit) (id : ℕ) (b : SceneBox) → is_box id (new_box edit b) ≡ is_box id b
same-box (Place r) id b = refl
same-box (Fill c) id b = refl

pub edited-at : (t : TopView) (id at : ℕ) (edit : BoxEdit) (b new : SceneBox) → IsFirst (is_box id) t.boxes at → slice_get t.boxes at ≡ Some b → new ≡ new_box edit b
    → replaced_at at new t ≡ box_edited edit id t
edited-at t id at edit b new i e g =
    let got : get_or t.boxes at b ≡ b = get_or_from_slice_get t.boxes at b b e in
    let boxes : set t.boxes at new ≡ at_first (is_box id) (new_box edit) t.boxes = set-first (is_box id) (new_box edit) t.boxes at b new i (sym got) g in
    let named : is_box id new ≡ true = ap (is_box id) g ∙ same-box edit id b ∙ ap (is_box id) (sym got) ∙ i.here b in
    let before : clip_at (whole t.place) t.boxes at ≡ clip_of (whole t.place) id t.boxes =
    clip_at-is (whole t.place) t.boxes at b e ∙ ap (λ x. clip (whole t.place) x (reverse (take at t.boxes))) (sym got) ∙ sym (clip_of-at (whole t.place) id t.boxes at b i) in
    let after : clip (whole t.place) new (reverse (take at t.boxes)) ≡ clip_of (whole t.place) id (set t.boxes at new) =
    ap (clip (whole t.place) new) (ap reverse (sym (take-set t.boxes at new)))
    ∙ ap (λ x. clip (whole t.place) x (reverse (take at (set t.boxes at new)))) (sym (get_or-set_same t.boxes at new b i.within))
    ∙ sym (clip_of-at (whole t.place) id (set t.boxes at new) at b (first-set (is_box id) t.boxes at new i named)) in
    ap (λ o. changed (set t.boxes at new) o (clip (whole t.place) new (reverse (take at t.boxes))) t) before
    ∙ ap (λ o. changed (set t.boxes at new) (clip_of (whole t.place) id t.boxes) o t) after
    ∙ ap (λ bs. changed bs (clip_of (whole t.place) id t.boxes) (clip_of (whole t.place) id bs) t) boxes

-- ---- the limits

pub sum-at_first : {X : Type 0} (g : X → ℕ) (test : X → Bool) (f : X → X) (xs : List X) → ((x : X) → g (f x) ≤ g x) → sum_by g (at_first test f xs) ≤ sum_by g xs
sum-at_first g test f [] h = omega arith
sum-at_first g test f (x ∷ xs) h = by_test (test x) (sum-at_first g test f xs h) (h x) (sum_by-cons g x xs) (sum_by-cons g (f x) xs) (sum_by-cons g x (at_first test f xs))
  where
    by_test : (t : Bool) → sum_by g (at_first test f xs) ≤ sum_by g xs → g (f x) ≤ g x → sum_by g (x ∷ xs) ≡ g x + sum_by g xs → sum_by g (f x ∷ xs) ≡ g (f x) + sum_by g xs
        → sum_by g (x ∷ at_first test f xs) ≡ g x + sum_by g (at_first test f xs) → sum_by g (if t then f x ∷ xs else x ∷ at_first test f xs) ≤ sum_by g (x ∷ xs)
    by_test true a b c d e = omega arith
    by_test false a b c d e = omega arith

pub length-at_first : {X : Type 0} (test : X → Bool) (f : X → X) (xs : List X) → length (at_first test f xs) ≡ length xs
length-at_first test f [] = refl
length-at_first test f (x ∷ xs) = by_test (test x) (length-at_first test f xs)
  where
    by_test : (t : Bool) → length (at_first test f xs) ≡ length xs → length (if t then f x ∷ xs else x ∷ at_first test f xs) ≡ suc (length xs)
    by_test true e = refl
    by_test false e = ap suc e

-- an edit that adds no box and changes no place keeps to them
pub kept-limits : (test : TopView → Bool) (f : TopView → TopView) (tops : List TopView) → ((t : TopView) → (f t).place ≡ t.place) → ((t : TopView) → length (f t).boxes ≤ length t.boxes)
    → IsScene tops → IsScene (at_first test f tops)
kept-limits test f tops p b s = record {
  tops_few = subst (λ n. n ≤ 1024) (sym (length-at_first test f tops)) s.tops_few;
  boxes_few = let e = sum-at_first (λ t. length t.boxes) test f tops b in let h = s.boxes_few in omega arith;
  pages_few = let e = sum-at_first (λ t. pages t.place) test f tops (λ t. let q : pages (f t).place ≡ pages t.place = ap pages (p t) in omega arith) in let h = s.pages_few in omega arith;
  tiles_few = let e = sum-at_first (λ t. tiles t.place) test f tops (λ t. let q : tiles (f t).place ≡ tiles t.place = ap tiles (p t) in omega arith) in let h = s.tiles_few in omega arith;
}

-- whatever a call answers
pub after-limits : (test : TopView → Bool) (f : TopView → TopView) (old new : List TopView) (r : Result (Unit {0}) SceneFault) → ((t : TopView) → (f t).place ≡ t.place) → ((t : TopView) → length (f t).boxes ≤ length t.boxes)
    → IsScene old → OnOk r (new ≡ at_first test f old) → OnErr r (new ≡ old) → IsScene new
after-limits test f old new (Ok x) p b s d e = subst IsScene (sym d) (kept-limits test f old p b s)
after-limits test f old new (Err x) p b s d e = subst IsScene (sym e) s

pub edited-length : (edit : BoxEdit) (id : ℕ) (t : TopView) → length (box_edited edit id t).boxes ≤ length t.boxes
edited-length edit id t = let e = length-at_first (is_box id) (new_box edit) t.boxes in omega arith

outer-length : (level : ℕ) (xs : List SceneBox) → length (outer level xs) ≤ length xs
outer-length level [] = omega arith
outer-length level (x ∷ xs) = by_level (nat_lt level x.level) (outer-length level xs)
  where
    by_level : (t : Bool) → length (outer level xs) ≤ length xs → length (if t then outer level xs else x ∷ xs) ≤ length (x ∷ xs)
    by_level true h = omega arith
    by_level false h = omega arith

taken-length : (id : ℕ) (xs : List SceneBox) → length (taken_out id xs) ≤ length xs
taken-length id [] = omega arith
taken-length id (x ∷ xs) = by_test (is_box id x) (outer-length x.level xs) (taken-length id xs)
  where
    by_test : (t : Bool) → length (outer x.level xs) ≤ length xs → length (taken_out id xs) ≤ length xs → length (if t then outer x.level xs else x ∷ taken_out id xs) ≤ length (x ∷ xs)
    by_test true h k = omega arith
    by_test false h k = omega arith

pub removed-length : (id : ℕ) (t : TopView) → length (box_removed id t).boxes ≤ length t.boxes
removed-length id t = taken-length id t.boxes

-- ---- another size of a window

-- what a sum over the windows is once one of them has another place
pub placed-sum : (g : Rect → ℕ) (tops : List TopView) (k : ℕ) (old new : TopView) → k < length tops → old ≡ get_or tops k old
    → sum_by (λ t. g t.place) (set tops k new) ≡ (sum_by (λ t. g t.place) tops - g old.place) + g new.place
placed-sum g tops k old new h e =
    let s = sum_by-set (λ t. g t.place) tops k new old h in
    let p : g (get_or tops k old).place ≡ g old.place = ap (λ (t : TopView). g t.place) (sym e) in
    let n = old_part in
    omega (arith, n)
  where
    old_part : g (get_or tops k old).place ≤ sum_by (λ t. g t.place) tops
    old_part = get_or-le-sum_by (λ t. g t.place) tops k old h

place-of : (r : Rect) (t : TopView) → (top_placed r t).place ≡ r
place-of r t = by_size (t.place.w == r.w && t.place.h == r.h)
  where
    by_size : (b : Bool) → let s : TopView = if b then record t { place = r } else spoilt (record t { place = r }) in s.place ≡ r
    by_size true = refl
    by_size false = refl

-- whether the windows fit once one of them has another place
pub placed-fit : (tops : List TopView) (id k : ℕ) (t : TopView) (r : Rect) → IsFirst (is_named id) tops k → t ≡ get_or tops k t
    → fit (at_first (is_named id) (top_placed r) tops) ≡ (nat_le ((pages_of tops - pages t.place) + pages r) 8192 && nat_le ((tiles_of tops - tiles t.place) + tiles r) 4096)
placed-fit tops id k t r i e =
    let new : TopView = top_placed r t in
    let s : set tops k (top_placed r t) ≡ at_first (is_named id) (top_placed r) tops = set-first (is_named id) (top_placed r) tops k t (top_placed r t) i e refl in
    let p : pages_of (set tops k (top_placed r t)) ≡ (pages_of tops - pages t.place) + pages r = placed-sum pages tops k t (top_placed r t) i.within e ∙ ap (λ x. (pages_of tops - pages t.place) + pages x) (place-of r t) in
    let q : tiles_of (set tops k (top_placed r t)) ≡ (tiles_of tops - tiles t.place) + tiles r = placed-sum tiles tops k t (top_placed r t) i.within e ∙ ap (λ x. (tiles_of tops - tiles t.place) + tiles x) (place-of r t) in
    ap fit (sym s) ∙ ap (λ n. nat_le n 8192 && nat_le (tiles_of (set tops k (top_placed r t))) 4096) p ∙ ap (λ n. nat_le ((pages_of tops - pages t.place) + pages r) 8192 && nat_le n 4096) q

pub unfit-pages : (a b : ℕ) → 8192 < a → (nat_le a 8192 && nat_le b 4096) ≡ false
unfit-pages a b h = grind (arith, nat_tests)

pub unfit-tiles : (a b : ℕ) → 4096 < b → (nat_le a 8192 && nat_le b 4096) ≡ false
unfit-tiles a b h = grind (arith, nat_tests)

placed-length : (r : Rect) (t : TopView) → length (top_placed r t).boxes ≤ length t.boxes
placed-length r t = by_size (t.place.w == r.w && t.place.h == r.h)
  where
    by_size : (b : Bool) → let s : TopView = if b then record t { place = r } else spoilt (record t { place = r }) in length s.boxes ≤ length t.boxes
    by_size true = omega arith
    by_size false = omega arith

fit-both : (a b : ℕ) → (nat_le a 8192 && nat_le b 4096) ≡ true → (a ≤ 8192) × (b ≤ 4096)
fit-both a b e = (grind (arith, nat_tests), grind (arith, nat_tests))

-- whatever a call answers that gives a window another place
pub placed-limits : (test : TopView → Bool) (p : Rect) (old new : List TopView) (r : Result (Unit {0}) SceneFault) → IsScene old → OnOk r (new ≡ at_first test (top_placed p) old) → OnOk r (fit new ≡ true)
    → OnErr r (new ≡ old) → IsScene new
placed-limits test p old new (Ok x) s d f e =
    let b = fit-both (pages_of new) (tiles_of new) f in
    record {
      tops_few = subst (λ n. n ≤ 1024) (sym (ap length d ∙ length-at_first test (top_placed p) old)) s.tops_few;
      boxes_few = let m = sum-at_first (λ t. length t.boxes) test (top_placed p) old (placed-length p) in let h = s.boxes_few in subst (λ ts. boxes_of ts ≤ 65536) (sym d) (omega arith);
      pages_few = b.0;
      tiles_few = b.1;
    }
placed-limits test p old new (Err x) s d f e = subst IsScene (sym e) s

-- ---- windows that lose their damage

same-sum : (h : TopView → ℕ) (f : TopView → TopView) → ((t : TopView) → h (f t) ≡ h t) → (xs : List TopView) → sum_by h (map f xs) ≡ sum_by h xs
same-sum h f same [] = refl
same-sum h f same (x ∷ xs) = sum_by-cons h (f x) (map f xs) ∙ ap (λ (n : ℕ). n + sum_by h (map f xs)) (same x) ∙ ap (λ (n : ℕ). h x + n) (same-sum h f same xs) ∙ sym (sum_by-cons h x xs)

same-length : (f : TopView → TopView) (xs : List TopView) → length (map f xs) ≡ length xs
same-length f [] = refl
same-length f (x ∷ xs) = ap (λ (n : ℕ). suc n) (same-length f xs)

undamaged-place : (b : Bool) (t : TopView) → (if b then undamaged t else t).place ≡ t.place
undamaged-place true t = refl
undamaged-place false t = refl

undamaged-boxes : (b : Bool) (t : TopView) → (if b then undamaged t else t).boxes ≡ t.boxes
undamaged-boxes true t = refl
undamaged-boxes false t = refl

-- they keep to the limits
pub flushed-limits : (test : TopView → Bool) (tops : List TopView) → IsScene tops → IsScene (map (λ t. if test t then undamaged t else t) tops)
flushed-limits test tops held =
    let f : TopView → TopView = λ t. if test t then undamaged t else t in
    let count = same-length f tops in
    let boxes = same-sum (λ (t : TopView). length t.boxes) f (λ t. ap (λ (bs : List SceneBox). length bs) (undamaged-boxes (test t) t)) tops in
    let pages_in = same-sum (λ (t : TopView). pages t.place) f (λ t. ap pages (undamaged-place (test t) t)) tops in
    let tiles_in = same-sum (λ (t : TopView). tiles t.place) f (λ t. ap tiles (undamaged-place (test t) t)) tops in
    record {
      tops_few = omega (arith, count, held.tops_few);
      boxes_few = omega (arith, boxes, held.boxes_few);
      pages_few = omega (arith, pages_in, held.pages_few);
      tiles_few = omega (arith, tiles_in, held.tiles_few);
    }
