-- Painting a row.
use Rattle.std.proofs.Common.{◌≡◌, ◌≢◌, ℕ, ◌+◌, ◌≤◌, ◌<◌, Bool, true, false, List, [], ◌∷◌, ◌++◌, length, reverse, take, drop, get_or, set, Option, None, refl, sym, ◌∙◌, ap, subst, arith, if◌then◌else◌, nat_lt, get_or-set_other, get_or-set_same}
use Rattle.std.specs.Prelude.{◌&&◌, not, ℤ, pos, ◌+ℤ◌, ◌≤ℤ◌, ◌<ℤ◌, int_lt, int_le}
use Rattle.std.proofs.lemmas.Int.{ints}
use Rattle.std.proofs.lemmas.List.{reverse-append, take_more, take-append-drop}
use Rattle.std.proofs.lemmas.Bool.Decides.{nat_tests}
use Rattle.gui_num.specs.declared.Rect.{Rect}
use Rattle.gui_num.specs.declared.Colour.{Colour}
use Rattle.gui_num.specs.Rects.{has}
use Rattle.agent_tree.specs.declared.boxes.SceneBox.{SceneBox}
use Rattle.agent_tree.specs.declared.frame.Frame.{Frame}
use Rattle.agent_tree.specs.Frames.{frame, inside, outermost, clipped, shows}
use Rattle.agent_tree.specs.Paths.{AreNested, level_of}
use Rattle.agent_tree.specs.Colours.{colour_over}
use Rattle.agent_tree.specs.Rows.{AreFrames, IsPainted}

-- the boxes before the next one
pub before-next : {X : Type 0} (xs : List X) (i : ℕ) (d : X) → i < length xs → reverse (take (i + 1) xs) ≡ get_or xs i d ∷ reverse (take i xs)
before-next xs i d h = ap reverse (take_more xs i d h) ∙ reverse-append (take i xs) (get_or xs i d ∷ [])

-- a rectangle has those columns of a row from its left edge on and before its right one
pub in-row : (r : Rect) (x y k from past : ℕ) → nat_lt k from ≡ int_lt (pos (x + k)) r.x → nat_lt k past ≡ int_lt (pos (x + k)) (r.x +ℤ pos r.w)
    → r.y ≤ℤ pos y → pos y <ℤ (r.y +ℤ pos r.h) → (not (nat_lt k from) && nat_lt k past) ≡ has r (record { x = pos (x + k); y = pos y })
in-row r x y k from past e f g h =
    let a : int_le r.x (pos (x + k)) ≡ not (nat_lt k from) = side (pos (x + k)) r.x ∙ ap not (sym e) in
    let b : int_le r.y (pos y) ≡ true = grind (arith, ints) in
    let c : int_lt (pos y) (r.y +ℤ pos r.h) ≡ true = grind (arith, ints) in
    both _ _ _ _ _ _ a (sym f) b c
  where
    side : (a b : ℤ) → int_le b a ≡ not (int_lt a b)
    side a b = grind (arith, ints)

    both : (p q u v s t : Bool) → p ≡ u → q ≡ v → s ≡ true → t ≡ true → (u && v) ≡ ((p && q) && (s && t))
    both p q u v s t e f g h = grind (arith)

-- a row that a rectangle doesn't have
pub out-row : (r : Rect) (x y k : ℕ) → int_lt (pos y) r.y ≡ true → has r (record { x = pos (x + k); y = pos y }) ≡ false
out-row r x y k e = grind (arith, ints)

-- ---- the frames of the next box

pub frames-first : (window : Rect) (frames : List (Option Frame)) → get_or frames 1 None ≡ outermost window → AreFrames window frames []
frames-first window frames e = λ level low high. let one : level ≡ 1 = omega arith in ap (λ l. get_or frames l None) one ∙ e

pub frames-next : (window : Rect) (frames : List (Option Frame)) (before : List SceneBox) (b : SceneBox) → AreFrames window frames before
    → 1 ≤ b.level → b.level ≤ level_of before + 1 → b.level + 1 < length frames
    → AreFrames window (set frames (b.level + 1) (inside (get_or frames b.level None) b.place)) (b ∷ before)
frames-next window frames before b a low next room = λ level l h. by_level level l h (nat_lt b.level level) refl
  where
    new : Option Frame
    new = inside (get_or frames b.level None) b.place

    here : (level : ℕ) → level ≡ b.level + 1 → get_or (set frames (b.level + 1) new) level None ≡ inside (frame window b.level before) b.place
    here level e = ap (λ l. get_or (set frames (b.level + 1) new) l None) e ∙ get_or-set_same frames (b.level + 1) new None room ∙ ap (λ f. inside f b.place) (a b.level low next)

    other : (level : ℕ) → 1 ≤ level → level ≤ b.level → get_or (set frames (b.level + 1) new) level None ≡ frame window level before
    other level l h = let n : level ≢ b.level + 1 = omega arith in get_or-set_other frames (b.level + 1) level new None n ∙ a level l (omega arith)

    by_level : (level : ℕ) → 1 ≤ level → level ≤ b.level + 1 → (t : Bool) → nat_lt b.level level ≡ t
        → get_or (set frames (b.level + 1) new) level None ≡ (if nat_lt b.level level then inside (frame window b.level before) b.place else frame window level before)
    by_level level l h true e = here level (grind (arith, nat_tests)) ∙ sym (ap (λ t. if t then inside (frame window b.level before) b.place else frame window level before) e)
    by_level level l h false e = other level l (grind (arith, nat_tests)) ∙ sym (ap (λ t. if t then inside (frame window b.level before) b.place else frame window level before) e)

pub paint-next : (window : Rect) (own : Colour) (x y : ℕ) (before : List SceneBox) (b : SceneBox) (old new : List ℕ) (f : Option Frame) → IsPainted window own x y before old
    → f ≡ frame window b.level before → length new ≡ length old
    → ((k : ℕ) → k < length old → get_or new k 0 ≡ (if shows (clipped f b.place) (record { x = pos (x + k); y = pos y }) then b.colour.0 else get_or old k 0))
    → IsPainted window own x y (b ∷ before) new
paint-next window own x y before b old new f a g n p = λ k h.
    let in_old : k < length old = omega arith in
    p k in_old ∙ by_shown (shows (clipped f b.place) (record { x = pos (x + k); y = pos y })) (a k in_old)
    ∙ ap (λ f. (if shows (clipped f b.place) (record { x = pos (x + k); y = pos y }) then b.colour else colour_over window own (record { x = pos (x + k); y = pos y }) before).0) g
  where
    by_shown : {c : Colour} {m : ℕ} (t : Bool) → m ≡ c.0 → (if t then b.colour.0 else m) ≡ (if t then b.colour else c).0
    by_shown true e = refl
    by_shown false e = e

-- ---- levels

pub nested-behind : (after before : List SceneBox) → AreNested (after ++ before) → AreNested before
nested-behind [] before n = n
nested-behind (b ∷ after) before n = nested-behind after before n.1

pub reverse-split : {X : Type 0} (xs : List X) (n : ℕ) → reverse xs ≡ reverse (drop n xs) ++ reverse (take n xs)
reverse-split xs n = ap reverse (sym (take-append-drop n xs)) ∙ reverse-append (take n xs) (drop n xs)

pub nested-take : (xs : List SceneBox) (n : ℕ) → AreNested (reverse xs) → AreNested (reverse (take n xs))
nested-take xs n a = nested-behind (reverse (drop n xs)) _ (subst AreNested (reverse-split xs n) a)

pub nested-next : (xs : List SceneBox) (i : ℕ) (d : SceneBox) → i < length xs → AreNested (reverse xs) → (get_or xs i d).level ≤ level_of (reverse (take i xs)) + 1
nested-next xs i d h a = (subst AreNested (before-next xs i d h) (nested-take xs (i + 1) a)).0

-- ---- the test whether a rectangle has a row

pub row-top : (a b r : ℤ) (y : ℕ) → a ≡ pos y → b ≡ r → int_lt a b ≡ false → r ≤ℤ pos y
row-top a b r y e f h = grind (arith, ints)

pub row-bottom : (a b r : ℤ) (y : ℕ) → a ≡ pos y → b ≡ r → int_le b a ≡ false → pos y <ℤ r
row-bottom a b r y e f h = grind (arith, ints)
