-- Lists of boxes stay nested, and windows keep to what holds of them.
use Rattle.std.proofs.Common.{◌≡◌, ℕ, ◌+◌, ◌≤◌, ◌<◌, Bool, true, false, List, [], ◌∷◌, ◌++◌, length, take, drop, get_or, set, reverse, slice_get, Option, Some, None, refl, sym, ◌∙◌, ap, subst, arith, if◌then◌else◌, nat_lt, add-one}
use Rattle.std.specs.List.{All, AllByRecursion}
use Rattle.std.specs.Option.{ForSome}
use Rattle.std.proofs.lemmas.List.{take-append-drop, reverse-append, append_assoc, set_split, length-set, length-append, length-take, length-drop}
use Rattle.std.proofs.lemmas.List.Elements.{All-set, All-append, All-cons, All-take, All-drop, All-from_recursion, recursion_from_All}
use Rattle.std.proofs.lemmas.Bool.Decides.{nat_tests}
use Rattle.gui_num.specs.declared.Rect.{Rect}
use Rattle.agent_tree.specs.declared.boxes.SceneBox.{SceneBox}
use Rattle.agent_tree.specs.declared.frame.Frame.{Frame}
use Rattle.agent_tree.specs.Frames.{frame, clip, clipped, IsPart, IsPlace}
use Rattle.agent_tree.specs.Paths.{AreNested, IsSound, level_of}
use Rattle.agent_tree.specs.Lists.{IsFirst}
use Rattle.agent_tree.specs.Trees.{inner, outer, is_box, taken_out, clip_of}
use Rattle.agent_tree.specs.Views.{TopView}
use Rattle.agent_tree.specs.Scenes.{whole, changed, damaged, box_removed}
use Rattle.agent_tree.specs.Edits.{IsTop, clip_at}
use Rattle.agent_tree.proofs.PathLemmas.{reverse-cons, All-reverse}
use Rattle.agent_tree.proofs.RowLemmas.{nested-behind, nested-take, nested-next, reverse-split}
use Rattle.agent_tree.proofs.ListLemmas.{split-at}
use Rattle.agent_tree.proofs.FrameLemmas.{clip-part}
use Rattle.agent_tree.proofs.DamageLemmas.{inside-damaged}
use Rattle.agent_tree.proofs.TreeLemmas.{taken-before, taken_out-at, clip_of-at}

one_behind : (y : SceneBox) (ys before : List SceneBox) → reverse (y ∷ ys) ++ before ≡ reverse ys ++ (y ∷ before)
one_behind y ys before = ap (λ bs. bs ++ before) (reverse-cons y ys) ∙ append_assoc (reverse ys) (y ∷ []) before

-- the first box of what follows is at most one level deeper than the last one before
pub nested-first : (ys before : List SceneBox) → AreNested (reverse ys ++ before) → level_of ys ≤ level_of before + 1
nested-first [] before n = omega arith
nested-first (y ∷ ys) before n = (nested-behind (reverse ys) (y ∷ before) (subst AreNested (one_behind y ys before) n)).0

-- what follows stays nested behind other boxes, if its first box is not too deep for them
pub nested-join : (ys before other : List SceneBox) → AreNested (reverse ys ++ before) → AreNested other → level_of ys ≤ level_of other + 1 → AreNested (reverse ys ++ other)
nested-join [] before other n m h = m
nested-join (y ∷ ys) before other n m h =
    let k : AreNested (reverse ys ++ (y ∷ before)) = subst AreNested (one_behind y ys before) n in
    subst AreNested (sym (one_behind y ys other)) (nested-join ys (y ∷ before) (y ∷ other) k (h, m) (nested-first ys (y ∷ before) k))

-- around an index
around : (xs ys : List SceneBox) (b : SceneBox) → reverse (xs ++ b ∷ ys) ≡ reverse ys ++ (b ∷ reverse xs)
around xs ys b = reverse-append xs (b ∷ ys) ∙ one_behind b ys (reverse xs)

pub nested-set : (xs : List SceneBox) (k : ℕ) (new : SceneBox) → k < length xs → new.level ≡ (get_or xs k new).level → AreNested (reverse xs) → AreNested (reverse (set xs k new))
nested-set xs k new h e n =
    let ys : List SceneBox = drop (k + 1) xs in
    let b : SceneBox = get_or xs k new in
    let before : List SceneBox = reverse (take k xs) in
    let m : AreNested (reverse ys ++ (b ∷ before)) = subst AreNested (ap reverse (split-at xs k new h) ∙ around (take k xs) ys b) n in
    let low : b.level ≤ level_of before + 1 = nested-next xs k new h n in
    let first : level_of ys ≤ b.level + 1 = nested-first ys (b ∷ before) m in
    let all : AreNested (reverse ys ++ (new ∷ before)) = nested-join ys (b ∷ before) (new ∷ before) m (omega arith, nested-take xs k n) (omega arith) in
    subst AreNested (sym (ap reverse (set_split xs k new h ∙ ap (λ m. take k xs ++ new ∷ drop m xs) (sym (add-one k))) ∙ around (take k xs) ys new)) all

pub nested-insert : (xs : List SceneBox) (k : ℕ) (new : SceneBox) → AreNested (reverse xs) → new.level ≤ level_of (reverse (take k xs)) + 1 → level_of (drop k xs) ≤ new.level + 1
    → AreNested (reverse (take k xs ++ new ∷ drop k xs))
nested-insert xs k new n low high =
    subst AreNested (sym (around (take k xs) (drop k xs) new))
    (nested-join (drop k xs) (reverse (take k xs)) (new ∷ reverse (take k xs)) (subst AreNested (reverse-split xs k) n) (low, nested-take xs k n) high)

pub outer-first : (level : ℕ) (xs : List SceneBox) → level_of (outer level xs) ≤ level
outer-first level [] = omega arith
outer-first level (x ∷ xs) = by_level (nat_lt level x.level) refl (outer-first level xs)
  where
    by_level : (t : Bool) → nat_lt level x.level ≡ t → level_of (outer level xs) ≤ level → level_of (if t then outer level xs else x ∷ xs) ≤ level
    by_level true e h = h
    by_level false e h = grind (arith, nat_tests)

pub outer-nested : (level : ℕ) (xs before : List SceneBox) → AreNested (reverse xs ++ before) → (rest : List SceneBox) × AreNested (reverse (outer level xs) ++ rest)
outer-nested level [] before n = (before, n)
outer-nested level (x ∷ xs) before n = by_level (nat_lt level x.level) (outer-nested level xs (x ∷ before) (subst AreNested (one_behind x xs before) n))
  where
    by_level : (t : Bool) → (rest : List SceneBox) × AreNested (reverse (outer level xs) ++ rest) → (rest : List SceneBox) × AreNested (reverse (if t then outer level xs else x ∷ xs) ++ rest)
    by_level true e = e
    by_level false e = (before, n)

pub nested-cut : (xs : List SceneBox) (k end : ℕ) (d : SceneBox) → k < length xs → drop end xs ≡ outer (get_or xs k d).level (drop (k + 1) xs) → AreNested (reverse xs)
    → AreNested (reverse (take k xs ++ drop end xs))
nested-cut xs k end d h e n =
    let b : SceneBox = get_or xs k d in
    let ys : List SceneBox = drop (k + 1) xs in
    let before : List SceneBox = reverse (take k xs) in
    let m : AreNested (reverse ys ++ (b ∷ before)) = subst AreNested (ap reverse (split-at xs k d h) ∙ around (take k xs) ys b) n in
    let low : b.level ≤ level_of before + 1 = nested-next xs k d h n in
    let o = outer-nested b.level ys (b ∷ before) m in
    let f : level_of (outer b.level ys) ≤ b.level = outer-first b.level ys in
    let all : AreNested (reverse (outer b.level ys) ++ before) = nested-join (outer b.level ys) o.0 before o.1 (nested-take xs k n) (omega arith) in
    subst AreNested (sym (ap (λ r. reverse (take k xs ++ r)) e ∙ reverse-append (take k xs) (outer b.level ys))) all

-- the last box before the end of a box lies in it, or is itself
inner-deep : (level : ℕ) (xs : List SceneBox) → AllByRecursion (λ (b : SceneBox). level < b.level) (inner level xs)
inner-deep level [] = tt
inner-deep level (x ∷ xs) = by_level (nat_lt level x.level) refl (inner-deep level xs)
  where
    by_level : (t : Bool) → nat_lt level x.level ≡ t → AllByRecursion (λ (b : SceneBox). level < b.level) (inner level xs) → AllByRecursion (λ (b : SceneBox). level < b.level) (if t then x ∷ inner level xs else [])
    by_level true e a = (grind (arith, nat_tests), a)
    by_level false e a = tt

last-deep : (level : ℕ) (zs before : List SceneBox) (b : SceneBox) → b.level ≡ level → AllByRecursion (λ (b : SceneBox). level < b.level) zs → level ≤ level_of (zs ++ (b ∷ before))
last-deep level [] before b e a = omega arith
last-deep level (z ∷ zs) before b e a = let h : level < z.level = a.0 in omega arith

pub end-deep : (xs : List SceneBox) (k end : ℕ) (d : SceneBox) → k < length xs → drop end xs ≡ outer (get_or xs k d).level (drop (k + 1) xs)
    → (get_or xs k d).level ≤ level_of (reverse (take end xs))
end-deep xs k end d h e =
    let b : SceneBox = get_or xs k d in
    let zs : List SceneBox = inner b.level (drop (k + 1) xs) in
    let P : SceneBox → Type 0 = λ c. b.level < c.level in
    let deep : AllByRecursion P (reverse zs) = recursion_from_All P (reverse zs) (All-reverse P zs (All-from_recursion P zs (inner-deep b.level (drop (k + 1) xs)))) in
    subst (λ bs. b.level ≤ level_of bs) (sym (ap reverse (taken-before xs k end d h e) ∙ around (take k xs) zs b)) (last-deep b.level (reverse zs) (reverse (take k xs)) b refl deep)

-- ---- what shows of a box

pub clip-is : (place window : Rect) (boxes bs : List SceneBox) (at : ℕ) (b : SceneBox) (f : Option Frame) (r : Option Rect) → window ≡ whole place → bs ≡ boxes
    → f ≡ frame window b.level (reverse (take at bs)) → r ≡ clipped f b.place → r ≡ clip (whole place) b (reverse (take at boxes))
clip-is place window boxes bs at b f r w e g h =
    h ∙ ap (λ f. clipped f b.place) g ∙ ap (λ w. clip w b (reverse (take at bs))) w ∙ ap (λ bs. clip (whole place) b (reverse (take at bs))) e

pub clip_at-is : (window : Rect) (boxes : List SceneBox) (at : ℕ) (b : SceneBox) → slice_get boxes at ≡ Some b → clip_at window boxes at ≡ clip window b (reverse (take at boxes))
clip_at-is window boxes at b e = ap (λ (o : Option SceneBox). elim o as (λ _. Option Rect) [ None ↦ None | Some b ↦ clip window b (reverse (take at boxes)) ]) e

pub clip-parts : (place : Rect) (b : SceneBox) (before : List SceneBox) (r : Option Rect) → r ≡ clip (whole place) b before → ForSome r (IsPart (whole place))
clip-parts place b before r e = subst (λ (o : Option Rect). ForSome o (IsPart (whole place))) (sym e) (clip-part (whole place) b before)

-- ---- what holds of a window holds of it changed

kept-parts : (place : Rect) (damage new : List Rect) (before after : Option Rect) → IsPlace place → All (IsPart (whole place)) damage → new ≡ damaged (whole place) damage before after
    → ForSome before (IsPart (whole place)) → ForSome after (IsPart (whole place)) → All (IsPart (whole place)) new
kept-parts place damage new before after p a e b c = subst (All (IsPart (whole place))) (sym e) (inside-damaged (whole place) damage before after p.w_low p.h_low a b c)

pub replaced-kept : (place : Rect) (boxes : List SceneBox) (damage new : List Rect) (before after : Option Rect) (k : ℕ) (b : SceneBox) → IsTop place boxes damage → k < length boxes → IsSound b
    → b.level ≡ (get_or boxes k b).level → new ≡ damaged (whole place) damage before after → ForSome before (IsPart (whole place)) → ForSome after (IsPart (whole place)) → IsTop place (set boxes k b) new
replaced-kept place boxes damage new before after k b t h s l e f g = record {
  size = t.size;
  sound = All-set IsSound boxes k b s t.sound;
  nested = nested-set boxes k b h l t.nested;
  few = let m = length-set boxes k b in let n : length boxes ≤ 65536 = t.few in omega arith;
  parts = kept-parts place damage new before after t.size t.parts e f g;
}

pub inserted-kept : (place : Rect) (boxes : List SceneBox) (damage new : List Rect) (after : Option Rect) (k : ℕ) (b : SceneBox) → IsTop place boxes damage → length boxes < 65536 → IsSound b
    → b.level ≤ level_of (reverse (take k boxes)) + 1 → level_of (drop k boxes) ≤ b.level + 1 → new ≡ damaged (whole place) damage None after → ForSome after (IsPart (whole place)) → IsTop place (take k boxes ++ b ∷ drop k boxes) new
inserted-kept place boxes damage new after k b t h s l m e g = record {
  size = t.size;
  sound = All-append IsSound (take k boxes) (b ∷ drop k boxes) (All-take IsSound k boxes t.sound) (All-cons IsSound b (drop k boxes) s (All-drop IsSound k boxes t.sound));
  nested = nested-insert boxes k b t.nested l m;
  few = let n = length-append (take k boxes) (b ∷ drop k boxes) in let a = length-append (take k boxes) (drop k boxes) in let c = ap length (take-append-drop k boxes) in omega arith;
  parts = kept-parts place damage new None after t.size t.parts e (λ x f. cc) g;
}

pub cut-kept : (place : Rect) (boxes : List SceneBox) (damage new : List Rect) (before : Option Rect) (k end : ℕ) (d : SceneBox) → IsTop place boxes damage → k < length boxes → k ≤ end
    → drop end boxes ≡ outer (get_or boxes k d).level (drop (k + 1) boxes) → new ≡ damaged (whole place) damage before None → ForSome before (IsPart (whole place)) → IsTop place (take k boxes ++ drop end boxes) new
cut-kept place boxes damage new before k end d t h o r e f = record {
  size = t.size;
  sound = All-append IsSound (take k boxes) (drop end boxes) (All-take IsSound k boxes t.sound) (All-drop IsSound end boxes t.sound);
  nested = nested-cut boxes k end d h r t.nested;
  few = let n = length-append (take k boxes) (drop end boxes) in let a = length-take k boxes in let c = length-drop end boxes in let m : length boxes ≤ 65536 = t.few in omega arith;
  parts = kept-parts place damage new before None t.size t.parts e f (λ x g. cc);
}

-- ---- a window that was changed

pub changed-is : (t : TopView) (bs : List SceneBox) (damage : List Rect) (before after p q : Option Rect) → damage ≡ damaged (whole t.place) t.damage before after → before ≡ p → after ≡ q
    → record t { boxes = bs; damage = damage } ≡ changed bs p q t
changed-is t bs damage before after p q e f g = ap (λ d. let s : TopView = record t { boxes = bs; damage = d } in s) (e ∙ ap (λ o. damaged (whole t.place) t.damage o after) f ∙ ap (damaged (whole t.place) t.damage p) g)

-- a box that was taken out
pub removed-is : (t : TopView) (id k end : ℕ) (old : SceneBox) (bs : List SceneBox) (damage : List Rect) (before : Option Rect) → IsFirst (is_box id) t.boxes k → old ≡ get_or t.boxes k old
    → drop end t.boxes ≡ outer old.level (drop (k + 1) t.boxes) → bs ≡ take k t.boxes ++ drop end t.boxes → before ≡ clip (whole t.place) old (reverse (take k t.boxes))
    → damage ≡ damaged (whole t.place) t.damage before None → record t { boxes = bs; damage = damage } ≡ box_removed id t
removed-is t id k end old bs damage before i o r b c d =
    let boxes : bs ≡ taken_out id t.boxes = b ∙ ap (λ xs. take k t.boxes ++ xs) r ∙ ap (λ (x : SceneBox). take k t.boxes ++ outer x.level (drop (k + 1) t.boxes)) o ∙ sym (taken_out-at id t.boxes k old i) in
    let shown : before ≡ clip_of (whole t.place) id t.boxes = c ∙ ap (λ x. clip (whole t.place) x (reverse (take k t.boxes))) o ∙ sym (clip_of-at (whole t.place) id t.boxes k old i) in
    changed-is t bs damage before None (clip_of (whole t.place) id t.boxes) None d shown refl ∙ ap (λ xs. changed xs (clip_of (whole t.place) id t.boxes) None t) boxes
