-- What is added to a scene.
use Rattle.std.proofs.Common.{◌≡◌, ℕ, zero, suc, ◌+◌, ◌≤◌, ◌<◌, Bool, true, false, List, [], ◌∷◌, ◌++◌, length, take, drop, get_or, reverse, slice_get, Option, Some, None, sym, ◌∙◌, ap, arith, if◌then◌else◌, nat_lt}
use Rattle.std.specs.Prelude.{◌&&◌, ◌==◌}
use Rattle.std.specs.List.{list_any}
use Rattle.std.proofs.lemmas.List.{take_all, drop_all, take-append-drop}
use Rattle.std.proofs.lemmas.Option.{get_or_from_slice_get, slice_get_within}
use Rattle.std.proofs.lemmas.Bool.Decides.{nat_tests}
use Rattle.gui_num.specs.declared.Rect.{Rect}
use Rattle.agent_tree.specs.declared.boxes.SceneBox.{SceneBox}
use Rattle.agent_tree.specs.Frames.{clip}
use Rattle.agent_tree.specs.Lists.{IsFirst}
use Rattle.agent_tree.specs.Trees.{is_box, has_box, put_in, outer, clip_of, level_in}
use Rattle.agent_tree.specs.Views.{TopView}
use Rattle.agent_tree.specs.Scenes.{whole, changed, is_named, holds, child_added, box_added, boxes_of}
use Rattle.agent_tree.specs.Edits.{inserted_at}
use Rattle.agent_tree.specs.declared.fault.SceneFault.TheVariants.{Exists, Limit}
use Rattle.agent_tree.specs.Paths.{level_of}
use Rattle.agent_tree.specs.Adds.{used, level_among, inside_refused}
use Rattle.agent_tree.proofs.ListLemmas.{either, if-true, if-false, any-part, find-at}
use Rattle.agent_tree.proofs.TreeLemmas.{clip_of-split, put_in-at, level_in-at}
use Rattle.agent_tree.proofs.NestLemmas.{end-deep, outer-first}

-- where nothing has an id, no box of a window has it
unheld : (id : ℕ) (tops : List TopView) (k : ℕ) (t : TopView) → list_any (holds id) tops ≡ false → slice_get tops k ≡ Some t → has_box id t.boxes ≡ false
unheld id [] k t e g = cc
unheld id (s ∷ tops) k t e g = by_index k g (either (has_box id s.boxes) (list_any (holds id) tops) e) (λ m f h. unheld id tops m t f h)
  where
    by_index : (k : ℕ) → slice_get (s ∷ tops) k ≡ Some t → (has_box id s.boxes ≡ false) × (list_any (holds id) tops ≡ false)
        → ((m : ℕ) → list_any (holds id) tops ≡ false → slice_get tops m ≡ Some t → has_box id t.boxes ≡ false) → has_box id t.boxes ≡ false
    by_index zero g e k = let f : s ≡ t = cc in ap (λ (t : TopView). has_box id t.boxes) (sym f) ∙ e.0
    by_index (suc m) g e k = k m e.1 g

pub unused : (id : ℕ) (tops : List TopView) (k : ℕ) (t : TopView) → used id tops ≡ false → slice_get tops k ≡ Some t → has_box id t.boxes ≡ false
unused id tops k t e g = unheld id tops k t (either (list_any (is_named id) tops) (list_any (holds id) tops) e).1 g

-- what shows of a new box
new-clip : (window : Rect) (boxes : List SceneBox) (end : ℕ) (new : SceneBox) → has_box new.id boxes ≡ false
    → clip window new (reverse (take end boxes)) ≡ clip_of window new.id (take end boxes ++ new ∷ drop end boxes)
new-clip window boxes end new e =
    let none : has_box new.id (take end boxes) ≡ false = any-part (is_box new.id) (take end boxes) (drop end boxes) (ap (has_box new.id) (take-append-drop end boxes) ∙ e) in
    sym (clip_of-split window new.id (take end boxes) (drop end boxes) new none (self new.id))
  where
    self : (n : ℕ) → (n == n) ≡ true
    self n = grind (arith, nat_tests)

pub added-child : (t : TopView) (new one : SceneBox) → has_box new.id t.boxes ≡ false → one ≡ record new { level = 1 } → inserted_at (length t.boxes) one t ≡ child_added new t
added-child t new one e f =
    let boxes : take (length t.boxes) t.boxes ++ one ∷ drop (length t.boxes) t.boxes ≡ t.boxes ++ (record new { level = 1 }) ∷ [] =
    ap (λ xs. xs ++ one ∷ drop (length t.boxes) t.boxes) (take_all (length t.boxes) t.boxes (omega arith))
    ∙ ap (λ xs. t.boxes ++ one ∷ xs) (drop_all (length t.boxes) t.boxes (omega arith)) ∙ ap (λ x. t.boxes ++ x ∷ []) f in
    let id : one.id ≡ new.id = ap (λ (b : SceneBox). b.id) f in
    let c : clip (whole t.place) one (reverse (take (length t.boxes) t.boxes)) ≡ clip_of (whole t.place) new.id (take (length t.boxes) t.boxes ++ one ∷ drop (length t.boxes) t.boxes) =
    new-clip (whole t.place) t.boxes (length t.boxes) one (ap (λ n. has_box n t.boxes) id ∙ e)
    ∙ ap (λ n. clip_of (whole t.place) n (take (length t.boxes) t.boxes ++ one ∷ drop (length t.boxes) t.boxes)) id in
    ap (λ o. changed (take (length t.boxes) t.boxes ++ one ∷ drop (length t.boxes) t.boxes) None o t) c
    ∙ ap (λ bs. changed bs None (clip_of (whole t.place) new.id bs) t) boxes

pub added-inside : (t : TopView) (parent at end : ℕ) (b new one : SceneBox) → has_box new.id t.boxes ≡ false → IsFirst (is_box parent) t.boxes at → slice_get t.boxes at ≡ Some b
    → drop end t.boxes ≡ outer b.level (drop (at + 1) t.boxes) → one ≡ record new { level = b.level + 1 } → inserted_at end one t ≡ box_added parent new t
added-inside t parent at end b new one e i g r f =
    let got : get_or t.boxes at b ≡ b = get_or_from_slice_get t.boxes at b b g in
    let rest : drop end t.boxes ≡ outer (get_or t.boxes at b).level (drop (at + 1) t.boxes) = r ∙ ap (λ (x : SceneBox). outer x.level (drop (at + 1) t.boxes)) (sym got) in
    let one' : record new { level = (get_or t.boxes at b).level + 1 } ≡ one = ap (λ (x : SceneBox). let s : SceneBox = record new { level = x.level + 1 } in s) got ∙ sym f in
    let boxes : take end t.boxes ++ one ∷ drop end t.boxes ≡ put_in parent new t.boxes =
    ap (λ x. take end t.boxes ++ x ∷ drop end t.boxes) (sym one') ∙ sym (put_in-at parent new t.boxes at end b i rest) in
    let id : one.id ≡ new.id = ap (λ (b : SceneBox). b.id) f in
    let c : clip (whole t.place) one (reverse (take end t.boxes)) ≡ clip_of (whole t.place) new.id (take end t.boxes ++ one ∷ drop end t.boxes) =
    new-clip (whole t.place) t.boxes end one (ap (λ n. has_box n t.boxes) id ∙ e)
    ∙ ap (λ n. clip_of (whole t.place) n (take end t.boxes ++ one ∷ drop end t.boxes)) id in
    ap (λ o. changed (take end t.boxes ++ one ∷ drop end t.boxes) None o t) c
    ∙ ap (λ bs. changed bs None (clip_of (whole t.place) new.id bs) t) boxes

-- the level of the box with an id
pub level-found : (id : ℕ) (tops : List TopView) (k at : ℕ) (t : TopView) (b : SceneBox) → IsFirst (holds id) tops k → t ≡ get_or tops k t → IsFirst (is_box id) t.boxes at → slice_get t.boxes at ≡ Some b
    → level_among id tops ≡ b.level
level-found id tops k at t b i e j g =
    ap (λ (o : Option TopView). elim o as (λ _. ℕ) [ None ↦ 0 | Some t ↦ level_in id t.boxes ]) (find-at (holds id) tops k t i ∙ ap Some (sym e))
    ∙ level_in-at id t.boxes at b j ∙ ap (λ (x : SceneBox). x.level) (get_or_from_slice_get t.boxes at b b g)

-- ---- why a box isn't added in another one

pub refused-exists : (id parent : ℕ) (tops : List TopView) → list_any (holds parent) tops ≡ true → used id tops ≡ true → inside_refused id parent tops ≡ Some Exists
refused-exists id parent tops e f = if-true _ _ (list_any (holds parent) tops) e ∙ if-true _ _ (used id tops) f

refused-rest : (id parent : ℕ) (tops : List TopView) (t : Bool) → list_any (holds parent) tops ≡ true → used id tops ≡ false → (nat_lt (boxes_of tops) 65536 && nat_lt (level_among parent tops) 64) ≡ t
    → inside_refused id parent tops ≡ (if t then None else Some Limit)
refused-rest id parent tops t e f g = if-true _ _ (list_any (holds parent) tops) e ∙ if-false _ _ (used id tops) f ∙ ap (λ (t : Bool). if t then None else Some Limit) g

pub refused-boxes : (id parent : ℕ) (tops : List TopView) → list_any (holds parent) tops ≡ true → used id tops ≡ false → 65536 ≤ boxes_of tops → inside_refused id parent tops ≡ Some Limit
refused-boxes id parent tops e f h = refused-rest id parent tops false e f (full (boxes_of tops) (level_among parent tops) h)
  where
    full : (a b : ℕ) → 65536 ≤ a → (nat_lt a 65536 && nat_lt b 64) ≡ false
    full a b h = grind (arith, nat_tests)

pub refused-level : (id parent : ℕ) (tops : List TopView) → list_any (holds parent) tops ≡ true → used id tops ≡ false → 64 ≤ level_among parent tops → inside_refused id parent tops ≡ Some Limit
refused-level id parent tops e f h = refused-rest id parent tops false e f (deep (boxes_of tops) (level_among parent tops) h)
  where
    deep : (a b : ℕ) → 64 ≤ b → (nat_lt a 65536 && nat_lt b 64) ≡ false
    deep a b h = grind (arith, nat_tests)

pub refused-not : (id parent : ℕ) (tops : List TopView) → list_any (holds parent) tops ≡ true → used id tops ≡ false → boxes_of tops < 65536 → level_among parent tops < 64 → inside_refused id parent tops ≡ None
refused-not id parent tops e f h k = refused-rest id parent tops true e f (room (boxes_of tops) (level_among parent tops) h k)
  where
    room : (a b : ℕ) → a < 65536 → b < 64 → (nat_lt a 65536 && nat_lt b 64) ≡ true
    room a b h k = grind (arith, nat_tests)

-- ---- where it may be put

pub deep-enough : (boxes : List SceneBox) (at end : ℕ) (b : SceneBox) (level : ℕ) → slice_get boxes at ≡ Some b → drop end boxes ≡ outer b.level (drop (at + 1) boxes) → level ≡ b.level + 1
    → level ≤ level_of (reverse (take end boxes)) + 1
deep-enough boxes at end b level g r f =
    let got : get_or boxes at b ≡ b = get_or_from_slice_get boxes at b b g in
    let rest : drop end boxes ≡ outer (get_or boxes at b).level (drop (at + 1) boxes) = r ∙ ap (λ (x : SceneBox). outer x.level (drop (at + 1) boxes)) (sym got) in
    let d = end-deep boxes at end b (slice_get_within boxes at b g) rest in
    let e : (get_or boxes at b).level ≡ b.level = ap (λ (x : SceneBox). x.level) got in
    omega arith

pub not-too-deep : (boxes : List SceneBox) (at end : ℕ) (b : SceneBox) (level : ℕ) → drop end boxes ≡ outer b.level (drop (at + 1) boxes) → level ≡ b.level + 1 → level_of (drop end boxes) ≤ level + 1
not-too-deep boxes at end b level r f = let h : level_of (outer b.level (drop (at + 1) boxes)) ≤ b.level = outer-first b.level (drop (at + 1) boxes) in let e = ap level_of r in omega arith
