-- Edits of lists of boxes, around the box that they name.
use Rattle.std.proofs.Common.{◌≡◌, ℕ, ◌+◌, ◌<◌, Bool, true, false, List, [], ◌∷◌, ◌++◌, length, take, drop, get_or, reverse, refl, sym, ◌∙◌, ap, if◌then◌else◌, nat_lt}
use Rattle.std.proofs.lemmas.List.{take-append-drop, append_assoc, append_cancel_right, append-nil}
use Rattle.gui_num.specs.declared.Rect.{Rect}
use Rattle.agent_tree.specs.declared.boxes.SceneBox.{SceneBox}
use Rattle.agent_tree.specs.Frames.{clip}
use Rattle.agent_tree.specs.Lists.{IsFirst}
use Rattle.agent_tree.specs.Trees.{is_box, has_box, inner, outer, put_in, taken_out, clip_behind, clip_of, level_in}
use Rattle.agent_tree.proofs.ListLemmas.{either, if-true, if-false, split-at}
use Rattle.agent_tree.proofs.PathLemmas.{reverse-cons}

pub inner-outer : (level : ℕ) (boxes : List SceneBox) → inner level boxes ++ outer level boxes ≡ boxes
inner-outer level [] = refl
inner-outer level (b ∷ boxes) = by_level (nat_lt level b.level) (inner-outer level boxes)
  where
    by_level : (t : Bool) → inner level boxes ++ outer level boxes ≡ boxes
        → (if t then b ∷ inner level boxes else []) ++ (if t then outer level boxes else b ∷ boxes) ≡ b ∷ boxes
    by_level true e = ap (λ bs. b ∷ bs) e
    by_level false e = refl

pub taken_out-split : (id : ℕ) (before after : List SceneBox) (b : SceneBox) → has_box id before ≡ false → is_box id b ≡ true
    → taken_out id (before ++ b ∷ after) ≡ before ++ outer b.level after
taken_out-split id [] after b n h = if-true _ _ (is_box id b) h
taken_out-split id (c ∷ before) after b n h =
    let e = either (is_box id c) (has_box id before) n in
    if-false _ _ (is_box id c) e.0 ∙ ap (λ bs. c ∷ bs) (taken_out-split id before after b e.1 h)

pub put_in-split : (id : ℕ) (new : SceneBox) (before after : List SceneBox) (b : SceneBox) → has_box id before ≡ false → is_box id b ≡ true
    → put_in id new (before ++ b ∷ after) ≡ before ++ b ∷ (inner b.level after ++ (record new { level = b.level + 1 } ∷ outer b.level after))
put_in-split id new [] after b n h = if-true _ _ (is_box id b) h
put_in-split id new (c ∷ before) after b n h =
    let e = either (is_box id c) (has_box id before) n in
    if-false _ _ (is_box id c) e.0 ∙ ap (λ bs. c ∷ bs) (put_in-split id new before after b e.1 h)

level_in-split : (id : ℕ) (before after : List SceneBox) (b : SceneBox) → has_box id before ≡ false → is_box id b ≡ true
    → level_in id (before ++ b ∷ after) ≡ b.level
level_in-split id [] after b n h = if-true _ _ (is_box id b) h
level_in-split id (c ∷ before) after b n h =
    let e = either (is_box id c) (has_box id before) n in
    if-false _ _ (is_box id c) e.0 ∙ level_in-split id before after b e.1 h

clip_behind-split : (window : Rect) (id : ℕ) (seen before after : List SceneBox) (b : SceneBox) → has_box id before ≡ false → is_box id b ≡ true
    → clip_behind window id seen (before ++ b ∷ after) ≡ clip window b (reverse before ++ seen)
clip_behind-split window id seen [] after b n h = if-true _ _ (is_box id b) h
clip_behind-split window id seen (c ∷ before) after b n h =
    let e = either (is_box id c) (has_box id before) n in
    if-false _ _ (is_box id c) e.0 ∙ clip_behind-split window id (c ∷ seen) before after b e.1 h
    ∙ ap (clip window b) (sym (ap (λ bs. bs ++ seen) (reverse-cons c before) ∙ append_assoc (reverse before) (c ∷ []) seen))

pub clip_of-split : (window : Rect) (id : ℕ) (before after : List SceneBox) (b : SceneBox) → has_box id before ≡ false → is_box id b ≡ true
    → clip_of window id (before ++ b ∷ after) ≡ clip window b (reverse before)
clip_of-split window id before after b n h = clip_behind-split window id [] before after b n h ∙ ap (clip window b) (append-nil (reverse before))

-- ---- by the index of the box

pub taken_out-at : (id : ℕ) (xs : List SceneBox) (k : ℕ) (d : SceneBox) → IsFirst (is_box id) xs k → taken_out id xs ≡ take k xs ++ outer (get_or xs k d).level (drop (k + 1) xs)
taken_out-at id xs k d i = ap (taken_out id) (split-at xs k d i.within) ∙ taken_out-split id (take k xs) (drop (k + 1) xs) (get_or xs k d) i.none (i.here d)

pub clip_of-at : (window : Rect) (id : ℕ) (xs : List SceneBox) (k : ℕ) (d : SceneBox) → IsFirst (is_box id) xs k → clip_of window id xs ≡ clip window (get_or xs k d) (reverse (take k xs))
clip_of-at window id xs k d i = ap (clip_of window id) (split-at xs k d i.within) ∙ clip_of-split window id (take k xs) (drop (k + 1) xs) (get_or xs k d) i.none (i.here d)

pub level_in-at : (id : ℕ) (xs : List SceneBox) (k : ℕ) (d : SceneBox) → IsFirst (is_box id) xs k → level_in id xs ≡ (get_or xs k d).level
level_in-at id xs k d i = ap (level_in id) (split-at xs k d i.within) ∙ level_in-split id (take k xs) (drop (k + 1) xs) (get_or xs k d) i.none (i.here d)

-- what stands before the end of a box and all in it
pub taken-before : (xs : List SceneBox) (k end : ℕ) (d : SceneBox) → k < length xs → drop end xs ≡ outer (get_or xs k d).level (drop (k + 1) xs)
    → take end xs ≡ take k xs ++ get_or xs k d ∷ inner (get_or xs k d).level (drop (k + 1) xs)
taken-before xs k end d h e =
    let b : SceneBox = get_or xs k d in
    let rest : List SceneBox = drop (k + 1) xs in
    let all : take end xs ++ drop end xs ≡ (take k xs ++ b ∷ inner b.level rest) ++ drop end xs =
    take-append-drop end xs ∙ split-at xs k d h ∙ ap (λ bs. take k xs ++ b ∷ bs) (sym (inner-outer b.level rest))
    ∙ sym (append_assoc (take k xs) (b ∷ inner b.level rest) (outer b.level rest)) ∙ ap (λ bs. (take k xs ++ b ∷ inner b.level rest) ++ bs) (sym e) in
    append_cancel_right (take end xs) (take k xs ++ b ∷ inner b.level rest) (drop end xs) all

pub put_in-at : (id : ℕ) (new : SceneBox) (xs : List SceneBox) (k end : ℕ) (d : SceneBox) → IsFirst (is_box id) xs k
    → drop end xs ≡ outer (get_or xs k d).level (drop (k + 1) xs) → put_in id new xs ≡ take end xs ++ (record new { level = (get_or xs k d).level + 1 } ∷ drop end xs)
put_in-at id new xs k end d i e =
    let b : SceneBox = get_or xs k d in
    let rest : List SceneBox = drop (k + 1) xs in
    let one : SceneBox = record new { level = b.level + 1 } in
    ap (put_in id new) (split-at xs k d i.within) ∙ put_in-split id new (take k xs) rest b i.none (i.here d)
    ∙ sym (append_assoc (take k xs) (b ∷ inner b.level rest) (one ∷ outer b.level rest))
    ∙ ap (λ bs. bs ++ (one ∷ outer b.level rest)) (sym (taken-before xs k end d i.within e))
    ∙ ap (λ bs. take end xs ++ (one ∷ bs)) (sym e)
