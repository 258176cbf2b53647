-- Paths, and the frames at their ends.
use Rattle.std.proofs.Common.{◌≡◌, ℕ, ◌+◌, ◌-◌, ◌≤◌, ◌<◌, Bool, true, false, List, [], ◌∷◌, ◌++◌, length, reverse, take, drop, get_or, slice_get, Option, Some, None, refl, sym, ◌∙◌, ap, subst, arith, if◌then◌else◌, nat_lt}
use Rattle.std.specs.List.{All, AllByRecursion}
use Rattle.std.proofs.lemmas.List.{drop_more, get_or-reverse, length-reverse, length-take, reverse-append, reverse-reverse, append-nil, append_assoc, take-append-drop}
use Rattle.std.proofs.lemmas.List.Elements.{recursion_from_All, All-from_recursion, All-take}
use Rattle.std.proofs.lemmas.Option.{slice_get-get_or}
use Rattle.std.proofs.lemmas.Bool.Decides.{nat_tests}
use Rattle.gui_num.specs.declared.Rect.{Rect}
use Rattle.agent_tree.specs.declared.boxes.SceneBox.{SceneBox}
use Rattle.agent_tree.specs.declared.frame.Frame.{Frame}
use Rattle.agent_tree.specs.Frames.{frame, inside}
use Rattle.agent_tree.specs.Paths.{path, along, IsSound}

-- what holds of each element holds of each from the last one on
pub All-reverse : {X : Type 0} (P : X → Type 0) (xs : List X) → All P xs → All P (reverse xs)
All-reverse P xs a = λ k d h.
    let n : k < length xs = omega (arith, length-reverse xs) in
    subst P (sym (get_or-reverse xs k d n)) (a (length xs - 1 - k) d (omega arith))

-- nothing lies in the boxes before, where these have higher levels
none-lower : (level : ℕ) (before : List SceneBox) → level ≤ 1 → AllByRecursion IsSound before → path level before ≡ []
none-lower level [] h a = refl
none-lower level (b ∷ before) h a =
    let low : 1 ≤ b.level = a.0.low in
    let e : nat_lt b.level level ≡ false = grind (arith, nat_tests) in
    ap (λ t. if t then length before ∷ path b.level before else path level before) e ∙ none-lower level before h a.1

pub path-found : (boxes : List SceneBox) (found all : List ℕ) (level n : ℕ) → level ≤ 1 → All IsSound boxes
    → found ++ path level (reverse (take n boxes)) ≡ all → found ≡ all
path-found boxes found all level n h a e =
    sym (append-nil found) ∙ ap (λ ps. found ++ ps) (sym (none-lower level (reverse (take n boxes)) h (recursion_from_All IsSound _ (All-reverse IsSound (take n boxes) (All-take IsSound n boxes a))))) ∙ e

pub path-all : (found all : List ℕ) → found ++ [] ≡ all → found ≡ all
path-all found all e = sym (append-nil found) ∙ e

pub path-end : (boxes : List SceneBox) (found all : List ℕ) (level n : ℕ) → n ≤ 0
    → found ++ path level (reverse (take n boxes)) ≡ all → found ≡ all
path-end boxes found all level n h e =
    let z : n ≡ 0 = omega arith in
    let none : path level (reverse (take n boxes)) ≡ [] = ap (λ k. path level (reverse (take k boxes))) z in
    sym (append-nil found) ∙ ap (λ ps. found ++ ps) (sym none) ∙ e

-- ---- the frame at the end of a path

pub get_here : {X : Type 0} (xs ys : List X) (y : X) → slice_get (xs ++ y ∷ ys) (length xs) ≡ Some y
get_here [] ys y = refl
get_here (x ∷ xs) ys y = get_here xs ys y

pub reverse-cons : {X : Type 0} (x : X) (xs : List X) → reverse (x ∷ xs) ≡ reverse xs ++ x ∷ []
reverse-cons x xs = reverse-append (x ∷ []) xs

-- of a list that begins with some boxes, the next one stands behind them
next_is : (before after : List SceneBox) (b : SceneBox) → reverse (b ∷ before) ++ after ≡ reverse before ++ b ∷ after
next_is before after b = ap (λ bs. bs ++ after) (reverse-cons b before) ∙ append_assoc (reverse before) (b ∷ []) after

next_at : (before after : List SceneBox) (b : SceneBox) → slice_get (reverse before ++ b ∷ after) (length before) ≡ Some b
next_at before after b = ap (slice_get (reverse before ++ b ∷ after)) (sym (length-reverse before)) ∙ get_here (reverse before) after b

along-split : (window : Rect) (level : ℕ) (before after : List SceneBox) → along window (reverse before ++ after) (path level before) ≡ frame window level before
along-split window level [] after = refl
along-split window level (b ∷ before) after =
    ap (λ bs. along window bs (path level (b ∷ before))) (next_is before after b)
    ∙ by_level (nat_lt b.level level) (along-split window b.level before (b ∷ after)) (along-split window level before (b ∷ after))
  where
    all : List SceneBox
    all = reverse before ++ b ∷ after

    in_it : (o : Option SceneBox) (f g : Option Frame) → o ≡ Some b → f ≡ g → (elim o [ None ↦ None | Some c ↦ inside f c.place ]) ≡ inside g b.place
    in_it o f g e k = ap (λ (o : Option SceneBox). elim o as (λ _. Option Frame) [ None ↦ None | Some c ↦ inside f c.place ]) e ∙ ap (λ f. inside f b.place) k

    by_level : (t : Bool) → along window all (path b.level before) ≡ frame window b.level before → along window all (path level before) ≡ frame window level before
        → along window all (if t then length before ∷ path b.level before else path level before) ≡ (if t then inside (frame window b.level before) b.place else frame window level before)
    by_level true f g = in_it (slice_get all (length before)) _ _ (next_at before after b) f
    by_level false f g = g

pub along-frame : (window : Rect) (boxes : List SceneBox) (n level : ℕ) → along window boxes (path level (reverse (take n boxes))) ≡ frame window level (reverse (take n boxes))
along-frame window boxes n level =
    ap (λ bs. along window bs (path level (reverse (take n boxes)))) (sym (take-append-drop n boxes) ∙ ap (λ bs. bs ++ drop n boxes) (sym (reverse-reverse (take n boxes))))
    ∙ along-split window level (reverse (take n boxes)) (drop n boxes)

-- a path has indices of the boxes alone
path-below : (level n : ℕ) (before : List SceneBox) → length before ≤ n → AllByRecursion (λ k. k < n) (path level before)
path-below level n [] h = tt
path-below level n (b ∷ before) h = by_level (nat_lt b.level level) (path-below b.level n before (omega arith)) (path-below level n before (omega arith))
  where
    by_level : (t : Bool) → AllByRecursion (λ k. k < n) (path b.level before) → AllByRecursion (λ k. k < n) (path level before) → AllByRecursion (λ k. k < n) (if t then length before ∷ path b.level before else path level before)
    by_level true f g = (omega arith, f)
    by_level false f g = g

pub path-indices : (boxes : List SceneBox) (found : List ℕ) (n level : ℕ) → found ≡ path level (reverse (take n boxes)) → All (λ k. k < length boxes) found
path-indices boxes found n level e =
    let P : ℕ → Type 0 = λ k. k < length boxes in
    subst (All P) (sym e) (All-from_recursion P _ (path-below level (length boxes) (reverse (take n boxes)) (omega (arith, length-reverse (take n boxes), length-take n boxes))))

pub along-step : (window : Rect) (boxes : List SceneBox) (found : List ℕ) (k : ℕ) (d : SceneBox) (f r : Option Frame) → 0 < k → k ≤ length found
    → All (λ i. i < length boxes) found → f ≡ along window boxes (drop k found) → r ≡ inside f (get_or boxes (get_or found (k - 1) 0) d).place
    → r ≡ along window boxes (drop (k - 1) found)
along-step window boxes found k d f r h n a e g =
    let j : ℕ = k - 1 in
    let lt : k - 1 < length found = omega arith in
    let at : ℕ = get_or found (k - 1) 0 in
    let more : drop (k - 1) found ≡ get_or found (k - 1) 0 ∷ drop k found = drop_more found (k - 1) 0 lt ∙ ap (λ m. get_or found (k - 1) 0 ∷ drop m found) (let q : k - 1 + 1 ≡ k = omega arith in q) in
    let got : slice_get boxes (get_or found (k - 1) 0) ≡ Some (get_or boxes (get_or found (k - 1) 0) d) = slice_get-get_or boxes (get_or found (k - 1) 0) d (a (k - 1) 0 lt) in
    g ∙ ap (λ f. inside f (get_or boxes (get_or found (k - 1) 0) d).place) e
    ∙ sym (ap (λ (o : Option SceneBox). elim o as (λ _. Option Frame) [ None ↦ None | Some b ↦ inside (along window boxes (drop k found)) b.place ]) got)
    ∙ sym (ap (along window boxes) more)
