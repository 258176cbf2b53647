-- The limits of a scene once it has one more box.
use Rattle.std.proofs.Common.{◌≡◌, ℕ, suc, ◌+◌, ◌≤◌, ◌<◌, Bool, true, false, List, [], ◌∷◌, ◌++◌, length, Option, Some, None, Result, Ok, Err, refl, sym, ap, subst, arith, if◌then◌else◌, nat_lt, sum_by}
use Rattle.std.specs.Prelude.{◌||◌, ◌&&◌, OnOk, OnErr}
use Rattle.std.specs.List.{list_any}
use Rattle.std.proofs.lemmas.List.Sums.{sum_by-cons}
use Rattle.std.proofs.lemmas.Bool.Decides.{nat_tests}
use Rattle.agent_tree.specs.declared.boxes.SceneBox.{SceneBox}
use Rattle.agent_tree.specs.declared.fault.SceneFault.{SceneFault}
use Rattle.agent_tree.specs.declared.fault.SceneFault.TheVariants.{Unknown, Exists, Limit}
use Rattle.agent_tree.specs.Lists.{at_first}
use Rattle.agent_tree.specs.Trees.{is_box, inner, outer, put_in}
use Rattle.agent_tree.specs.Views.{TopView, SceneView}
use Rattle.agent_tree.specs.Scenes.{holds, is_top, is_held, is_used, level_at, child_added, box_added, pages, tiles, boxes_of, Answers, add_fault}
use Rattle.agent_tree.specs.Adds.{used, level_among, child_refused, inside_refused}
use Rattle.agent_tree.specs.Limits.{IsScene}
use Rattle.agent_tree.proofs.EditLemmas.{sum-at_first, length-at_first}

sum-grown : {X : Type 0} (g : X → ℕ) (test : X → Bool) (f : X → X) (xs : List X) → ((x : X) → g (f x) ≤ g x + 1) → sum_by g (at_first test f xs) ≤ sum_by g xs + 1
sum-grown g test f [] h = omega arith
sum-grown g test f (x ∷ xs) h = by_test (test x) (sum-grown g test f xs h) (h x) (sum_by-cons g x xs) (sum_by-cons g (f x) xs) (sum_by-cons g x (at_first test f xs))
  where
    by_test : (t : Bool) → sum_by g (at_first test f xs) ≤ sum_by g xs + 1 → g (f x) ≤ g x + 1 → sum_by g (x ∷ xs) ≡ g x + sum_by g xs → sum_by g (f x ∷ xs) ≡ g (f x) + sum_by g xs
        → sum_by g (x ∷ at_first test f xs) ≡ g x + sum_by g (at_first test f xs) → sum_by g (if t then f x ∷ xs else x ∷ at_first test f xs) ≤ sum_by g (x ∷ xs) + 1
    by_test true a b c d e = omega arith
    by_test false a b c d e = omega arith

-- whatever a call answers that adds a box, where there is room for one more
pub added-limits : (test : TopView → Bool) (f : TopView → TopView) (old new : List TopView) (r : Result (Unit {0}) SceneFault) → ((t : TopView) → (f t).place ≡ t.place)
    → ((t : TopView) → length (f t).boxes ≤ length t.boxes + 1) → IsScene old → OnOk r (new ≡ at_first test f old) → OnOk r (boxes_of old < 65536) → OnErr r (new ≡ old) → IsScene new
added-limits test f old new (Ok x) p b s d m e = subst IsScene (sym d) (record {
  tops_few = subst (λ n. n ≤ 1024) (sym (length-at_first test f old)) s.tops_few;
  boxes_few = let e = sum-grown (λ t. length t.boxes) test f old b in omega arith;
  pages_few = let e = sum-at_first (λ t. pages t.place) test f old (λ t. let q : pages (f t).place ≡ pages t.place = ap pages (p t) in omega arith) in let h = s.pages_few in omega arith;
  tiles_few = let e = sum-at_first (λ t. tiles t.place) test f old (λ t. let q : tiles (f t).place ≡ tiles t.place = ap tiles (p t) in omega arith) in let h = s.tiles_few in omega arith;
})
added-limits test f old new (Err x) p b s d m e = subst IsScene (sym e) s

-- ---- one more box

grow : (a b : ℕ) → a ≤ b + 1 → suc a ≤ suc b + 1
grow a b h = omega arith

push-length : (xs : List SceneBox) (b : SceneBox) → length (xs ++ b ∷ []) ≤ length xs + 1
push-length [] b = omega arith
push-length (x ∷ xs) b = grow (length (xs ++ b ∷ [])) (length xs) (push-length xs b)

between-length : (level : ℕ) (b : SceneBox) (xs : List SceneBox) → length (inner level xs ++ b ∷ outer level xs) ≤ length xs + 1
between-length level b [] = omega arith
between-length level b (x ∷ xs) = by_level (nat_lt level x.level) (between-length level b xs)
  where
    by_level : (t : Bool) → length (inner level xs ++ b ∷ outer level xs) ≤ length xs + 1
        → length ((if t then x ∷ inner level xs else []) ++ b ∷ (if t then outer level xs else x ∷ xs)) ≤ length (x ∷ xs) + 1
    by_level true h = grow (length (inner level xs ++ b ∷ outer level xs)) (length xs) h
    by_level false h = omega arith

put-length : (parent : ℕ) (new : SceneBox) (xs : List SceneBox) → length (put_in parent new xs) ≤ length xs + 1
put-length parent new [] = omega arith
put-length parent new (x ∷ xs) = by_test (is_box parent x) (between-length x.level (record new { level = x.level + 1 }) xs) (put-length parent new xs)
  where
    by_test : (t : Bool) → let s : SceneBox = record new { level = x.level + 1 } in length (inner x.level xs ++ s ∷ outer x.level xs) ≤ length xs + 1 → length (put_in parent new xs) ≤ length xs + 1
        → length (if t then x ∷ (inner x.level xs ++ (s ∷ outer x.level xs)) else x ∷ put_in parent new xs) ≤ length (x ∷ xs) + 1
    by_test true h k = grow (length (inner x.level xs ++ (record new { level = x.level + 1 }) ∷ outer x.level xs)) (length xs) h
    by_test false h k = grow (length (put_in parent new xs)) (length xs) k

pub child-length : (new : SceneBox) (t : TopView) → length (child_added new t).boxes ≤ length t.boxes + 1
child-length new t = push-length t.boxes (record new { level = 1 })

pub inside-length : (parent : ℕ) (new : SceneBox) (t : TopView) → length (box_added parent new t).boxes ≤ length t.boxes + 1
inside-length parent new t = put-length parent new t.boxes

-- ---- what a call answers

fewer : (n : ℕ) → nat_lt n 65536 ≡ true → n < 65536
fewer n e = grind (arith, nat_tests)

-- there was room for a box that was added to a window
pub child-room : (r : Result (Unit {0}) SceneFault) (id : ℕ) (tops : List TopView) → Answers r (child_refused id tops) → OnOk r (boxes_of tops < 65536)
child-room (Ok x) id tops e = fewer (boxes_of tops) (by_tests (used id tops) (nat_lt (boxes_of tops) 65536) e)
  where
    by_tests : (u n : Bool) → let o : Option SceneFault = if u then Some Exists else (if n then None else Some Limit) in o ≡ None → n ≡ true
    by_tests true n e = cc
    by_tests false true e = refl
    by_tests false false e = cc
child-room (Err x) id tops e = tt

-- and to a box
pub inside-room : (r : Result (Unit {0}) SceneFault) (id parent : ℕ) (tops : List TopView) → Answers r (inside_refused id parent tops) → OnOk r (boxes_of tops < 65536)
inside-room (Ok x) id parent tops e = fewer (boxes_of tops) (by_tests (list_any (holds parent) tops) (used id tops) (nat_lt (boxes_of tops) 65536) (nat_lt (level_among parent tops) 64) e)
  where
    by_tests : (h u n d : Bool) → let o : Option SceneFault = if h then (if u then Some Exists else (if n && d then None else Some Limit)) else Some Unknown in o ≡ None → n ≡ true
    by_tests false u n d e = cc
    by_tests true true n d e = cc
    by_tests true false true d e = refl
    by_tests true false false d e = cc
inside-room (Err x) id parent tops e = tt

-- why a box isn't added to a window
pub child-fault : (scene : SceneView) (id parent : ℕ) → is_top scene parent ≡ true → child_refused id scene.tops ≡ add_fault id parent scene
child-fault scene id parent e = by_tests (is_top scene parent) (is_held scene parent) (is_used scene id) (nat_lt (boxes_of scene.tops) 65536) (nat_lt (level_at scene parent) 64) e
  where
    by_tests : (p h u n d : Bool) → p ≡ true → let a : Option SceneFault = if u then Some Exists else (if n then None else Some Limit) in
        let b : Option SceneFault = if p || h then (if u then Some Exists else (if n && (p || d) then None else Some Limit)) else Some Unknown in a ≡ b
    by_tests true h u true d e = refl
    by_tests true h u false d e = refl
    by_tests false h u n d e = cc
