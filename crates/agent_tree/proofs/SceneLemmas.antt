-- The calls of a scene, by what was found.
use Rattle.std.proofs.Common.{◌≡◌, ℕ, true, false, List, get_or, Some, None, Result, Ok, Err, sym, ◌∙◌, ap}
use Rattle.std.specs.Prelude.{OnOk, OnErr, IfErr}
use Rattle.std.specs.List.{list_any}
use Rattle.agent_tree.specs.declared.fault.SceneFault.{SceneFault}
use Rattle.agent_tree.specs.declared.fault.SceneFault.TheVariants.{Unknown, Exists, Limit, NoMemory}
use Rattle.agent_tree.specs.Lists.{at_first, IsFirst}
use Rattle.agent_tree.specs.Views.{TopView, SceneView}
use Rattle.agent_tree.specs.Scenes.{is_named, holds, top_of, is_top, edited, top_placed, fit, Answers, place_fault}
use Rattle.gui_num.specs.declared.Rect.{Rect}
use Rattle.agent_tree.proofs.ListLemmas.{find-at, find-none, any-first, if-true, if-false}

pub top-found : (scene : SceneView) (id k : ℕ) (t : TopView) → IsFirst (is_named id) scene.tops k → t ≡ get_or scene.tops k t → top_of scene id ≡ Some t
top-found scene id k t i e = find-at (is_named id) scene.tops k t i ∙ ap Some (sym e)

pub top-none : (scene : SceneView) (id : ℕ) → list_any (is_named id) scene.tops ≡ false → top_of scene id ≡ None
top-none scene id e = find-none (is_named id) scene.tops e

-- an edit of a window
pub edited-top : (scene : SceneView) (id k : ℕ) (top box : TopView → TopView) → IsFirst (is_named id) scene.tops k → edited id top box scene ≡ record scene { tops = at_first (is_named id) top scene.tops }
edited-top scene id k top box i = ap (λ ts. let s : SceneView = record scene { tops = ts } in s) (if-true _ _ (is_top scene id) (any-first (is_named id) scene.tops k i))

-- and of a box
pub edited-box : (scene : SceneView) (id : ℕ) (top box : TopView → TopView) → list_any (is_named id) scene.tops ≡ false → edited id top box scene ≡ record scene { tops = at_first (holds id) box scene.tops }
edited-box scene id top box e = ap (λ ts. let s : SceneView = record scene { tops = ts } in s) (if-false _ _ (is_top scene id) e)

-- what a call answers that gives a window another place
pub placed-answers : (scene : SceneView) (id k : ℕ) (p : Rect) (new : List TopView) (r : Result (Unit {0}) SceneFault) → IsFirst (is_named id) scene.tops k
    → OnOk r (new ≡ at_first (is_named id) (top_placed p) scene.tops) → OnOk r (fit new ≡ true) → IfErr r (λ e. e ≡ Limit) → OnErr r (fit (at_first (is_named id) (top_placed p) scene.tops) ≡ false)
    → Answers r (place_fault id p scene)
placed-answers scene id k p new (Ok x) i d f l n = if-true _ _ (is_top scene id) (any-first (is_named id) scene.tops k i) ∙ if-true _ _ (fit (at_first (is_named id) (top_placed p) scene.tops)) (ap fit (sym d) ∙ f)
placed-answers scene id k p new (Err Limit) i d f l n = if-true _ _ (is_top scene id) (any-first (is_named id) scene.tops k i) ∙ if-false _ _ (fit (at_first (is_named id) (top_placed p) scene.tops)) n
placed-answers scene id k p new (Err Unknown) i d f l n = cc
placed-answers scene id k p new (Err Exists) i d f l n = cc
placed-answers scene id k p new (Err NoMemory) i d f l n = tt
