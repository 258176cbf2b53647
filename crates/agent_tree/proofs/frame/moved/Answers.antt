use Rattle.std.proofs.Common.{◌≡◌, ℤ, ◌+ℤ◌, ap, ◌∙◌, arith, to_z, of_z, w32}
use Rattle.std.proofs.lemmas.Int.{ints}
use Rattle.gui_num.specs.declared.Rect.{Rect}
use Rattle.agent_tree.proofs.frame.moved.Goals as goal

pub returns-clause-moved : goal.returns-clause-moved
returns-clause-moved c =
    let f = c.args.frame.corner in
    let r = c.args.place in
    let x : to_z w32 (of_z w32 (to_z w32 (of_z w32 f.x) +ℤ to_z w32 (of_z w32 r.x))) ≡ f.x +ℤ r.x = omega (arith, ints) in
    let y : to_z w32 (of_z w32 (to_z w32 (of_z w32 f.y) +ℤ to_z w32 (of_z w32 r.y))) ≡ f.y +ℤ r.y = omega (arith, ints) in
    let A : ℤ → ℤ → Rect = λ a b. record { x = a; y = b; w = r.w; h = r.h } in
    ap (λ a. A a (to_z w32 (of_z w32 (to_z w32 (of_z w32 f.y) +ℤ to_z w32 (of_z w32 r.y))))) x ∙ ap (A (f.x +ℤ r.x)) y
