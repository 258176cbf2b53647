use Rattle.std.proofs.Common.{◌≡◌, ◌+◌, Bool, nat_lt, ap, ◌∙◌, sym, arith, get_or, if◌then◌else◌, Option, to_z, of_z, w64}
use Rattle.std.specs.Prelude.{pos, ◌+ℤ◌, ◌≤ℤ◌, ◌<ℤ◌, int_lt, ◌&&◌, not}
use Rattle.std.proofs.lemmas.Int.{ints}
use Rattle.gui_num.specs.declared.Rect.{Rect}
use Rattle.gui_num.specs.Rects.{has}
use Rattle.agent_tree.specs.Frames.{shows}
use Rattle.agent_tree.proofs.RowLemmas.{in-row, row-top, row-bottom}
use Rattle.agent_tree.proofs.paint.put_row.Goals as goal

pub returns : goal.returns
returns c = λ k h.
    let r = c.in-Some.r in
    let x = c.args.x in
    let y = c.args.y in
    let left : to_z w64 (of_z w64 c.from-left.result) ≡ r.x = omega (arith, ints) in
    let right : to_z w64 (of_z w64 (to_z w64 (of_z w64 c.from-left.result) +ℤ to_z w64 (of_z w64 c.from-2.result))) ≡ r.x +ℤ pos r.w = omega (arith, ints) in
    let row : to_z w64 (of_z w64 c.from.result) ≡ pos y = omega (arith, ints) in
    let row' : to_z w64 (of_z w64 c.from-else-from-top-2.result) ≡ pos y = omega (arith, ints) in
    let upper : to_z w64 (of_z w64 c.from-top.result) ≡ r.y = omega (arith, ints) in
    let lower : to_z w64 (of_z w64 (to_z w64 (of_z w64 c.from-top.result) +ℤ to_z w64 (of_z w64 c.from-else-from-top.result))) ≡ r.y +ℤ pos r.h = omega (arith, ints) in
    let top : r.y ≤ℤ pos y = row-top _ _ r.y y row upper c.if-from-top.false in
    let bottom : pos y <ℤ (r.y +ℤ pos r.h) = row-bottom _ _ (r.y +ℤ pos r.h) y row' lower c.if-top-from.false in
    let here : (not (nat_lt k c.column-from.result) && nat_lt k c.column-past.result) ≡ has r (record { x = pos (x + k); y = pos y }) =
    in-row r x y k c.column-from.result c.column-past.result (c.column-from.ensures.left k h ∙ ap (int_lt (pos (x + k))) left) (c.column-past.ensures.left k h ∙ ap (int_lt (pos (x + k))) right) top bottom in
    c.fill_columns.ensures k h
    ∙ ap (λ (t : Bool). if t then c.args.colour.0 else get_or c.args.room.now k 0) (here ∙ sym (ap (λ (o : Option Rect). shows o (record { x = pos (x + k); y = pos y })) c.in-Some.is))
