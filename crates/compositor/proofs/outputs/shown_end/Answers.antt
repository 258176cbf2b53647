use Rattle.std.proofs.Common.{◌≡◌, ◌<◌, false, length, get_or, arith, ◌∙◌, sym, pos, to_z, w32}
use Rattle.std.proofs.lemmas.Int.{ints}
use Rattle.gui_num.specs.declared.Rect.{Rect}
use Rattle.gui_num.specs.Rects.{has}
use Rattle.compositor.specs.Composed.{at_pixel}
use Rattle.compositor.proofs.OutputLemmas.{in-others, at-place}
use Rattle.compositor.proofs.outputs.shown_end.Goals as goal

abbrev d : Rect
d = record { x = pos 0; y = pos 0; w = 0; h = 0 }

pub loop-output-preserved : goal.loop-output-preserved
loop-output-preserved c =
    let outputs = c.args.outputs.now in
    let n = c.loop-output.output-index in
    let in_list : n < length outputs = omega arith in
    let x : to_z w32 c.args.x ≡ pos c.args.x = omega (arith, ints, c.requires.column) in
    let y : to_z w32 c.args.y ≡ pos c.args.y = omega (arith, ints, c.requires.row) in
    let here : has (get_or outputs n d) (at_pixel c.args.x c.args.y) ≡ false =
    sym (at-place (get_or outputs n d) c.args.x c.args.y (to_z w32 c.args.x) (to_z w32 c.args.y) x y) ∙ sym c.has.ensures ∙ c.if-has.false in
    c.loop-output.invariant ∙ in-others outputs n d (at_pixel c.args.x c.args.y) in_list here
