use Rattle.std.proofs.Common.{◌<◌, ◌+◌, length, take, get_or, arith, ap, ◌∙◌, sym, min, pos}
use Rattle.std.proofs.lemmas.List.Sums.{sum_by_more}
use Rattle.gui_num.specs.declared.Rect.{Rect}
use Rattle.gui_num.specs.Rects.{area}
use Rattle.compositor.specs.PictureView.{shown_area, counted}
use Rattle.compositor.proofs.OutputLemmas.{counted-more}
use Rattle.compositor.proofs.outputs.add_areas.Goals as goal

abbrev d : Rect
d = record { x = pos 0; y = pos 0; w = 0; h = 0 }

pub loop-output-preserved : goal.loop-output-preserved
loop-output-preserved c =
    let outputs = c.args.outputs.now in
    let n = c.loop-output.output-index in
    let in_list : n < length outputs = omega arith in
    let here = area (get_or outputs n d) in
    let before = shown_area (take n outputs) in
    c.saturating_add-count.ensures
    ∙ ap (λ a. min (c.loop-output.count + a) 18446744073709551615) c.area.ensures
    ∙ ap (λ m. min (m + here) 18446744073709551615) c.loop-output.invariant
    ∙ counted-more c.args.painted before here 18446744073709551615
    ∙ ap (λ m. counted (c.args.painted + m)) (sym (sum_by_more area outputs n d in_list))
