use Rattle.std.proofs.Common.{◌≡◌, ◌<◌, false, length, drop, get_or, arith, ◌∙◌, sym, pos}
use Rattle.gui_num.specs.declared.Rect.{Rect}
use Rattle.gui_num.specs.Rects.{has}
use Rattle.compositor.specs.Composed.{is_in, at_pixel}
use Rattle.compositor.proofs.OutputLemmas.{in-others, first-hidden}
use Rattle.compositor.proofs.outputs.gap_end.Goals as goal

abbrev d : Rect
d = record { x = pos 0; y = pos 0; w = 0; h = 0 }

pub loop-output-preserved : goal.loop-output-preserved
loop-output-preserved c =
    let outputs = c.args.outputs.now in
    let n = c.loop-output.output-index in
    let in_list : n < length outputs = omega arith in
    let i = c.loop-output.invariant in
    let none : is_in (drop n outputs) (at_pixel c.args.x c.args.y) ≡ false =
    sym (i.hidden c.args.x (omega arith) i.past) ∙ c.requires.hidden in
    let here : has (get_or outputs n d) (at_pixel c.args.x c.args.y) ≡ false = first-hidden outputs n d (at_pixel c.args.x c.args.y) in_list none in
    record {
      past = c.hidden_end-end.ensures.past;
      within = omega (arith, c.hidden_end-end.ensures.within, i.within);
      hidden = λ k low high.
          i.hidden k low (omega (arith, high, c.hidden_end-end.ensures.within))
          ∙ in-others outputs n d (at_pixel k c.args.y) in_list (c.hidden_end-end.ensures.hidden here k low high);
    }
