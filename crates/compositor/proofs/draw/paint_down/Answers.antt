use Rattle.std.proofs.Common.{◌<◌, ◌+◌, ◌*◌, length, arith, ◌∙◌, length-set}
use Rattle.compositor.proofs.BandLemmas.{wide-set, other-row, row_drawn, down_more}
use Rattle.compositor.proofs.RowLemmas.{one_row}
use Rattle.compositor.proofs.draw.paint_down.Goals as goal

pub loop-j-preserved : goal.loop-j-preserved
loop-j-preserved g c =
    let j = c.loop-j.j in
    let w = c.args.width in
    let rows = c.loop-j.rows in
    let spans = c.paint_pane_at.new.spans in
    let on = one_row w j in
    let i : j < length rows = omega (arith, c.loop-j.invariant.count, c.loop-j-test.true) in
    record {
      size = omega (arith, c.paint_pane_at.auto.pixels, c.loop-j.invariant.size);
      count = length-set rows j spans ∙ c.loop-j.invariant.count;
      widths = wide-set w j rows spans c.paint_pane_at.ensures.width c.loop-j.invariant.widths;
      above = λ pane is background below.
          down_more background below pane c.args.top w j rows c.args.rows.now c.loop-j.pixels c.args.pixels.now c.paint_pane_at.new.pixels spans c.paint_pane_at.ensures.before
          (λ x across. row_drawn background below pane c.args.top w j x rows c.args.rows.now c.loop-j.pixels c.args.pixels.now c.paint_pane_at.new.pixels c.index-rows-j.result spans
          i (c.paint_pane_at.ensures.left pane is x) (c.paint_pane_at.ensures.here pane is x across)
          (c.loop-j.invariant.spans j (omega arith)) (c.loop-j.invariant.pixels (j * w + x) (omega arith)))
          (c.loop-j.invariant.above pane is background below);
      spans = λ k low. other-row rows j k spans (λ e. omega (arith, low, e)) ∙ c.loop-j.invariant.spans k (omega (arith, low));
      pixels = λ m low. c.paint_pane_at.ensures.behind m (omega (arith, low, on)) ∙ c.loop-j.invariant.pixels m (omega (arith, low, on));
    }
