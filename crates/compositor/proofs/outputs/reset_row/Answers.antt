use Rattle.std.proofs.Common.{arith, ap, ◌∙◌}
use Rattle.region_clip.specs.Spans.{RowOf}
use Rattle.compositor.proofs.OutputLemmas.{gap-swept, gap-ahead}
use Rattle.compositor.proofs.outputs.reset_row.Goals as goal

pub loop-x-preserved : goal.loop-x-preserved
loop-x-preserved c =
    let i = c.loop-x.invariant in
    record {
      width = ap (λ (r : RowOf). r.width) c.cut.ensures.is ∙ i.width;
      swept = gap-swept c.args.outputs.now c.loop-x.row.spans c.cut.new.self.spans c.args.y c.args.width c.loop-x.x c.gap_end-end.result c.cut.ensures.columns c.gap_end-end.ensures.hidden i.swept;
      ahead = gap-ahead c.loop-x.row.spans c.cut.new.self.spans c.args.width c.loop-x.x c.gap_end-end.result (omega (arith, c.gap_end-end.ensures.past)) c.cut.ensures.columns i.ahead;
    }
