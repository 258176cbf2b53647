use Rattle.std.proofs.Common.{◌<◌, ◌+◌, ◌-◌, ◌/◌, length, arith}
use Rattle.region_clip.proofs.SpanLemmas.{ended-length, ended-more, ended-less}
use Rattle.region_clip.proofs.row_spans.count_left.Goals as goal

pub loop-low-init : goal.loop-low-init
loop-low-init c = record { above = omega arith; below = ended-length c.args.x c.args.spans.now; within = omega arith }

pub loop-low-preserved-then-spans-middle : goal.loop-low-preserved-then-spans-middle
loop-low-preserved-then-spans-middle c =
    let k = c.loop-low.low + (c.loop-low.high - c.loop-low.low) / 2 in
    let i : k < length c.args.spans.now = omega (arith, c.loop-low.invariant.within) in
    record {
      above = ended-more c.args.x 0 c.args.width c.args.spans.now k c.requires i (omega (arith, c.if-spans-middle.true));
      below = c.loop-low.invariant.below;
      within = c.loop-low.invariant.within;
    }

pub loop-low-preserved : goal.loop-low-preserved
loop-low-preserved c =
    let k = c.loop-low.low + (c.loop-low.high - c.loop-low.low) / 2 in
    let i : k < length c.args.spans.now = omega (arith, c.loop-low.invariant.within) in
    record {
      above = c.loop-low.invariant.above;
      below = ended-less c.args.x 0 c.args.width c.args.spans.now k c.requires i (omega (arith, c.if-spans-middle.false));
      within = omega (arith, c.loop-low.invariant.within);
    }
