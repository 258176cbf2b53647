use Rattle.std.proofs.Common.{◌+◌, ◌*◌, ◌≤◌, arith, ap, inl, inr, ◌∙◌, if◌then◌else◌, slice_index}
use Rattle.std.proofs.Math.Nat.{mul-le-mul_right}
use Rattle.std.proofs.lemmas.Bool.{cases_lt}
use Rattle.compositor.specs.Composed.{composed, is_in, shown_at, at_pixel}
use Rattle.compositor.proofs.PixelLemmas.{colours-from_rows}
use Rattle.compositor.proofs.OutputLemmas.{all-fit, zero-outside}
use Rattle.compositor.proofs.RowLemmas.{row_before}
use Rattle.compositor.proofs.picture.paint_rows.Goals as goal

pub paint_at-requires-clause-fit : goal.paint_at-requires-clause-fit
paint_at-requires-clause-fit g c = all-fit c.args.width c.args.height c.args.outputs.now c.requires.small c.requires.low c.requires.placed

pub loop-top-preserved : goal.loop-top-preserved
loop-top-preserved g c =
    let w = c.args.width in
    let top = c.loop-top.top in
    let bottom = c.min-bottom.result in
    let i = c.loop-top.invariant in
    let panes = g.Q.Panes.panes c.args.panes.now in
    let within : bottom ≤ c.args.height = omega (arith, c.min-bottom.ensures) in
    let order : top ≤ bottom = omega (arith, c.min-bottom.ensures, c.loop-top-test.true) in
    record {
      count = omega (arith, c.paint_at.auto.rows, i.count);
      widths = c.paint_at.ensures.widths;
      size = omega (arith, c.paint_at.auto.pixels, i.size);
      within = within;
      drawn = λ x y across down. elim (cases_lt y top) [
        | inl above ↦ (c.paint_at.ensures.before (y * w + x) (row_before w x y top across above) ∙ i.drawn x y across above)
        | inr on ↦ (c.paint_at.ensures.here x y across on down
            ∙ zero-outside (is_in c.args.outputs.now (at_pixel x y)) (composed c.args.background panes (at_pixel x y)) (slice_index c.loop-top.pixels (y * w + x))
            (λ out. i.below (y * w + x) (omega (arith, mul-le-mul_right w on)) ∙ c.requires.outside x y across (omega (arith, down, within)) out))
      ];
      below = λ k low. c.paint_at.ensures.behind k low ∙ i.below k (omega (arith, low, mul-le-mul_right w order));
    }

pub returns-clause-pixels : goal.returns-clause-pixels
returns-clause-pixels g c =
    colours-from_rows (shown_at c.args.background (g.Q.Panes.panes c.args.panes.now) c.args.outputs.now) c.args.width c.args.height c.loop-top.pixels c.loop-top.invariant.size
    (λ x y across down. c.loop-top.invariant.drawn x y across (omega arith))

pub returns-clause-outside : goal.returns-clause-outside
returns-clause-outside g c = λ x y across down out.
    c.loop-top.invariant.drawn x y across (omega arith) ∙ ap (λ b. if b then composed c.args.background (g.Q.Panes.panes c.args.panes.now) (at_pixel x y) else 0) out
