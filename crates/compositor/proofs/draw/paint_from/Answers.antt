use Rattle.std.proofs.Common.{◌≡◌, ◌<◌, ◌+◌, ◌∷◌, length, drop, arith, ap, sym, ◌∙◌, suc}
use Rattle.compositor.specs.Bands.{will_show}
use Rattle.compositor.proofs.DrawLemmas.{pane_at}
use Rattle.compositor.proofs.draw.paint_from.Goals as goal

pub loop-k-preserved : goal.loop-k-preserved
loop-k-preserved g c =
    let panes = g.Q.Panes.panes c.args.panes.now in
    let k = c.loop-k.k in
    let i : k < length panes = omega arith in
    let at = pane_at panes k i in
    let one : suc k ≡ k + 1 = omega arith in
    record {
      size = omega (arith, c.paint_down.auto.pixels, c.loop-k.invariant.size);
      count = omega (arith, c.paint_down.auto.rows, c.loop-k.invariant.count);
      widths = c.paint_down.ensures.widths;
      shown = λ background j x down across.
          c.paint_down.ensures.shown at.0 at.1 background (drop (k + 1) panes) j x (omega (arith, down, c.loop-k.invariant.count)) across
          ∙ ap (λ ps. will_show background ps c.args.top c.args.width (record { rows = c.loop-k.rows; pixels = c.loop-k.pixels }) j x)
          (ap (λ n. at.0 ∷ drop n panes) (sym one) ∙ sym at.2)
          ∙ c.loop-k.invariant.shown background j x down across;
    }
