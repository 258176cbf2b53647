use Rattle.std.proofs.Common.{◌<◌, ◌+◌, ◌++◌, length, drop, get_or, arith, ap, sym, ◌∙◌}
use Rattle.std.proofs.lemmas.List.{drop_more}
use Rattle.compositor.specs.Bands.{numbered, will_show}
use Rattle.compositor.proofs.BandLemmas.{first-numbered}
use Rattle.compositor.proofs.DrawLemmas.{pane_at}
use Rattle.compositor.proofs.draw.paint_listed.Goals as goal

pub loop-k-preserved : goal.loop-k-preserved
loop-k-preserved g c =
    let panes = g.Q.Panes.panes c.args.panes.now in
    let listed = c.args.listed.now in
    let n = c.loop-k.k-index in
    let in_list : n < length listed = omega arith in
    let k = get_or listed n 0 in
    let at = pane_at panes k (c.requires.numbers n 0 in_list) in
    record {
      size = omega (arith, c.paint_down.auto.pixels, c.loop-k.invariant.size);
      count = omega (arith, c.paint_down.auto.rows, c.loop-k.invariant.count);
      widths = c.paint_down.ensures.widths;
      shown = λ background below j x down across.
          c.paint_down.ensures.shown at.0 at.1 background (numbered panes (drop (n + 1) listed) ++ below) j x (omega (arith, down, c.loop-k.invariant.count)) across
          ∙ ap (λ ps. will_show background ps c.args.top c.args.width (record { rows = c.loop-k.rows; pixels = c.loop-k.pixels }) j x)
          (sym (ap (λ ks. numbered panes ks ++ below) (drop_more listed n 0 in_list) ∙ first-numbered panes k (drop (n + 1) listed) at.0 below at.1))
          ∙ c.loop-k.invariant.shown background below j x down across;
    }
