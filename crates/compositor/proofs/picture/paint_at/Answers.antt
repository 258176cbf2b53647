use Rattle.std.proofs.Common.{◌≡◌, ◌+◌, ◌-◌, ◌*◌, ◌++◌, length, take, drop, get_or, arith, ap, sym, ◌∙◌, if◌then◌else◌, length-take, length-drop}
use Rattle.std.proofs.Math.Nat.{mul-le-mul_right}
use Rattle.compositor.specs.Composed.{colour_by, composed, is_in, at_pixel}
use Rattle.compositor.specs.Bands.{numbered}
use Rattle.compositor.proofs.DrawLemmas.{put-in, taken-at}
use Rattle.compositor.proofs.RowLemmas.{row_before, band_place}
use Rattle.compositor.proofs.picture.paint_at.Goals as goal

pub returns-clause-here : goal.returns-clause-here
returns-clause-here g c = λ x y across low high.
    let w = c.args.width in
    let top = c.args.top in
    let xs = c.args.pixels.now in
    let order = mul-le-mul_right w c.requires.order in
    let above = mul-le-mul_right w low in
    let long : length c.paint_band.new.pixels ≡ c.args.bottom * w - top * w =
    omega (arith, c.paint_band.auto.pixels, length-take (c.args.bottom * w - top * w) (drop (top * w) xs), length-drop (top * w) xs, order, c.requires.inside) in
    let row : top + (y - top) ≡ y = omega (arith, low) in
    let panes = g.Q.Panes.panes c.args.panes.now in
    let some = numbered panes c.args.listed.now ++ drop c.args.rest panes in
    let outputs = c.args.outputs.now in
    let part = take (c.args.bottom * w - top * w) (drop (top * w) xs) in
    let stays : get_or part ((y - top) * w + x) 0 ≡ get_or xs (y * w + x) 0 =
    ap (λ n. get_or part n 0) (sym (band_place w top y x low))
    ∙ taken-at xs (top * w) (c.args.bottom * w) (y * w + x) (omega (arith, above)) (row_before w x y c.args.bottom across high) in
    put-in xs c.paint_band.new.pixels (top * w) (c.args.bottom * w) (y * w + x) (omega (arith, above)) (row_before w x y c.args.bottom across high) c.requires.inside long
    ∙ ap (λ n. get_or c.paint_band.new.pixels n 0) (band_place w top y x low)
    ∙ c.paint_band.ensures.pixels (y - top) x (omega (arith, low, high, length-take (c.args.bottom - top) c.args.rows.now, c.requires.band)) across
    ∙ ap (λ n. if is_in outputs (at_pixel x n) then composed c.args.background some (at_pixel x n) else get_or part ((y - top) * w + x) 0) row
    ∙ ap (λ o. if is_in outputs (at_pixel x y) then colour_by c.args.background o (at_pixel x y) else get_or part ((y - top) * w + x) 0) (c.requires.same x y low high)
    ∙ ap (λ n. if is_in outputs (at_pixel x y) then composed c.args.background panes (at_pixel x y) else n) stays
