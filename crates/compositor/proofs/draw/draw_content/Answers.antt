use Rattle.std.proofs.Common.{◌≡◌, ◌+◌, ◌-◌, length, take, drop, arith, length-take, length-drop}
use Rattle.compositor.specs.Composed.{colour_or}
use Rattle.compositor.proofs.DrawLemmas.{drawn-at}
use Rattle.compositor.proofs.draw.draw_content.Goals as goal

pub returns : goal.returns
returns g c = λ pane is i below.
    let xs = c.args.row.now in
    let a = c.args.from in
    let e = c.args.end in
    let size : length (take (e - a) (drop a xs)) ≡ e - a = omega (arith, length-take (e - a) (drop a xs), length-drop a xs) in
    drawn-at (λ n. colour_or 0x808080 (pane.content (c.args.x + n) c.args.y)) xs c.content_row.new.out a e i c.requires.order c.requires.inside (omega (arith, c.content_row.auto.out, size)) below
    (λ j near. c.content_row.ensures pane is j (omega (arith, near, size)))
