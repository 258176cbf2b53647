use Rattle.std.proofs.Common.{◌≡◌, ◌∙◌, ◌-◌, length, take, drop, replicate, get_or, ap, arith, length-take, length-drop}
use Rattle.std.proofs.lemmas.Bool.Decides.{nat_tests}
use borrow.Rule.Slice.PartMut.{put_mid}
use Rattle.compositor.proofs.DrawLemmas.{filled-at}
use Rattle.compositor.proofs.draw.fill.Goals as goal

pub returns-then-from-end : goal.returns-then-from-end
returns-then-from-end c = λ x below.
    let xs = c.args.row.now in
    let a = c.args.from in
    let e = c.args.end in
    let size : length (take (e - a) (drop a xs)) ≡ e - a = omega (arith, length-take (e - a) (drop a xs), length-drop a xs) in
    let filled : c.fill.new.self ≡ replicate (e - a) c.args.colour = c.fill.ensures.after (λ y is. is) ∙ ap (λ n. replicate n c.args.colour) size in
    ap (λ ys. get_or (put_mid a (e - a) xs ys) x 0) filled ∙ filled-at xs a e c.args.colour x c.requires.order c.requires.inside below

pub returns-else-from-end : goal.returns-else-from-end
returns-else-from-end c = λ x below. grind (arith, nat_tests, c.if-from-end.false)
