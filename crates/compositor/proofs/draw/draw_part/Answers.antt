use Rattle.std.proofs.Common.{◌≡◌, ◌<◌, ◌≤◌, ◌+◌, ◌-◌, arith, ap, ◌∙◌, slice_index, pos, to_z, of_z, w32, subst}
use Rattle.std.specs.Prelude.{ℤ, ◌-ℤ◌}
use Rattle.std.proofs.lemmas.Int.{ints}
use Rattle.gui_num.specs.Rects.{nat_of}
use Rattle.region_clip.specs.Spans.{in_columns}
use Rattle.compositor.specs.declared.panes.PaneView.{PaneView}
use Rattle.compositor.specs.Composed.{colour_or}
use Rattle.compositor.proofs.DrawLemmas.{same_in, shifted, at_least, view-is, in-width, in-height}
use Rattle.compositor.proofs.draw.draw_part.Goals as goal

abbrev z : ℤ → ℤ
z n = to_z w32 (of_z w32 n)

pub draw_content-requires-clause-small : goal.draw_content-requires-clause-small
draw_content-requires-clause-small g c =
    let content = c.args.view.now.content in
    let t = c.if-from-end.true in
    let e : c.behind-column.result ≡ nat_of (pos c.args.from -ℤ content.x) = (let k : z content.x ≡ content.x = omega (arith, ints) in c.behind-column.ensures ∙ ap (λ n. nat_of (pos c.args.from -ℤ n)) k) in
    let w = in-width content.x content.w c.args.from c.args.end c.behind-column.result (c.requires.left t) c.requires.order (c.requires.right t) e in
    omega (arith, w, c.requires.fit.w_small)

pub draw_content-requires-clause-content : goal.draw_content-requires-clause-content
draw_content-requires-clause-content g c = λ pane is.
    let content = c.args.view.now.content in
    let t = c.if-from-end.true in
    let e : c.behind-column.result ≡ nat_of (pos c.args.from -ℤ content.x) = (let k : z content.x ≡ content.x = omega (arith, ints) in c.behind-column.ensures ∙ ap (λ n. nat_of (pos c.args.from -ℤ n)) k) in
    let d : c.behind-down.result ≡ nat_of (pos c.args.y -ℤ content.y) = (let k : z content.y ≡ content.y = omega (arith, ints) in c.behind-down.ensures ∙ ap (λ n. nat_of (pos c.args.y -ℤ n)) k) in
    subst (λ (v : PaneView). (c.behind-column.result + (c.args.end - c.args.from) ≤ v.content.w) × (c.behind-down.result < v.content.h))
    (view-is (g.Q.Panes.panes c.args.panes.now) c.args.k pane c.args.view.now is c.requires.view) (
      in-width content.x content.w c.args.from c.args.end c.behind-column.result (c.requires.left t) c.requires.order (c.requires.right t) e,
      in-height content.y content.h c.args.y c.behind-down.result c.requires.reached d,
    )

pub returns-then-from-end : goal.returns-then-from-end
returns-then-from-end g c = λ pane is x below.
    let content = c.args.view.now.content in
    let t = c.if-from-end.true in
    let e : c.behind-column.result ≡ nat_of (pos c.args.from -ℤ content.x) = (let k : z content.x ≡ content.x = omega (arith, ints) in c.behind-column.ensures ∙ ap (λ n. nat_of (pos c.args.from -ℤ n)) k) in
    let d : c.behind-down.result ≡ nat_of (pos c.args.y -ℤ content.y) = (let k : z content.y ≡ content.y = omega (arith, ints) in c.behind-down.ensures ∙ ap (λ n. nat_of (pos c.args.y -ℤ n)) k) in
    c.draw_content.ensures pane is x below
    ∙ same_in (in_columns c.args.from c.args.end x) _ _ (slice_index c.args.row.now x) (λ u.
    ap (λ n. colour_or 0x808080 (pane.content n c.behind-down.result)) (shifted content.x c.args.from x c.behind-column.result (c.requires.left t) (at_least c.args.from c.args.end x u) e)
    ∙ ap (λ n. colour_or 0x808080 (pane.content (nat_of (pos x -ℤ content.x)) n)) d
    ∙ ap (λ (v : PaneView). colour_or 0x808080 (pane.content (nat_of (pos x -ℤ v.content.x)) (nat_of (pos c.args.y -ℤ v.content.y))))
    (view-is (g.Q.Panes.panes c.args.panes.now) c.args.k pane c.args.view.now is c.requires.view))
