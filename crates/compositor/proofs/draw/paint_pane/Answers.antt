use Rattle.std.proofs.Common.{◌≡◌, arith, ap, sym, ◌∙◌, if◌then◌else◌, slice_index, to_z, of_z, w32}
use Rattle.std.specs.Prelude.{◌&&◌, not, ℤ}
use Rattle.std.proofs.lemmas.Int.{ints}
use Rattle.gui_num.specs.Rects.{has, nat_of, right}
use Rattle.region_clip.specs.Spans.{in_columns, in_spans}
use Rattle.compositor.specs.declared.panes.PaneView.{PaneView}
use Rattle.compositor.specs.Composed.{pane_colour, at_pixel}
use Rattle.compositor.proofs.DrawLemmas.{outer-in, with_row, no_row, kept-left, kept-row, view-is}
use Rattle.compositor.proofs.draw.paint_pane.Goals as goal

abbrev z : ℤ → ℤ
z n = to_z w32 (of_z w32 n)

pub returns-then-in_row-clause-left : goal.returns-then-in_row-clause-left
returns-then-in_row-clause-left g c = λ pane is x.
    let v = c.args.place.now in
    let e = view-is (g.Q.Panes.panes c.args.panes.now) c.args.k pane v is c.requires.view in
    let x0 : c.column-x0.result ≡ nat_of v.outer.x = (let k : z v.outer.x ≡ v.outer.x = omega (arith, ints) in c.column-x0.ensures ∙ ap nat_of k) in
    c.cut.ensures.columns x
    ∙ ap (λ b. in_spans c.args.spans.now.spans x && not b)
    (ap (λ n. in_columns n c.right_column-x1.result x) x0 ∙ ap (λ n. in_columns (nat_of v.outer.x) n x) c.right_column-x1.ensures ∙ outer-in v.outer.x (right v.outer) x ∙ with_row _ _ c.if-in_row.ensures
    ∙ ap (λ (u : PaneView). has u.outer (at_pixel x c.args.y)) e)

pub returns-then-in_row-clause-row : goal.returns-then-in_row-clause-row
returns-then-in_row-clause-row g c = λ pane is x below.
    let v = c.args.place.now in
    let e = view-is (g.Q.Panes.panes c.args.panes.now) c.args.k pane v is c.requires.view in
    let x0 : c.column-x0.result ≡ nat_of v.outer.x = (let k : z v.outer.x ≡ v.outer.x = omega (arith, ints) in c.column-x0.ensures ∙ ap nat_of k) in
    let colour = pane_colour pane (at_pixel x c.args.y) in
    let old = slice_index c.args.row.now x in
    c.draw_spans.ensures pane is x below
    ∙ ap (λ b. if b then colour else old) (c.spans_in.ensures.columns x)
    ∙ ap (λ b. if in_spans c.args.spans.now.spans x && b then colour else old)
    (ap (λ n. in_columns n c.right_column-x1.result x) x0 ∙ ap (λ n. in_columns (nat_of v.outer.x) n x) c.right_column-x1.ensures ∙ outer-in v.outer.x (right v.outer) x ∙ with_row _ _ c.if-in_row.ensures
    ∙ ap (λ (u : PaneView). has u.outer (at_pixel x c.args.y)) e)

pub returns-else-in_row-clause-left : goal.returns-else-in_row-clause-left
returns-else-in_row-clause-left g c = λ pane is x.
    let e = view-is (g.Q.Panes.panes c.args.panes.now) c.args.k pane c.args.place.now is c.requires.view in
    kept-left (in_spans c.args.spans.now.spans x) (has pane.view.outer (at_pixel x c.args.y))
    (sym (ap (λ (u : PaneView). has u.outer (at_pixel x c.args.y)) e) ∙ no_row _ _ c.if-in_row.ensures)

pub returns-else-in_row-clause-row : goal.returns-else-in_row-clause-row
returns-else-in_row-clause-row g c = λ pane is x below.
    let e = view-is (g.Q.Panes.panes c.args.panes.now) c.args.k pane c.args.place.now is c.requires.view in
    kept-row (in_spans c.args.spans.now.spans x) (has pane.view.outer (at_pixel x c.args.y)) (pane_colour pane (at_pixel x c.args.y)) (slice_index c.args.row.now x)
    (sym (ap (λ (u : PaneView). has u.outer (at_pixel x c.args.y)) e) ∙ no_row _ _ c.if-in_row.ensures)
