use Rattle.std.proofs.Common.{◌≡◌, false, arith, ap, sym, ◌∙◌, if◌then◌else◌, slice_index, min, max, pos, to_z, of_z, w32}
use Rattle.std.specs.Prelude.{ℤ}
use Rattle.std.proofs.lemmas.Int.{ints}
use Rattle.gui_num.specs.Rects.{has, nat_of, right}
use Rattle.region_clip.specs.Spans.{in_columns}
use Rattle.label_border.specs.Rings.{has_at}
use Rattle.compositor.specs.declared.panes.PaneView.{PaneView}
use Rattle.compositor.specs.Composed.{content_under, at_pixel}
use Rattle.compositor.proofs.DrawLemmas.{content-in, three, view-is, columns-are}
use Rattle.compositor.proofs.draw.draw_pane.Goals as goal

abbrev z : ℤ → ℤ
z n = to_z w32 (of_z w32 n)

pub returns-in-Some : goal.returns-in-Some
returns-in-Some g c = λ pane is x below.
    let v = c.args.view.now in
    let e = view-is (g.Q.Panes.panes c.args.panes.now) c.args.k pane v is c.requires.view in
    let columns = columns-are v.content (to_z w32 c.args.y) c.in-Some.first c.in-Some.past (sym c.ring_row.ensures.is ∙ c.in-Some.is) in
    let first : c.in-Some.first ≡ v.content.x = columns.0 in
    let past : c.in-Some.past ≡ right v.content = columns.1 in
    let f : z c.in-Some.first ≡ c.in-Some.first = omega (arith, ints, first) in
    let p : z c.in-Some.past ≡ c.in-Some.past = omega (arith, ints, past) in
    let y : to_z w32 c.args.y ≡ pos c.args.y = omega (arith, ints) in
    let left : c.min-left.result ≡ min (max (nat_of c.in-Some.first) c.args.from) c.args.end =
    c.min-left.ensures ∙ ap (λ n. min n c.args.end) (c.max.ensures ∙ ap (λ n. max n c.args.from) (c.column.ensures ∙ ap nat_of f)) in
    let end : c.min-right.result ≡ min (max (nat_of c.in-Some.past) c.min-left.result) c.args.end =
    c.min-right.ensures ∙ ap (λ n. min n c.args.end) (c.max-in-Some.ensures ∙ ap (λ n. max n c.min-left.result) (c.column-in-Some.ensures ∙ ap nat_of p)) in
    three c.args.from c.args.end c.min-left.result c.min-right.result x v.colour.0 (content_under pane (at_pixel x c.args.y))
    (slice_index c.args.row.now x) (slice_index c.fill.new.row x) (slice_index c.draw_part.new.row x) (slice_index c.fill-in-Some.new.row x) (has v.content (at_pixel x c.args.y))
    (omega arith) (omega arith) (omega arith) (c.fill.ensures x below) (c.draw_part.ensures pane is x (omega arith)) (c.fill-in-Some.ensures x (omega arith))
    (λ t. content-in c.in-Some.first c.in-Some.past c.args.from c.args.end c.min-left.result c.min-right.result x t left end ∙ sym (c.in-Some.ensures.columns (pos x)) ∙ ap (λ n. has_at v.content (pos x) n) y)
    ∙ ap (λ (u : PaneView). if in_columns c.args.from c.args.end x then (if has u.content (at_pixel x c.args.y) then content_under pane (at_pixel x c.args.y) else u.colour.0) else slice_index c.args.row.now x) e

pub returns-in_default : goal.returns-in_default
returns-in_default g c = λ pane is x below.
    let v = c.args.view.now in
    let e = view-is (g.Q.Panes.panes c.args.panes.now) c.args.k pane v is c.requires.view in
    let none : has v.content (at_pixel x c.args.y) ≡ false =
    (let y : to_z w32 c.args.y ≡ pos c.args.y = omega (arith, ints) in sym (ap (λ n. has_at v.content (pos x) n) y) ∙ c.in_default.ensures.columns (pos x)) in
    c.fill-in_default.ensures x below
    ∙ ap (λ b. if in_columns c.args.from c.args.end x then (if b then content_under pane (at_pixel x c.args.y) else v.colour.0) else slice_index c.args.row.now x) (sym none)
    ∙ ap (λ (u : PaneView). if in_columns c.args.from c.args.end x then (if has u.content (at_pixel x c.args.y) then content_under pane (at_pixel x c.args.y) else u.colour.0) else slice_index c.args.row.now x) e
