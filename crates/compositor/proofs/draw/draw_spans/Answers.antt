use Rattle.std.proofs.Common.{length, arith, ap, sym, refl, ◌∙◌, if◌then◌else◌, slice_index, subst}
use Rattle.std.specs.Prelude.{◌&&◌}
use Rattle.region_clip.specs.Spans.{in_columns, in_spans, AreApart}
use Rattle.compositor.specs.Composed.{pane_colour, at_pixel}
use Rattle.compositor.proofs.DrawLemmas.{apart-within, within-first, draw-first}
use Rattle.compositor.proofs.draw.draw_spans.Goals as goal

pub loop-start-init : goal.loop-start-init
loop-start-init g c = record {
  within = apart-within 0 (length c.args.row.now) c.into_iter-start-iterator.result (subst (AreApart 0 (length c.args.row.now)) (sym c.into_iter-start-iterator.ensures.into_iter_gives) c.requires.apart);
  drawn = λ pane is x below. refl;
}

pub draw_pane-requires-clause-inside : goal.draw_pane-requires-clause-inside
draw_pane-requires-clause-inside g c =
    let w = within-first (length c.args.row.now) c.loop-start.start-iterator c.next.new.self (c.in-Some.start, c.in-Some.end) c.loop-start.invariant.within c.in-Some.ensures.steps in
    omega (arith, w.0, w.1)

pub draw_pane-requires-clause-small : goal.draw_pane-requires-clause-small
draw_pane-requires-clause-small g c =
    let w = within-first (length c.args.row.now) c.loop-start.start-iterator c.next.new.self (c.in-Some.start, c.in-Some.end) c.loop-start.invariant.within c.in-Some.ensures.steps in
    omega (arith, w.0, w.1)

pub loop-start-preserved : goal.loop-start-preserved
loop-start-preserved g c =
    let w = within-first (length c.args.row.now) c.loop-start.start-iterator c.next.new.self (c.in-Some.start, c.in-Some.end) c.loop-start.invariant.within c.in-Some.ensures.steps in
    record {
      within = w.2;
      drawn = λ pane is x below.
          draw-first c.loop-start.start-iterator c.next.new.self (c.in-Some.start, c.in-Some.end) c.args.x0 c.args.x1 c.min-from.result c.max-until.result x
          (slice_index c.loop-start.row x) (slice_index c.draw_pane.new.row x) (pane_colour pane (at_pixel x c.args.y))
          (if in_spans c.into_iter-start-iterator.result x && in_columns c.args.x0 c.args.x1 x then pane_colour pane (at_pixel x c.args.y) else slice_index c.args.row.now x)
          c.in-Some.ensures.steps w.0 (omega arith) (omega arith) (c.draw_pane.ensures pane is x (omega arith)) (c.loop-start.invariant.drawn pane is x below);
    }

pub returns : goal.returns
returns g c = λ pane is x below.
    let f = pane_colour pane (at_pixel x c.args.y) in
    let w = in_columns c.args.x0 c.args.x1 x in
    sym (ap (λ ss. if in_spans ss x && w then f else slice_index c.loop-start.row x) c.in-None.ensures.steps.0)
    ∙ c.loop-start.invariant.drawn pane is x below
    ∙ ap (λ ss. if in_spans ss x && w then f else slice_index c.args.row.now x) c.into_iter-start-iterator.ensures.into_iter_gives
