use Rattle.std.proofs.Common.{length, arith, ap, sym, refl, ◌∙◌, if◌then◌else◌, slice_index, subst}
use Rattle.region_clip.specs.Spans.{in_spans, AreApart}
use Rattle.compositor.proofs.DrawLemmas.{apart-within, within-first, fill-first}
use Rattle.compositor.proofs.draw.fill_spans.Goals as goal

pub loop-start-init : goal.loop-start-init
loop-start-init c = record {
  within = apart-within 0 (length c.args.row.now) c.into_iter-start-iterator.result (subst (AreApart 0 (length c.args.row.now)) (sym c.into_iter-start-iterator.ensures.into_iter_gives) c.requires);
  filled = λ x below. refl;
}

pub fill-requires-clause-order : goal.fill-requires-clause-order
fill-requires-clause-order c =
    let w = within-first (length c.args.row.now) c.loop-start.start-iterator c.next.new.self (c.in-Some.start, c.in-Some.end) c.loop-start.invariant.within c.in-Some.ensures.steps in
    omega (arith, w.0)

pub fill-requires-clause-inside : goal.fill-requires-clause-inside
fill-requires-clause-inside c =
    let w = within-first (length c.args.row.now) c.loop-start.start-iterator c.next.new.self (c.in-Some.start, c.in-Some.end) c.loop-start.invariant.within c.in-Some.ensures.steps in
    omega (arith, w.1)

pub loop-start-preserved : goal.loop-start-preserved
loop-start-preserved c =
    let w = within-first (length c.args.row.now) c.loop-start.start-iterator c.next.new.self (c.in-Some.start, c.in-Some.end) c.loop-start.invariant.within c.in-Some.ensures.steps in
    record {
      within = w.2;
      filled = λ x below.
          fill-first c.loop-start.start-iterator c.next.new.self (c.in-Some.start, c.in-Some.end) x (slice_index c.loop-start.row x) (slice_index c.fill.new.row x) c.args.colour
          (if in_spans c.into_iter-start-iterator.result x then c.args.colour else slice_index c.args.row.now x)
          c.in-Some.ensures.steps (c.fill.ensures x (omega arith)) (c.loop-start.invariant.filled x below);
    }

pub returns : goal.returns
returns c = λ x below.
    let f = c.args.colour in
    sym (ap (λ ss. if in_spans ss x then f else slice_index c.loop-start.row x) c.in-None.ensures.steps.0)
    ∙ c.loop-start.invariant.filled x below
    ∙ ap (λ ss. if in_spans ss x then f else slice_index c.args.row.now x) c.into_iter-start-iterator.ensures.into_iter_gives
