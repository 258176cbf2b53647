use Rattle.std.proofs.Common.{◌≡◌, ◌++◌, ap, sym, ◌∙◌, subst, arith, take, drop, length, if◌then◌else◌}
use Rattle.std.specs.Prelude.{◌&&◌, not, flat_map}
use Rattle.std.proofs.lemmas.List.{take_at}
use Rattle.region_clip.specs.Spans.{RowOf, span_cut, cut_spans, in_columns, in_spans, AreApart}
use Rattle.region_clip.proofs.SpanLemmas.{is_lt, apart-cut, in_spans-cut_each}
use Rattle.region_clip.proofs.row_spans.RowSpans.cut.Goals as goal

pub invariant_of-self : goal.invariant_of-self
invariant_of-self c =
    let inside = c.self.inside in
    let put = c.cut_from-self-inside.new.places in
    let long : length put ≡ inside.places.len = omega (arith, c.cut_from-self-inside.auto.places, c.deref_mut.ensures.len) in
    let new : take c.cut_from-self-inside.result (take inside.places.len (put ++ drop (length put) inside.places.items)) ≡ flat_map (span_cut c.args.x0 c.args.x1) (take inside.count inside.places.items) =
    ap (take c.cut_from-self-inside.result) (take_at put (drop (length put) inside.places.items) inside.places.len long) ∙ c.cut_from-self-inside.ensures.spans
    ∙ ap (λ ps. cut_spans c.args.x0 c.args.x1 (take inside.count ps)) c.deref_mut.ensures.value
    ∙ ap (λ t. if t then flat_map (span_cut c.args.x0 c.args.x1) (take inside.count inside.places.items) else take inside.count inside.places.items) (is_lt c.args.x0 c.args.x1 c.if-x0-x1.true) in (
      subst (AreApart 0 inside.width) (sym new) (apart-cut c.args.x0 c.args.x1 0 inside.width (take inside.count inside.places.items) c.if-x0-x1.true c.self.invariant.0),
      omega (arith, c.cut_from-self-inside.ensures.count, c.deref_mut.ensures.len),
      c.self.invariant.2,
    )

pub returns-then-x0-x1-clause-columns : goal.returns-then-x0-x1-clause-columns
returns-then-x0-x1-clause-columns c = λ x.
    let inside = c.self.inside in
    let put = c.cut_from-self-inside.new.places in
    let long : length put ≡ inside.places.len = omega (arith, c.cut_from-self-inside.auto.places, c.deref_mut.ensures.len) in
    let new : take c.cut_from-self-inside.result (take inside.places.len (put ++ drop (length put) inside.places.items)) ≡ flat_map (span_cut c.args.x0 c.args.x1) (take inside.count inside.places.items) =
    ap (take c.cut_from-self-inside.result) (take_at put (drop (length put) inside.places.items) inside.places.len long) ∙ c.cut_from-self-inside.ensures.spans
    ∙ ap (λ ps. cut_spans c.args.x0 c.args.x1 (take inside.count ps)) c.deref_mut.ensures.value
    ∙ ap (λ t. if t then flat_map (span_cut c.args.x0 c.args.x1) (take inside.count inside.places.items) else take inside.count inside.places.items) (is_lt c.args.x0 c.args.x1 c.if-x0-x1.true) in
    ap (λ ps. in_spans ps x) new
    ∙ in_spans-cut_each c.args.x0 c.args.x1 (take inside.count inside.places.items) x c.if-x0-x1.true
    ∙ ap (λ (r : RowOf). in_spans r.spans x && not (in_columns c.args.x0 c.args.x1 x)) c.self.view_is
