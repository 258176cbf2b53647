use Rattle.std.proofs.Common.{◌≡◌, ap, sym, ◌∙◌, subst, take, nat_lt}
use Rattle.std.specs.Prelude.{◌&&◌}
use Rattle.region_clip.specs.Spans.{RowOf, in_columns, in_spans, meeting, AreApart}
use Rattle.region_clip.proofs.SpanLemmas.{apart-filter, met-columns}
use Rattle.region_clip.proofs.row_spans.RowSpans.spans_in.Goals as goal

pub returns-clause-apart : goal.returns-clause-apart
returns-clause-apart c =
    let inside = c.self.inside in
    let spans = take inside.count inside.places.items in
    let met : c.met_by.result.now ≡ meeting c.args.x0 c.args.x1 spans = c.met_by.ensures ∙ ap (λ ps. meeting c.args.x0 c.args.x1 (take inside.count ps)) c.deref.ensures.value in
    subst (λ (r : RowOf). AreApart 0 r.width c.met_by.result.now) c.self.view_is
    (subst (AreApart 0 inside.width) (sym met) (apart-filter (λ span. nat_lt c.args.x0 span.1 && nat_lt span.0 c.args.x1) 0 inside.width spans c.self.invariant.0))

pub returns-clause-columns : goal.returns-clause-columns
returns-clause-columns c = λ x.
    let inside = c.self.inside in
    let spans = take inside.count inside.places.items in
    let met : c.met_by.result.now ≡ meeting c.args.x0 c.args.x1 spans = c.met_by.ensures ∙ ap (λ ps. meeting c.args.x0 c.args.x1 (take inside.count ps)) c.deref.ensures.value in
    ap (λ ps. in_spans ps x && in_columns c.args.x0 c.args.x1 x) met ∙ met-columns c.args.x0 c.args.x1 spans x
    ∙ ap (λ (r : RowOf). in_spans r.spans x && in_columns c.args.x0 c.args.x1 x) c.self.view_is
