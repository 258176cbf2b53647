use Rattle.std.proofs.Common.{◌-◌, ap, ◌∙◌, take, drop, max}
use Rattle.region_clip.specs.Spans.{begun_before}
use Rattle.region_clip.proofs.SpanLemmas.{from_to, met-is}
use Rattle.region_clip.proofs.row_spans.met_by.Goals as goal

pub returns : goal.returns
returns c =
    let spans = c.args.spans.now in
    let past = c.max-past.ensures ∙ ap (λ n. max n c.count_left-first.result) c.count_before.ensures.is in
    ap (λ n. take (n - c.count_left-first.result) (drop c.count_left-first.result spans)) past
    ∙ ap (λ n. from_to n (begun_before c.args.x1 spans) spans) c.count_left-first.ensures.is
    ∙ met-is c.args.x0 c.args.x1 0 c.args.width spans c.requires
