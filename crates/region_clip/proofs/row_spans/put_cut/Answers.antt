use Rattle.std.proofs.Common.{◌≡◌, ◌+◌, ◌-◌, ◌++◌, ap, ◌∙◌, arith, take, drop, length}
use lib.Seq.{paste}
use Rattle.region_clip.specs.Spans.{keep}
use Rattle.region_clip.proofs.SpanLemmas.{keep-length, joined}
use Rattle.region_clip.proofs.row_spans.put_cut.Goals as goal

pub returns-clause-spans : goal.returns-clause-spans
returns-clause-spans c =
    let xs = c.args.places.now in
    let first = c.args.first in
    let past = c.args.past in
    let count = c.args.count in
    let l = keep c.args.left.0 c.args.left.1 in
    let r = keep c.args.right.0 c.args.right.1 in
    let behind : first + c.from.result + c.from-2.result ≡ first + length l + length r = grind (arith, c.from.ensures, c.from-2.ensures, keep-length) in
    let middle = c.put_at-middle.ensures.behind in
    let after : c.put_at.result ≡ first + length l + length r = c.put_at.ensures.behind ∙ ap (λ n. n + length r) middle in
    ap (λ n. take (n + (count - past)) c.put_at.new.places) after
    ∙ joined xs l r first past count c.requires.order c.requires.within c.requires.count c.requires.room c.copy_within.new.self c.put_at-middle.new.places c.put_at.new.places
    (c.copy_within.ensures.after ∙ ap (λ n. paste xs n (drop past xs) (count - past)) behind)
    c.put_at-middle.ensures.places
    (c.put_at.ensures.places ∙ ap (λ n. take n c.put_at-middle.new.places ++ (r ++ drop (n + length r) c.put_at-middle.new.places)) middle)
