use Rattle.std.proofs.Common.{◌≡◌, ◌+◌, ◌++◌, ◌∷◌, [], suc, ap, sym, ◌∙◌, arith, take, drop, length}
use Rattle.std.proofs.lemmas.List.{set_split}
use Rattle.region_clip.proofs.SpanLemmas.{keep_some}
use Rattle.region_clip.proofs.row_spans.put_at.Goals as goal

pub returns-then-span-clause-places : goal.returns-then-span-clause-places
returns-then-span-clause-places c =
    let places = c.args.places.now in
    let at = c.args.at in
    let one = keep_some c.args.span.0 c.args.span.1 c.if-span.true in
    let on : suc at ≡ at + 1 = omega arith in
    set_split places at c.args.span (omega (arith, ap length one, c.requires))
    ∙ ap (λ n. take at places ++ (c.args.span ∷ [] ++ drop n places)) on
    ∙ sym (ap (λ ks. take at places ++ (ks ++ drop (at + length ks) places)) one)
