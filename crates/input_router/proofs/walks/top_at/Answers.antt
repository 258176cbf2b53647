use Rattle.std.proofs.Common.{◌≤◌, ◌++◌, Bool, length, reverse, sym, ◌∙◌, refl, arith}
use Rattle.desk_laws.specs.declared.row_id.RowId.{RowId}
use Rattle.input_router.specs.Spots.{is_under}
use Rattle.input_router.proofs.WalkLemmas.{find-hit, find-miss, find-none, top-listed, stack-length}
use Rattle.input_router.proofs.walks.top_at.Goals as goal

pub loop-k-init : goal.loop-k-init
loop-k-init g c = refl

pub returns-in-Some-clause-is : goal.returns-in-Some-clause-is
returns-in-Some-clause-is g c =
    let test : RowId → Bool = λ id. is_under c.args.p (g.Q.Places.spots c.args.places.now id) in
    let ids = reverse (c.args.stack.now.layers.normal ++ c.args.stack.now.layers.over) in
    sym (find-hit test ids c.loop-k.k c.in-Some.id c.loop-k.invariant (sym c.under_at.ensures ∙ c.in-Some.is))

pub returns-in-Some-clause-listed : goal.returns-in-Some-clause-listed
returns-in-Some-clause-listed g c =
    let test : RowId → Bool = λ id. is_under c.args.p (g.Q.Places.spots c.args.places.now id) in
    let ids = reverse (c.args.stack.now.layers.normal ++ c.args.stack.now.layers.over) in
    top-listed test c.args.stack.now.layers c.in-Some.id c.len-k-end.ensures.once
    (find-hit test ids c.loop-k.k c.in-Some.id c.loop-k.invariant (sym c.under_at.ensures ∙ c.in-Some.is))

pub loop-k-preserved : goal.loop-k-preserved
loop-k-preserved g c =
    let test : RowId → Bool = λ id. is_under c.args.p (g.Q.Places.spots c.args.places.now id) in
    let ids = reverse (c.args.stack.now.layers.normal ++ c.args.stack.now.layers.over) in
    find-miss test ids c.loop-k.k _ (omega arith) c.loop-k.invariant (sym c.under_at.ensures ∙ c.in_default.is)

pub returns-clause-is : goal.returns-clause-is
returns-clause-is g c =
    let test : RowId → Bool = λ id. is_under c.args.p (g.Q.Places.spots c.args.places.now id) in
    let ids = reverse (c.args.stack.now.layers.normal ++ c.args.stack.now.layers.over) in
    let past : length ids ≤ c.loop-k.k = omega (arith, stack-length c.args.stack.now.layers c.len-k-end.ensures.once, c.len-k-end.ensures.is) in
    find-none test ids c.loop-k.k c.loop-k.invariant past
