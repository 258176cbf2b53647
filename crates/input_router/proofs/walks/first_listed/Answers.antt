use Rattle.std.proofs.Common.{Bool, sym, ◌∙◌, refl, arith}
use Rattle.desk_laws.specs.declared.row_id.RowId.{RowId}
use Rattle.input_router.specs.Walks.{is_wanted}
use Rattle.input_router.proofs.WalkLemmas.{find-hit, find-miss, find-none, find-in}
use Rattle.input_router.proofs.walks.first_listed.Goals as goal

pub loop-k-init : goal.loop-k-init
loop-k-init g c = refl

pub returns-in-Some-clause-is : goal.returns-in-Some-clause-is
returns-in-Some-clause-is g c =
    let test : RowId → Bool = λ id. is_wanted c.args.wanted (g.Q.Places.spots c.args.places.now id) in
    sym (find-hit test c.args.stack.now.layers.focus c.loop-k.k c.in-Some.id c.loop-k.invariant (sym c.wanted_at.ensures ∙ c.in-Some.is))

pub returns-in-Some-clause-listed : goal.returns-in-Some-clause-listed
returns-in-Some-clause-listed g c =
    let test : RowId → Bool = λ id. is_wanted c.args.wanted (g.Q.Places.spots c.args.places.now id) in
    find-in test c.args.stack.now.layers.focus c.in-Some.id (find-hit test c.args.stack.now.layers.focus c.loop-k.k c.in-Some.id c.loop-k.invariant (sym c.wanted_at.ensures ∙ c.in-Some.is))

pub loop-k-preserved : goal.loop-k-preserved
loop-k-preserved g c =
    let test : RowId → Bool = λ id. is_wanted c.args.wanted (g.Q.Places.spots c.args.places.now id) in
    find-miss test c.args.stack.now.layers.focus c.loop-k.k _ (omega arith) c.loop-k.invariant (sym c.wanted_at.ensures ∙ c.in_default.is)

pub returns-clause-is : goal.returns-clause-is
returns-clause-is g c =
    let test : RowId → Bool = λ id. is_wanted c.args.wanted (g.Q.Places.spots c.args.places.now id) in
    find-none test c.args.stack.now.layers.focus c.loop-k.k c.loop-k.invariant (omega (arith, c.len-k-end.ensures.is))
