use Rattle.std.proofs.Common.{◌-◌, Bool, sym, ◌∙◌, ap, arith}
use Rattle.desk_laws.specs.declared.row_id.RowId.{RowId}
use Rattle.desk_laws.specs.Layers.{last_that}
use Rattle.input_router.specs.Walks.{is_wanted}
use Rattle.input_router.proofs.WalkLemmas.{last-hit, last-miss, last-in, last-none, take-whole}
use Rattle.input_router.proofs.walks.last_listed.Goals as goal

pub loop-left-init : goal.loop-left-init
loop-left-init g c =
    let test : RowId → Bool = λ id. is_wanted c.args.wanted (g.Q.Places.spots c.args.places.now id) in
    ap (last_that test) (take-whole c.args.stack.now.layers.focus _ (omega (arith, c.len-left.ensures.is)))

pub returns-in-Some-clause-is : goal.returns-in-Some-clause-is
returns-in-Some-clause-is g c =
    let test : RowId → Bool = λ id. is_wanted c.args.wanted (g.Q.Places.spots c.args.places.now id) in
    sym (last-hit test c.args.stack.now.layers.focus _ c.loop-left.left c.in-Some.id (omega arith) c.loop-left.invariant (sym c.wanted_at.ensures ∙ c.in-Some.is))

pub returns-in-Some-clause-listed : goal.returns-in-Some-clause-listed
returns-in-Some-clause-listed g c =
    let test : RowId → Bool = λ id. is_wanted c.args.wanted (g.Q.Places.spots c.args.places.now id) in
    last-in test c.args.stack.now.layers.focus c.in-Some.id
    (last-hit test c.args.stack.now.layers.focus (c.loop-left.left - 1) c.loop-left.left c.in-Some.id (omega arith) c.loop-left.invariant (sym c.wanted_at.ensures ∙ c.in-Some.is))

pub loop-left-preserved : goal.loop-left-preserved
loop-left-preserved g c =
    let test : RowId → Bool = λ id. is_wanted c.args.wanted (g.Q.Places.spots c.args.places.now id) in
    last-miss test c.args.stack.now.layers.focus _ c.loop-left.left (omega arith) c.loop-left.invariant (sym c.wanted_at.ensures ∙ c.in_default.is)

pub returns-clause-is : goal.returns-clause-is
returns-clause-is g c =
    let test : RowId → Bool = λ id. is_wanted c.args.wanted (g.Q.Places.spots c.args.places.now id) in
    last-none test c.args.stack.now.layers.focus c.loop-left.left c.loop-left.invariant c.loop-left-test.false
