use Rattle.std.proofs.Common.{◌≡◌, Bool, drop}
use Rattle.std.specs.Prelude.{find}
use Rattle.desk_laws.specs.declared.row_id.RowId.{RowId}
use Rattle.input_router.specs.Walks.{is_wanted}
use Rattle.input_router.proofs.walks.first_listed.Given as goal

-- what is still to be searched has what all have
abbrev pub invariant-loop-k : goal.invariant-loop-k
invariant-loop-k g l =
    let test : RowId → Bool = λ id. is_wanted l.wanted (g.Q.Places.spots l.places id) in
    find test (drop l.k l.stack.layers.focus) ≡ find test l.stack.layers.focus
