use Rattle.std.proofs.Common.{◌≡◌, Bool, ◌++◌, drop, reverse}
use Rattle.std.specs.Prelude.{find}
use Rattle.desk_laws.specs.declared.row_id.RowId.{RowId}
use Rattle.input_router.specs.Spots.{is_under}
use Rattle.input_router.proofs.walks.top_at.Given as goal

-- what is still to be searched has what all have
abbrev pub invariant-loop-k : goal.invariant-loop-k
invariant-loop-k g l =
    let test : RowId → Bool = λ id. is_under l.p (g.Q.Places.spots l.places id) in
    let ids = reverse (l.stack.layers.normal ++ l.stack.layers.over) in
    find test (drop l.k ids) ≡ find test ids
