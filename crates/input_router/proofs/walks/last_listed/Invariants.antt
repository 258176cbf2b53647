use Rattle.std.proofs.Common.{◌≡◌, Bool, take}
use Rattle.desk_laws.specs.Layers.{last_that}
use Rattle.desk_laws.specs.declared.row_id.RowId.{RowId}
use Rattle.input_router.specs.Walks.{is_wanted}
use Rattle.input_router.proofs.walks.last_listed.Given as goal

-- what is still to be searched has what all have
abbrev pub invariant-loop-left : goal.invariant-loop-left
invariant-loop-left g l =
    let test : RowId → Bool = λ id. is_wanted l.wanted (g.Q.Places.spots l.places id) in
    last_that test (take l.left l.stack.layers.focus) ≡ last_that test l.stack.layers.focus

abbrev pub decreases-loop-left : goal.decreases-loop-left
decreases-loop-left g l = l.left
