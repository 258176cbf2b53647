use Rattle.std.proofs.Common.{◌≡◌, vec_capacity}
use Rattle.tile_store.specs.Kept.{tile_in, stays}
use Rattle.tile_store.proofs.SweepLemmas.{ClosedUp}
use Rattle.tile_store.proofs.shelf.close_up.Given as goal

abbrev pub invariant-loop-i : goal.invariant-loop-i
invariant-loop-i l =
    ClosedUp (λ e. stays l.all l.slot (tile_in l.squares e)) l.fn.held.items l.held.items l.fn.spare.items l.spare.items l.kept l.i
    × (vec_capacity l.held ≡ vec_capacity l.fn.held)
    × (vec_capacity l.spare ≡ vec_capacity l.fn.spare)
