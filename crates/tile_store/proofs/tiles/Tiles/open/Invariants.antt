use Rattle.std.proofs.Common.{◌≡◌, ◌-◌}
use Rattle.desk_laws.specs.Rows.{grid}
use Rattle.tile_store.specs.Held.{opened, tiles_met}
use Rattle.tile_store.proofs.OpenLemmas.{Opening}
use Rattle.tile_store.proofs.tiles.Tiles.open.Given as goal

abbrev pub invariant-loop-row : goal.invariant-loop-row
invariant-loop-row l =
    Opening l.slot l.fn.self.number (grid l.from l.row (l.to - l.from) (l.below - l.row)) l.self.held
    (opened l.slot (tiles_met l.fn.r) l.fn.self.held)
    × (l.self.number ≡ l.fn.self.number)
