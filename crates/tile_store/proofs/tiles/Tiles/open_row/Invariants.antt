use Rattle.std.proofs.Common.{◌≡◌, ◌-◌}
use Rattle.tile_store.specs.Held.{opened, places_in_row}
use Rattle.tile_store.proofs.OpenLemmas.{Opening}
use Rattle.tile_store.proofs.tiles.Tiles.open_row.Given as goal

abbrev pub invariant-loop-column : goal.invariant-loop-column
invariant-loop-column l =
    Opening l.slot l.fn.self.number (places_in_row l.row l.column (l.to - l.column)) l.self.held
    (opened l.slot (places_in_row l.row l.from (l.to - l.from)) l.fn.self.held)
    × (l.self.number ≡ l.fn.self.number)
