use Rattle.std.proofs.Common.{◌≡◌, ◌+◌, ◌-◌, ◌≤◌}
use Rattle.tile_store.specs.Held.{missing, places_in_row}
use Rattle.tile_store.specs.Kept.{laid}
use Rattle.tile_store.proofs.tiles.missing_in_row.Given as goal

abbrev pub invariant-loop-column : goal.invariant-loop-column
invariant-loop-column l =
    (l.count + missing l.slot (places_in_row l.row l.column (l.to - l.column)) (laid l.held) ≡ missing l.slot (places_in_row l.row l.from (l.to - l.from)) (laid l.held))
    × (l.count ≤ l.column - l.from)
