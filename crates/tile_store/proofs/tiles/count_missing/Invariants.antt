use Rattle.std.proofs.Common.{◌≡◌, ◌+◌, ◌-◌, ◌*◌, ◌≤◌}
use Rattle.desk_laws.specs.Rows.{grid}
use Rattle.tile_store.specs.Held.{missing}
use Rattle.tile_store.specs.Kept.{laid}
use Rattle.tile_store.proofs.tiles.count_missing.Given as goal

abbrev pub invariant-loop-row : goal.invariant-loop-row
invariant-loop-row l =
    (l.count + missing l.slot (grid l.from l.row (l.to - l.from) (l.below - l.row)) (laid l.held) ≡ missing l.slot (grid l.from l.top (l.to - l.from) (l.below - l.top)) (laid l.held))
    × (l.count ≤ 1024 * (l.row - l.top))
