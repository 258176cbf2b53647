use Rattle.std.proofs.Common.{◌≡◌, ◌-◌, ◌<◌, ◌≤◌, true, false, length, get_or}
use Rattle.tile_store.specs.declared.shelf.Entry.{Entry}
use Rattle.tile_store.specs.Spots.{before}
use Rattle.tile_store.proofs.shelf.place_for.Given as goal

abbrev pub invariant-loop-low : goal.invariant-loop-low
invariant-loop-low l =
    (l.low ≤ l.high)
    × (l.high ≤ length l.held)
    × ((d : Entry) → 0 < l.low → before (get_or l.held (l.low - 1) d).spot l.spot ≡ true)
    × ((d : Entry) → l.high < length l.held → before (get_or l.held l.high d).spot l.spot ≡ false)

abbrev pub decreases-loop-low : goal.decreases-loop-low
decreases-loop-low l = l.high - l.low
