use Rattle.std.proofs.Common.{◌≡◌, ◌-◌, ◌<◌, ◌≤◌, true, false, length, get_or}
use Rattle.stacking.specs.declared.index.Key.{Key}
use Rattle.stacking.specs.Keys.{before}
use Rattle.stacking.proofs.index.place_for.Given as goal

abbrev pub invariant-loop-low : goal.invariant-loop-low
invariant-loop-low l =
    (l.low ≤ l.high)
    × (l.high ≤ length l.keys)
    × ((d : Key) → 0 < l.low → before (get_or l.keys (l.low - 1) d).id l.id ≡ true)
    × ((d : Key) → l.high < length l.keys → before (get_or l.keys l.high d).id l.id ≡ false)

abbrev pub decreases-loop-low : goal.decreases-loop-low
decreases-loop-low l = l.high - l.low
