use Rattle.std.proofs.Common.{◌-◌, ◌<◌, ◌≤◌, length, get_or}
use Rattle.window_table.specs.declared.index.Key.{Key}
use Rattle.window_table.proofs.index.place_for.Given as goal

abbrev pub invariant-loop-low : goal.invariant-loop-low
invariant-loop-low l =
    (l.low ≤ l.high)
    × (l.high ≤ length l.keys)
    × ((d : Key) → 0 < l.low → (get_or l.keys (l.low - 1) d).window < l.window)
    × ((d : Key) → l.high < length l.keys → l.window ≤ (get_or l.keys l.high d).window)

abbrev pub decreases-loop-low : goal.decreases-loop-low
decreases-loop-low l = l.high - l.low
