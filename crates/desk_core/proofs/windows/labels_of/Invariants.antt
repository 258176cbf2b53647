use Rattle.std.proofs.Common.{◌≡◌, ◌≤◌, length, map, take, vec_capacity}
use Rattle.desk_core.proofs.windows.labels_of.Given as goal

abbrev pub invariant-loop-guest : goal.invariant-loop-guest
invariant-loop-guest l =
    (l.labels.items ≡ map (λ g. g.colour) (take l.guest-index l.guests)) × (length l.guests ≤ vec_capacity l.labels)
