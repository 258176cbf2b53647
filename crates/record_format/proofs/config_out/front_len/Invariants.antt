use Rattle.std.proofs.Common.{◌≡◌, ◌+◌, ◌*◌, ◌≤◌, length, take}
use Rattle.std.specs.List.{sum_by}
use Rattle.record_format.proofs.config_out.front_len.Given as goal

abbrev pub invariant-loop-guest : goal.invariant-loop-guest
invariant-loop-guest l = record {
  so_far : l.size ≡ 34 + sum_by (λ g. 5 + length g.name) (take l.guest-index l.guests);
  small : l.size ≤ 34 + 260 * l.guest-index;
}
