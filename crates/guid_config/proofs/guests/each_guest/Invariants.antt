use Rattle.std.proofs.Common.{◌≡◌, ◌++◌, option_map, drop}
use Rattle.toml.specs.View.{array_view, items_view}
use Rattle.guid_config.specs.Shape.{guest_of, each}
use Rattle.guid_config.proofs.guests.each_guest.Given as goal

-- those that were read, and then those that are left, are all
abbrev pub invariant-loop-item : goal.invariant-loop-item
invariant-loop-item l = each guest_of (array_view l.items) ≡ option_map (λ xs. l.guests ++ xs) (each guest_of (items_view (drop l.item-index l.items.items)))
