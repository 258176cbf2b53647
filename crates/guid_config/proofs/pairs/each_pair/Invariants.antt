use Rattle.std.proofs.Common.{◌≡◌, option_map, drop}
use Rattle.toml.specs.View.{array_view, items_view}
use Rattle.guid_config.specs.Pairs.{in_order, all_put_in}
use Rattle.guid_config.specs.Shape.{pair_of, each}
use Rattle.guid_config.proofs.pairs.each_pair.Given as goal

-- those that were read, with those that are left put among them, are all in order
abbrev pub invariant-loop-item : goal.invariant-loop-item
invariant-loop-item l =
    option_map in_order (each (pair_of l.guests) (array_view l.items)) ≡ option_map (all_put_in l.pairs.items) (each (pair_of l.guests) (items_view (drop l.item-index l.items.items)))
