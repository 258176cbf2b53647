use Rattle.std.proofs.Common.{◌≡◌, ◌++◌, take, drop, map, ◌==◌, if◌then◌else◌}
use Rattle.std.specs.List.{list_any}
use Rattle.agent_tree.specs.Views.{TopView}
use Rattle.agent_tree.specs.Scenes.{undamaged}
use Rattle.agent_tree.proofs.tops.clear_all.Given as goal

abbrev pub invariant-loop-k : goal.invariant-loop-k
invariant-loop-k l =
    l.tops.items ≡ map (λ (t : TopView). if list_any (λ s. s == t.id) l.shown then undamaged t else t) (take l.k l.fn.tops.items) ++ drop l.k l.fn.tops.items
