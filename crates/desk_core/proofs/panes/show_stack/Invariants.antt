use Rattle.std.proofs.Common.{◌≡◌, ◌++◌, take}
use Rattle.std.specs.Prelude.{filter_map, reverse, vec_capacity}
use Rattle.desk_core.specs.Panes.{shown_with}
use Rattle.desk_core.proofs.panes.show_stack.Given as goal

-- the windows of the topmost ids are listed
abbrev pub invariant-loop-k : goal.invariant-loop-k
invariant-loop-k l = record {
  items : l.shown.items ≡ filter_map (shown_with l.border l.labels l.sessions) (take l.k (reverse (l.stack.layers.normal ++ l.stack.layers.over)));
  capacity : vec_capacity l.shown ≡ vec_capacity l.initial.shown;
}
