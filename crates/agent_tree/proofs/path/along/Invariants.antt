use Rattle.std.proofs.Common.{◌≡◌, drop}
use Rattle.std.specs.Option.{ForSome}
use Rattle.agent_tree.specs.Frames.{IsNarrow}
use Rattle.agent_tree.specs.Paths.{along}
use Rattle.agent_tree.proofs.path.along.Given as goal

-- the boxes from the window on were entered
abbrev pub invariant-loop-k : goal.invariant-loop-k
invariant-loop-k l = record {
  is : l.frame ≡ along l.fn.window l.boxes (drop l.k l.path);
  narrow : ForSome l.frame IsNarrow;
}
