use Rattle.std.proofs.Common.{◌<◌, ◌++◌, All, length, drop}
use Rattle.compositor.specs.Bands.{numbered, ShowSame}
use Rattle.compositor.proofs.band.list_band.Given as goal

-- those that are listed and those that are still to be looked at show what all show
abbrev pub invariant-loop-k : goal.invariant-loop-k
invariant-loop-k g l = record {
  numbers : All (λ k. k < length (g.Q.Panes.panes l.panes)) l.listed.items;
  same : ShowSame l.top l.bottom (numbered (g.Q.Panes.panes l.panes) l.listed.items ++ drop l.k (g.Q.Panes.panes l.panes)) (g.Q.Panes.panes l.panes);
}
