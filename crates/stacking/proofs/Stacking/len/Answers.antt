use Rattle.std.proofs.Common.{subst}
use Rattle.desk_laws.specs.Layers.{HaveRowsOnce}
use Rattle.stacking.specs.Stacked.{Stacked}
use Rattle.stacking.proofs.CountLemmas.{rows-once}
use Rattle.stacking.proofs.Stacking.len.Goals as goal

pub returns-clause-once : goal.returns-clause-once
returns-clause-once c =
    let s = c.self.inside in
    let P : Stacked → Type 0 = λ v. HaveRowsOnce v.layers in
    subst P c.self.view_is (rows-once (record { normal = s.normal.items; over = s.over.items; focus = s.focus.items }) c.self.invariant.0)
