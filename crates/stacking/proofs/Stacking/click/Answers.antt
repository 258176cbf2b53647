use Rattle.std.proofs.Common.{arith}
use Rattle.stacking.proofs.CountLemmas.{counted-same, counted-raised}
use Rattle.stacking.proofs.IndexLemmas.{index-same, index-raised}
use Rattle.stacking.proofs.Stacking.click.Goals as goal

pub invariant_of-self : goal.invariant_of-self
invariant_of-self c =
    let n = c.self.invariant.1 in
    let o = c.self.invariant.2 in
    let k = c.self.invariant.4 in (
      counted-same _ _ _ _ _ _ c.move_to_end.ensures.items c.move_to_end-2.ensures.items c.move_to_end-3.ensures.items (counted-raised _ _ _ c.args.id c.self.invariant.0),
      omega arith,
      omega arith,
      index-same _ _ _ _ _ c.move_to_end.ensures.items c.move_to_end-2.ensures.items (index-raised _ _ _ _ c.args.id c.self.invariant.0 c.self.invariant.3),
      omega arith,
      c.self.invariant.5,
    )
