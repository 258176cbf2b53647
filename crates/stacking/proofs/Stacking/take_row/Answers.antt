use Rattle.std.proofs.Common.{arith, ap, ◌∙◌}
use Rattle.desk_laws.specs.Layers.{is_in}
use Rattle.stacking.proofs.CountLemmas.{counted-same, counted-departed}
use Rattle.stacking.proofs.IndexLemmas.{index-same, index-departed, some-focus}
use Rattle.stacking.proofs.Stacking.take_row.Goals as goal

pub take_key-requires-clause-rising : goal.take_key-requires-clause-rising
take_key-requires-clause-rising c = c.self.invariant.3.rising

pub take_key-requires-clause-known : goal.take_key-requires-clause-known
take_key-requires-clause-known c =
    some-focus _ _ _ _ c.args.id c.self.invariant.0 c.self.invariant.3
    ∙ ap (λ v. is_in v.layers.focus c.args.id) c.self.view_is ∙ c.requires

pub invariant_of-self : goal.invariant_of-self
invariant_of-self c =
    let n = c.self.invariant.1 in
    let o = c.self.invariant.2 in
    let k = c.self.invariant.4 in (
      counted-same _ _ _ _ _ _ c.take_out.ensures.items c.take_out-2.ensures.items c.take_out-3.ensures.items (counted-departed _ _ _ c.args.id c.self.invariant.0),
      omega arith,
      omega arith,
      index-same _ _ _ _ _ c.take_out.ensures.items c.take_out-2.ensures.items
          (index-departed _ _ _ _ _ c.self.invariant.0 c.self.invariant.3 c.take_key.ensures.rising c.args.id c.take_key.ensures.layers),
      omega arith,
      c.self.invariant.5,
    )
