use Rattle.std.proofs.Common.{arith, refl, []}
use Rattle.stacking.proofs.CountLemmas.{counted-same}
use Rattle.stacking.proofs.IndexLemmas.{index-new, index-same}
use Rattle.stacking.proofs.Stacking.new.Goals as goal

pub invariant_of-result : goal.invariant_of-result
invariant_of-result c = (
  counted-same [] [] [] _ _ _ c.in_ok-with_capacity.ensures.items c.in_ok-with_capacity-2.ensures.items c.in_ok-with_capacity-3.ensures.items
      (record { once = λ id. omega arith; same = λ id. refl; counted = refl }),
  omega (arith, c.in_ok-with_capacity.ensures.exact, c.in_ok-with_capacity-3.ensures.exact),
  omega (arith, c.in_ok-with_capacity-2.ensures.exact, c.in_ok-with_capacity-3.ensures.exact),
  index-same [] [] _ _ _ c.in_ok-with_capacity.ensures.items c.in_ok-with_capacity-2.ensures.items
      (index-new c.in_ok-with_capacity-4.field-0.items c.in_ok-with_capacity-4.ensures.items),
  omega (arith, c.in_ok-with_capacity-4.ensures.exact, c.in_ok-with_capacity-3.ensures.exact),
  omega (arith, c.in_ok-vec.ensures.len),
)
