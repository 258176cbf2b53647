use Rattle.std.proofs.Common.{arith, not, ◌==◌}
use Rattle.stacking.proofs.CountLemmas.{counted-same, counted-filtered}
use Rattle.stacking.proofs.IndexLemmas.{index-same, index-left}
use Rattle.stacking.proofs.Stacking.leave_guest.Goals as goal

pub invariant_of-self : goal.invariant_of-self
invariant_of-self c =
    let n = c.self.invariant.1 in
    let o = c.self.invariant.2 in
    let k = c.self.invariant.4 in (
      counted-same _ _ _ _ _ _ c.take_guest_out.ensures.items c.take_guest_out-2.ensures.items c.take_guest_out-3.ensures.items
          (counted-filtered (λ id. not (id.guest == c.args.guest)) _ _ _ c.self.invariant.0),
      omega arith,
      omega arith,
      index-same _ _ _ _ _ c.take_guest_out.ensures.items c.take_guest_out-2.ensures.items
          (index-left _ _ _ _ _ c.self.invariant.0 c.self.invariant.3 c.take_guest_keys.ensures.rising c.args.guest c.take_guest_keys.ensures.layers),
      omega arith,
      c.self.invariant.5,
    )

pub take_guest_keys-requires : goal.take_guest_keys-requires
take_guest_keys-requires c = record { rising = c.self.invariant.3.rising }
