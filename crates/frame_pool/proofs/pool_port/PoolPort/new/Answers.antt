use Rattle.std.proofs.Common.{List, length, get_or, refl, subst, sym}
use Rattle.frame_pool.specs.Ports.{AreZeros, FramesView, AllHave, fresh, no_frames}
use Rattle.frame_pool.proofs.RegionLemmas.{have-replicate}
use Rattle.frame_pool.proofs.ZeroLemmas.{pool-zeros}
use Rattle.frame_pool.proofs.pool_port.PoolPort.new.Goals as goal

pub invariant_of-result : goal.invariant_of-result
invariant_of-result c =
    subst (AllHave c.args.pages) (sym c.loop.invariant.0)
    (have-replicate c.args.pages c.loop.counter (record { pages = c.args.pages; state = fresh c.args.pages }) refl)

pub returns-clause-zeros : goal.returns-clause-zeros
returns-clause-zeros c =
    subst (λ (pools : List FramesView). AreZeros (length pools) c.args.pages (λ guest. (get_or pools guest no_frames).state)) (sym c.loop.invariant.0)
    (pool-zeros c.loop.counter c.args.pages)
