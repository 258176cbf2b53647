use Rattle.std.proofs.Common.{◌∙◌, refl}
use Rattle.desk_core.proofs.PasteLemmas.{nothing-delivered}
use Rattle.desk_core.proofs.SceneLemmas.{carried-more, fits-at, kept-both, kept-same, takes-still}
use Rattle.desk_core.proofs.grants.carry_out.Goals as goal

pub loop-delivery-init : goal.loop-delivery-init
loop-delivery-init g c = record {
  kept = kept-same c.args.sessions.now;
  limit = refl;
  delivers = λ most scene has is. nothing-delivered g.O.Outlet.takes c.args.out.now c.args.sessions.now most c.args.gate.now scene has is;
}

pub deliver-requires-clause-fits : goal.deliver-requires-clause-fits
deliver-requires-clause-fits g c =
    fits-at c.deliveries-delivery-items.result.now c.loop-delivery.delivery-index _ c.loop-delivery-test.true c.deliveries-delivery-items.ensures.fit

pub deliver-requires-clause-takes : goal.deliver-requires-clause-takes
deliver-requires-clause-takes g c =
    takes-still c.args.gate.now c.loop-delivery.gate c.args.sessions.now c.loop-delivery.sessions c.requires c.loop-delivery.invariant.kept c.loop-delivery.invariant.limit

pub loop-delivery-preserved : goal.loop-delivery-preserved
loop-delivery-preserved g c =
    let done = c.loop-delivery.invariant in
    record {
      kept = kept-both c.args.sessions.now c.loop-delivery.sessions c.deliver.new.sessions done.kept c.deliver.ensures.kept;
      limit = c.deliver.ensures.limit ∙ done.limit;
      delivers = λ most scene has is.
          carried-more g.O.Outlet.takes c.args.out.now c.loop-delivery.out c.deliver.new.out c.loop-delivery.sessions c.deliver.new.sessions c.args.denied.now most c.loop-delivery.gate c.deliver.new.gate
          c.deliveries-delivery-items.result.now c.loop-delivery.delivery-index _ scene c.loop-delivery-test.true (done.delivers most scene has is) c.deliver.ensures.delivers;
    }
