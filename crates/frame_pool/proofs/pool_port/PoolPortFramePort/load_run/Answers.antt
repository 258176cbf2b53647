use Rattle.std.proofs.Common.{◌≡◌, ◌<◌, length, subst, sym, ap, ◌∙◌, arith}
use Rattle.frame_pool.proofs.RegionLemmas.{has-pages, have-set}
use Rattle.frame_pool.proofs.pool_port.PoolPortFramePort.load_run.Goals as goal

pub load_run-requires-clause-page : goal.load_run-requires-clause-page
load_run-requires-clause-page c =
    let below : c.args.guest < length c.self.inside.frames.items = subst (λ v. c.args.guest < length v.pools) (sym c.self.view_is) c.requires.guest in
    let here : c.index_mut.result.now.pages ≡ c.self.inside.pages =
    ap (λ f. f.pages) c.index_mut.ensures.value ∙ has-pages c.self.inside.pages c.self.inside.frames.items c.args.guest c.index_mut.result.now below c.self.invariant in
    omega (arith, here, ap (λ v. v.pages) c.self.view_is, c.requires.page)

pub invariant_of-self : goal.invariant_of-self
invariant_of-self c =
    let below : c.args.guest < length c.self.inside.frames.items = subst (λ v. c.args.guest < length v.pools) (sym c.self.view_is) c.requires.guest in
    let here : c.index_mut.result.now.pages ≡ c.self.inside.pages =
    ap (λ f. f.pages) c.index_mut.ensures.value ∙ has-pages c.self.inside.pages c.self.inside.frames.items c.args.guest c.index_mut.result.now below c.self.invariant in
    have-set c.self.inside.pages c.self.inside.frames.items c.args.guest c.load_run.new.self (ap (λ f. f.pages) c.load_run.ensures.after ∙ here) c.self.invariant
