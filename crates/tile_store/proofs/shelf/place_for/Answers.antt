use Rattle.std.proofs.Common.{◌≡◌, get_or, sym, ap, ◌∙◌, arith}
use Rattle.tile_store.specs.Spots.{before}
use Rattle.tile_store.proofs.EntryLemmas.{place-laid}
use Rattle.tile_store.proofs.shelf.place_for.Goals as goal

pub returns : goal.returns
returns c =
    let low = c.loop-low.low in
    let last : c.loop-low.high ≡ low = omega (arith, c.loop-low.invariant.0, c.loop-low-test.false) in
    place-laid c.args.spot c.args.held.now low (omega (arith, c.loop-low.invariant.0, c.loop-low.invariant.1)) c.loop-low.invariant.2
    (λ d h. ap (λ n. before (get_or c.args.held.now n d).spot c.args.spot) (sym last) ∙ c.loop-low.invariant.3 d (omega (arith, h, last)))
