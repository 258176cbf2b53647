use Rattle.std.proofs.Common.{◌≡◌, ◌∙◌, ◌+◌, ◌<◌, suc, ◌++◌, length, take, drop, map, ap, arith}
use Rattle.std.proofs.lemmas.List.{length-map}
use Rattle.tile_store.specs.Held.{cut_tile}
use Rattle.tile_store.specs.Kept.{tile_in, tiles_in, cut_at}
use Rattle.tile_store.proofs.SweepLemmas.{cut-step}
use Rattle.tile_store.proofs.shelf.cut_tiles.Goals as goal

pub loop-i-preserved : goal.loop-i-preserved
loop-i-preserved c =
    let i = c.loop-i.i in
    let slot = c.args.slot in
    let w = c.args.w in
    let h = c.args.h in
    let ts = tiles_in c.args.squares.now.items c.args.held.now in
    let inside : i < length ts = omega (arith, c.loop-i-test.true, length-map c.args.held.now (tile_in c.args.squares.now.items)) in
    let next : suc i ≡ i + 1 = omega arith in (
      c.cut_one.ensures.cut ∙ ap (cut_at slot w h i) c.loop-i.invariant.0 ∙ cut-step slot w h ts i inside
          ∙ ap (λ n. map (cut_tile slot w h) (take n ts) ++ drop n ts) next,
      c.cut_one.ensures.count ∙ c.loop-i.invariant.1,
      c.cut_one.ensures.capacity ∙ c.loop-i.invariant.2,
    )
