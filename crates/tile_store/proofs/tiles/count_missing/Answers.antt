use Rattle.std.proofs.Common.{◌≡◌, ◌∙◌, ◌+◌, ◌-◌, ap, arith}
use Rattle.desk_laws.specs.Rows.{grid}
use Rattle.tile_store.specs.Held.{missing, places_in_row}
use Rattle.tile_store.specs.Kept.{laid}
use Rattle.tile_store.proofs.OpenLemmas.{missing-append, grid-next}
use Rattle.tile_store.proofs.tiles.count_missing.Goals as goal

pub loop-row-preserved : goal.loop-row-preserved
loop-row-preserved c =
    let n = c.args.to - c.args.from in
    let row = c.loop-row.row in
    let here = places_in_row row c.args.from n in
    let rest = grid c.args.from (row + 1) n (c.args.below - (row + 1)) in
    let next : missing c.args.slot (grid c.args.from row n (c.args.below - row)) (laid c.args.held.now)
    ≡ missing c.args.slot here (laid c.args.held.now) + missing c.args.slot rest (laid c.args.held.now) =
    ap (λ places. missing c.args.slot places (laid c.args.held.now)) (grid-next c.args.from n row c.args.below c.loop-row-test.true)
    ∙ missing-append c.args.slot here rest (laid c.args.held.now) in (
      omega (arith, next, c.missing_in_row-count.ensures.count, c.loop-row.invariant.0),
      omega (arith, c.loop-row.invariant.1, c.missing_in_row-count.ensures.few, c.requires.wide),
    )
