use Rattle.std.proofs.Common.{◌∙◌, true, false, sym, arith}
use Rattle.tile_store.specs.Kept.{laid}
use Rattle.tile_store.proofs.OpenLemmas.{missing-next}
use Rattle.tile_store.proofs.tiles.missing_in_row.Goals as goal
use Rattle.tile_store.proofs.tiles.missing_in_row.Goals.{then-not-has, else-not-has}

pub loop-column-preserved : goal.loop-column-preserved
loop-column-preserved c =
    elim c.if-not-has.branch [
      | then-not-has w ↦
          let next = missing-next c.args.slot c.args.row c.loop-column.column c.args.to (laid c.args.held.now) false c.loop-column-test.true (sym c.has.ensures ∙ w.if-not-has.true) in
          (omega (arith, next, w.count-is, c.loop-column.invariant.0), omega (arith, w.count-is, c.loop-column.invariant.1))
      | else-not-has w ↦
          let next = missing-next c.args.slot c.args.row c.loop-column.column c.args.to (laid c.args.held.now) true c.loop-column-test.true (sym c.has.ensures ∙ w.if-not-has.false) in
          (omega (arith, next, w.count-is, c.loop-column.invariant.0), omega (arith, w.count-is, c.loop-column.invariant.1))
    ]
