use Rattle.std.proofs.Common.{◌∙◌, ◌+◌, ◌-◌, ℕ, List, sym, ap, subst}
use Rattle.tile_store.specs.Tile.{Tile}
use Rattle.tile_store.specs.Held.{opened, places_in_row}
use Rattle.tile_store.proofs.OpenLemmas.{Opening, opening-next, row-next}
use Rattle.tile_store.proofs.tiles.Tiles.open_row.Goals as goal

pub loop-column-preserved : goal.loop-column-preserved
loop-column-preserved c =
    let end : List Tile = opened c.args.slot (places_in_row c.args.row c.args.from (c.args.to - c.args.from)) c.args.self.now.held in
    let P : List (ℕ × ℕ) → Type 0 = λ places. Opening c.args.slot c.args.self.now.number places c.loop-column.self.held end in
    let Q : List Tile → Type 0 = λ held.
    Opening c.args.slot c.args.self.now.number (places_in_row c.args.row (c.loop-column.column + 1) (c.args.to - (c.loop-column.column + 1))) held end in
    let here = subst P (row-next c.args.row c.loop-column.column c.args.to c.loop-column-test.true) c.loop-column.invariant.0 in (
      subst Q (sym (ap (λ v. v.held) c.open_one.ensures)) (opening-next here),
      ap (λ v. v.number) c.open_one.ensures ∙ c.loop-column.invariant.1,
    )
