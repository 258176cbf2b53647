use Rattle.std.proofs.Common.{rules, ◌≡◌, ◌∙◌, ℕ, ◌+◌, ◌-◌, ◌/◌, ◌≤◌, List, length, refl, sym, ap, subst, arith}
use Rattle.std.proofs.lemmas.List.{length-map}
use Rattle.gui_num.specs.Rects.{nat_of}
use Rattle.desk_laws.specs.Rows.{grid}
use Rattle.tile_store.specs.Tile.{Tile}
use Rattle.tile_store.specs.Held.{TilesView, opened, missing, places_in_row, tiles_along, tiles_met}
use Rattle.tile_store.specs.Kept.{tile_in}
use Rattle.tile_store.specs.Contents.{KeepsAll, HoldsAll, KeepsHeld}
use Rattle.tile_store.proofs.ContentLemmas.{opened-keeps, opened-holds, opened-held}
use Rattle.tile_store.proofs.CountLemmas.{opened-count}
use Rattle.tile_store.proofs.OpenLemmas.{Opening, opening-part, opening-front, opening-done, grid-next, met-between}
use Rattle.tile_store.proofs.tiles.Tiles.open.Goals as goal

pub loop-row-init : goal.loop-row-init
loop-row-init c =
    let r = c.args.r in
    let from : c.tile_of-from.result ≡ nat_of r.x / 64 = search rules in
    let to : c.tile_past-to.result ≡ nat_of r.x / 64 + tiles_along (nat_of r.x) r.w = search rules in
    let top : c.tile_of-top.result ≡ nat_of r.y / 64 = search rules in
    let below : c.tile_past-below.result ≡ nat_of r.y / 64 + tiles_along (nat_of r.y) r.h = search rules in
    let met = met-between (nat_of r.x) (nat_of r.y) r.w r.h c.tile_of-from.result c.tile_past-to.result c.tile_of-top.result c.tile_past-below.result from to top below in
    let few : length c.args.self.now.held ≤ c.args.self.now.number =
    omega (
      arith,
      c.self.invariant.together,
      c.self.invariant.taken,
      length-map c.self.inside.held.items (tile_in c.self.inside.squares.items),
      ap (λ (v : TilesView). v.number) c.self.view_is,
      ap (λ (v : TilesView). length v.held) c.self.view_is,
    ) in (
      record {
        ends = ap (λ places. opened c.args.slot places c.args.self.now.held) met;
        room = omega (arith, c.requires.room, few, ap (λ places. missing c.args.slot places c.args.self.now.held) met);
      },
      refl,
    )

pub open_row-requires-clause-room : goal.open_row-requires-clause-room
open_row-requires-clause-room c =
    let n = c.tile_past-to.result - c.tile_of-from.result in
    let row = c.loop-row.row in
    let end : List Tile = opened c.args.slot (tiles_met c.args.r) c.args.self.now.held in
    let P : List (ℕ × ℕ) → Type 0 = λ places. Opening c.args.slot c.args.self.now.number places c.loop-row.self.held end in
    let here = subst P (grid-next c.tile_of-from.result n row c.tile_past-below.result c.loop-row-test.true) c.loop-row.invariant.0 in
    let front = opening-front (places_in_row row c.tile_of-from.result n)
    (grid c.tile_of-from.result (row + 1) n (c.tile_past-below.result - (row + 1))) here in
    omega (arith, front, c.loop-row.invariant.1)

pub loop-row-preserved : goal.loop-row-preserved
loop-row-preserved c =
    let n = c.tile_past-to.result - c.tile_of-from.result in
    let row = c.loop-row.row in
    let end : List Tile = opened c.args.slot (tiles_met c.args.r) c.args.self.now.held in
    let P : List (ℕ × ℕ) → Type 0 = λ places. Opening c.args.slot c.args.self.now.number places c.loop-row.self.held end in
    let here = subst P (grid-next c.tile_of-from.result n row c.tile_past-below.result c.loop-row-test.true) c.loop-row.invariant.0 in
    let Q : List Tile → Type 0 = λ held.
    Opening c.args.slot c.args.self.now.number (grid c.tile_of-from.result (row + 1) n (c.tile_past-below.result - (row + 1))) held end in (
      subst Q (sym (ap (λ (v : TilesView). v.held) c.open_row.ensures)) (opening-part (places_in_row row c.tile_of-from.result n) here),
      ap (λ (v : TilesView). v.number) c.open_row.ensures ∙ c.loop-row.invariant.1,
    )

pub returns : goal.returns
returns c =
    let n = c.tile_past-to.result - c.tile_of-from.result in
    let last : c.loop-row.row ≡ c.tile_past-below.result = omega arith in
    let old = c.args.self.now.held in
    let done : c.loop-row.self.held ≡ opened c.args.slot (tiles_met c.args.r) old =
    opening-done c.tile_of-from.result n c.loop-row.row c.tile_past-below.result last c.loop-row.invariant.0 in
    let F : ℕ → List Tile → TilesView = λ number held. record { number = number; held = held } in
    let P : List Tile → Type 0 = λ held. KeepsAll old held in
    let Q : List Tile → Type 0 = λ held. HoldsAll c.args.slot c.args.r held in
    let R : List Tile → Type 0 = λ held. KeepsHeld old held in
    record {
      opened = ap (λ k. F k c.loop-row.self.held) c.loop-row.invariant.1 ∙ ap (F c.args.self.now.number) done;
      count = ap length done ∙ opened-count c.args.slot c.args.r old;
      contents = subst P (sym done) (opened-keeps c.args.slot (tiles_met c.args.r) old);
      holds = subst Q (sym done) (opened-holds c.args.slot c.args.r old);
      stay = subst R (sym done) (opened-held c.args.slot (tiles_met c.args.r) old);
    }
