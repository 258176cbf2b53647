use Rattle.std.proofs.Common.{rules, ◌≡◌, ◌∙◌, ◌+◌, ◌-◌, ◌/◌, sym, ap}
use Rattle.gui_num.specs.Rects.{nat_of}
use Rattle.desk_laws.specs.Rows.{grid}
use Rattle.tile_store.specs.Held.{TilesView, rises, missing, tiles_along, tiles_met}
use Rattle.tile_store.specs.Kept.{tiles_in}
use Rattle.tile_store.proofs.EntryLemmas.{laid-rises, laid-missing}
use Rattle.tile_store.proofs.OpenLemmas.{met-between}
use Rattle.tile_store.proofs.CountLemmas.{needs-none}
use Rattle.tile_store.proofs.tiles.Tiles.need.Goals as goal

pub count_missing-requires-clause-rising : goal.count_missing-requires-clause-rising
count_missing-requires-clause-rising c =
    let squares = c.self.inside.squares.items in
    laid-rises squares c.deref.result.now ∙ ap (λ es. rises (tiles_in squares es)) c.deref.ensures.value ∙ c.self.invariant.rising

pub returns : goal.returns
returns c =
    let r = c.args.r in
    let from : c.tile_of-from.result ≡ nat_of r.x / 64 = search rules in
    let to : c.tile_past-to.result ≡ nat_of r.x / 64 + tiles_along (nat_of r.x) r.w = search rules in
    let top : c.tile_of-top.result ≡ nat_of r.y / 64 = search rules in
    let below : c.tile_past-below.result ≡ nat_of r.y / 64 + tiles_along (nat_of r.y) r.h = search rules in
    let met = met-between (nat_of r.x) (nat_of r.y) r.w r.h c.tile_of-from.result c.tile_past-to.result c.tile_of-top.result c.tile_past-below.result from to top below in
    let block = grid c.tile_of-from.result c.tile_of-top.result (c.tile_past-to.result - c.tile_of-from.result) (c.tile_past-below.result - c.tile_of-top.result) in
    let squares = c.self.inside.squares.items in
    let viewed : tiles_in squares c.self.inside.held.items ≡ c.args.self.now.held = ap (λ (v : TilesView). v.held) c.self.view_is in
    let counts : c.count_missing.result ≡ missing c.args.slot (tiles_met r) c.args.self.now.held =
    c.count_missing.ensures
    ∙ laid-missing squares c.args.slot block c.deref.result.now
    ∙ ap (missing c.args.slot block) (ap (tiles_in squares) c.deref.ensures.value ∙ viewed)
    ∙ ap (λ places. missing c.args.slot places c.args.self.now.held) met in
    record {
      need = counts;
      none = λ zero. needs-none c.args.slot r c.args.self.now.held (sym counts ∙ zero);
    }
