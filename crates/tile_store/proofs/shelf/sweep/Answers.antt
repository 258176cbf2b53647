use Rattle.std.proofs.Common.{◌∙◌, false, map, filter, ap, sym}
use Rattle.tile_store.specs.Held.{cut_tile, is_left}
use Rattle.tile_store.specs.Kept.{tile_in, tiles_in, stays}
use Rattle.tile_store.proofs.SweepLemmas.{filter-tiles}
use Rattle.tile_store.proofs.shelf.sweep.Goals as goal

pub returns-clause-held : goal.returns-clause-held
returns-clause-held c =
    let slot = c.args.slot in
    let held = c.args.held.now.items in
    let squares = c.args.squares.now.items in
    let squares2 = c.cut_tiles.new.squares.items in
    ap (tiles_in squares2) (c.close_up.ensures.held ∙ ap (λ s. filter (λ e. stays false slot (tile_in s e)) held) c.deref-2.ensures.value)
    ∙ filter-tiles squares2 (is_left slot) held
    ∙ ap (filter (is_left slot))
    (ap (tiles_in squares2) (sym c.deref.ensures.value) ∙ c.cut_tiles.ensures.cut
    ∙ ap (λ es. map (cut_tile slot c.args.w c.args.h) (tiles_in squares es)) c.deref.ensures.value)
