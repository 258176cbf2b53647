use Rattle.std.proofs.Common.{◌∙◌, Some, set, ap, arith}
use Rattle.tile_store.specs.declared.shelf.Entry.{Entry}
use Rattle.tile_store.specs.Held.{pixel_in}
use Rattle.tile_store.proofs.ShelfLemmas.{held-below, held-number, changed-entry, changed-found}
use Rattle.tile_store.proofs.shelf.write.Goals as goal

pub bounds-held-i : goal.bounds-held-i
bounds-held-i c =
    let d : Entry = record { spot = record { slot = 0; column = 0; row = 0 }; number = 0 } in
    held-below c.args.squares.now.items c.args.held.now c.args.spot c.place_for-i.result d c.requires.rising c.requires.once c.place_for-i.ensures c.requires.held

pub index_mut-square-requires : goal.index_mut-square-requires
index_mut-square-requires c =
    let d : Entry = record { spot = record { slot = 0; column = 0; row = 0 }; number = 0 } in
    let below = held-number c.args.squares.now.items c.args.held.now c.args.spot c.place_for-i.result d c.requires.rising c.requires.once c.place_for-i.ensures c.requires.held in
    omega (arith, below)

pub returns-clause-held : goal.returns-clause-held
returns-clause-held c =
    let d : Entry = record { spot = record { slot = 0; column = 0; row = 0 }; number = 0 } in
    changed-entry c.args.squares.now.items c.args.held.now c.args.spot c.place_for-i.result d c.requires.rising c.requires.once c.place_for-i.ensures c.requires.held
    (λ square. set square c.args.k (Some c.args.colour)) c.index_mut-square.result.now c.set.new.self c.index_mut-square.ensures.value c.set.ensures.pixels

pub returns-clause-read : goal.returns-clause-read
returns-clause-read c =
    let d : Entry = record { spot = record { slot = 0; column = 0; row = 0 }; number = 0 } in
    ap (pixel_in c.args.k) (changed-found c.args.squares.now.items c.args.held.now c.args.spot c.place_for-i.result d c.requires.rising c.requires.once c.place_for-i.ensures c.requires.held c.set.new.self)
    ∙ c.set.ensures.read
