use Rattle.std.proofs.Common.{length, arith}
use Rattle.tile_store.specs.declared.shelf.Entry.{Entry}
use Rattle.tile_store.proofs.ShelfLemmas.{number-in}
use Rattle.tile_store.proofs.SweepLemmas.{cut-entry, uncut-entry}
use Rattle.tile_store.proofs.shelf.cut_one.Goals as goal

pub index_mut-square-requires : goal.index_mut-square-requires
index_mut-square-requires c =
    let d : Entry = record { spot = record { slot = 0; column = 0; row = 0 }; number = 0 } in
    let below = number-in c.args.held.now (length c.args.squares.now.items) c.args.i d c.requires.once c.requires.i in
    omega (arith, below)

pub returns-then-entry-slot-clause-cut : goal.returns-then-entry-slot-clause-cut
returns-then-entry-slot-clause-cut c =
    let d : Entry = record { spot = record { slot = 0; column = 0; row = 0 }; number = 0 } in
    cut-entry c.args.slot c.args.w c.args.h c.args.squares.now.items c.args.held.now c.args.i d c.index_mut-square.result.now c.cut.new.self
    c.left_of-columns.result c.left_of-rows.result c.requires.once c.requires.i c.if-entry-slot.true c.left_of-columns.ensures c.left_of-rows.ensures
    c.index_mut-square.ensures.value c.cut.ensures

pub returns-else-entry-slot-clause-cut : goal.returns-else-entry-slot-clause-cut
returns-else-entry-slot-clause-cut c =
    let d : Entry = record { spot = record { slot = 0; column = 0; row = 0 }; number = 0 } in
    uncut-entry c.args.slot c.args.w c.args.h c.args.squares.now.items c.args.held.now c.args.i d c.requires.i c.if-entry-slot.false
