use Rattle.std.proofs.Common.{◌∙◌, sym}
use Rattle.tile_store.specs.declared.shelf.Entry.{Entry}
use Rattle.tile_store.specs.Kept.{tiles_in}
use Rattle.tile_store.proofs.HeldLemmas.{read-none}
use Rattle.tile_store.proofs.EntryLemmas.{laid-first, laid-place}
use Rattle.tile_store.proofs.ShelfLemmas.{first-below, number-in, read-entry}
use Rattle.tile_store.proofs.shelf.read.Goals as goal

pub bounds-squares-held : goal.bounds-squares-held
bounds-squares-held c =
    let d : Entry = record { spot = record { slot = 0; column = 0; row = 0 }; number = 0 } in
    number-in c.args.held.now _ c.place_for-i.result d c.requires.once
    (first-below c.args.spot c.args.held.now c.place_for-i.result (sym c.is_at.ensures ∙ c.if-is_at.true))

pub returns-then-is_at : goal.returns-then-is_at
returns-then-is_at c =
    let d : Entry = record { spot = record { slot = 0; column = 0; row = 0 }; number = 0 } in
    c.get.ensures
    ∙ read-entry c.args.squares.now c.args.held.now c.args.spot c.place_for-i.result c.args.k d c.index-squares-held.result
    c.requires.rising c.requires.once c.place_for-i.ensures (sym c.is_at.ensures ∙ c.if-is_at.true) c.index-squares-held.is

pub returns-else-is_at : goal.returns-else-is_at
returns-else-is_at c =
    let squares = c.args.squares.now in
    let held = c.args.held.now in
    let i = c.place_for-i.result in
    read-none c.args.spot (tiles_in squares held) i c.args.k c.requires.rising (laid-place squares c.args.spot held i c.place_for-i.ensures)
    (sym (laid-first squares c.args.spot held i) ∙ sym c.is_at.ensures ∙ c.if-is_at.false)
