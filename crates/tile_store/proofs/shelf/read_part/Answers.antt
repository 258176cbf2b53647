use Rattle.std.proofs.Common.{◌∙◌, ◌+◌, ◌-◌, sym, ap}
use Rattle.tile_store.specs.declared.shelf.Entry.{Entry}
use Rattle.tile_store.specs.Contents.{colour_or}
use Rattle.tile_store.specs.Kept.{tiles_in}
use Rattle.tile_store.proofs.HeldLemmas.{read-none}
use Rattle.tile_store.proofs.EntryLemmas.{laid-rises, laid-first, laid-place}
use Rattle.tile_store.proofs.ShelfLemmas.{first-below, number-in, read-entry}
use Rattle.tile_store.proofs.shelf.read_part.Goals as goal

pub place_near-i-requires : goal.place_near-i-requires
place_near-i-requires c = laid-rises c.args.squares.now c.args.held.now ∙ c.requires.rising

pub bounds-squares-held : goal.bounds-squares-held
bounds-squares-held c =
    let d : Entry = record { spot = record { slot = 0; column = 0; row = 0 }; number = 0 } in
    number-in c.args.held.now _ c.place_near-i.result d c.requires.once
    (first-below c.args.spot c.args.held.now c.place_near-i.result (sym c.is_at.ensures ∙ c.if-is_at.true))

pub returns-then-is_at-clause-read : goal.returns-then-is_at-clause-read
returns-then-is_at-clause-read c = λ i low high.
    let d : Entry = record { spot = record { slot = 0; column = 0; row = 0 }; number = 0 } in
    let k = c.args.k + (i - c.args.at) in
    c.copy_to.ensures.copied i low high
    ∙ ap (colour_or c.args.blank)
    (read-entry c.args.squares.now c.args.held.now c.args.spot c.place_near-i.result k d c.index-squares-held.result
    c.requires.rising c.requires.once c.place_near-i.ensures (sym c.is_at.ensures ∙ c.if-is_at.true) c.index-squares-held.is)

pub returns-else-is_at-clause-read : goal.returns-else-is_at-clause-read
returns-else-is_at-clause-read c = λ i low high.
    let squares = c.args.squares.now in
    let held = c.args.held.now in
    let j = c.place_near-i.result in
    c.fill_part.ensures.filled i low high
    ∙ ap (colour_or c.args.blank)
    (read-none c.args.spot (tiles_in squares held) j (c.args.k + (i - c.args.at)) c.requires.rising (laid-place squares c.args.spot held j c.place_near-i.ensures)
    (sym (laid-first squares c.args.spot held j) ∙ sym c.is_at.ensures ∙ c.if-is_at.false))
