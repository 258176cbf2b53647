use Rattle.std.proofs.Common.{◌∙◌, get_or}
use Rattle.tile_store.specs.declared.shelf.Entry.{Entry}
use Rattle.tile_store.proofs.EntryLemmas.{entry-first}
use Rattle.tile_store.proofs.ShelfLemmas.{own-default}
use Rattle.tile_store.proofs.shelf.is_at.Goals as goal

pub returns-then-i-held : goal.returns-then-i-held
returns-then-i-held c =
    let d : Entry = record { spot = record { slot = 0; column = 0; row = 0 }; number = 0 } in
    c.is_same.ensures
    ∙ entry-first c.args.spot c.args.held.now c.args.i (get_or c.args.held.now c.args.i d) c.if-i-held.true
    (own-default c.args.held.now c.args.i d c.if-i-held.true)
