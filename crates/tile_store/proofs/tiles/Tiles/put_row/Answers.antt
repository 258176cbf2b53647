use Rattle.std.proofs.Common.{◌≡◌, ◌∙◌, ◌+◌, ◌*◌, ◌/◌, ◌%◌, List, length, ap, subst}
use Rattle.tile_store.specs.declared.shelf.Entry.{Entry}
use Rattle.tile_store.specs.Tile.{Tile}
use Rattle.tile_store.specs.Spots.{spot_of}
use Rattle.tile_store.specs.Held.{TilesView, places_in_row, row_written}
use Rattle.tile_store.specs.Contents.{KeepsHeld, tiles_coloured}
use Rattle.tile_store.specs.Kept.{tiles_in}
use Rattle.tile_store.proofs.RowLemmas.{row-coloured, rises-row, whole-row, held-row}
use Rattle.tile_store.proofs.KeepLemmas.{kept-squares}
use Rattle.tile_store.proofs.tiles.Tiles.put_row.Goals as goal

pub invariant_of-self : goal.invariant_of-self
invariant_of-self c =
    let kept = c.self.invariant in
    let held = c.self.inside.held.items in
    let squares = c.self.inside.squares.items in
    let spot = spot_of c.args.slot (c.args.x / 64, c.args.y / 64) in
    let k = c.args.y % 64 * 64 + c.args.x % 64 in
    let new = c.write_row.new.squares.items in
    let P : List Entry → Type 0 = λ es. tiles_in new es ≡ row_written spot k c.args.colours.now (tiles_in squares es) in
    let is = subst P c.deref.ensures.value c.write_row.ensures.held in
    kept-squares new (row_written spot k c.args.colours.now (tiles_in squares held)) _ kept is
    (rises-row spot k c.args.colours.now (tiles_in squares held) kept.rising)
    (whole-row spot k c.args.colours.now (tiles_in squares held) kept.whole)
    c.write_row.ensures.count c.write_row.ensures.capacity

pub returns-clause-put : goal.returns-clause-put
returns-clause-put c =
    let held = c.self.inside.held.items in
    let squares = c.self.inside.squares.items in
    let spot = spot_of c.args.slot (c.args.x / 64, c.args.y / 64) in
    let k = c.args.y % 64 * 64 + c.args.x % 64 in
    let new = c.write_row.new.squares.items in
    let P : List Entry → Type 0 = λ es. tiles_in new es ≡ row_written spot k c.args.colours.now (tiles_in squares es) in
    let is = subst P c.deref.ensures.value c.write_row.ensures.held in
    let F : List Tile → TilesView = λ ts. record { number = c.self.inside.number; held = ts } in
    let put = row-coloured c.args.slot c.args.y c.args.x c.args.colours.now (tiles_in squares held) c.requires.columns c.requires.colours in
    let put_in : TilesView → TilesView = λ v.
    record { number = v.number; held = tiles_coloured c.args.slot (places_in_row c.args.y c.args.x (length c.args.colours.now)) c.args.colours.now v.held } in
    ap F (is ∙ put) ∙ ap put_in c.self.view_is

pub returns-clause-stay : goal.returns-clause-stay
returns-clause-stay c =
    let held = c.self.inside.held.items in
    let squares = c.self.inside.squares.items in
    let spot = spot_of c.args.slot (c.args.x / 64, c.args.y / 64) in
    let k = c.args.y % 64 * 64 + c.args.x % 64 in
    let new = c.write_row.new.squares.items in
    let P : List Entry → Type 0 = λ es. tiles_in new es ≡ row_written spot k c.args.colours.now (tiles_in squares es) in
    let is = subst P c.deref.ensures.value c.write_row.ensures.held in
    let viewed : tiles_in squares held ≡ c.args.self.now.held = ap (λ (v : TilesView). v.held) c.self.view_is in
    let R : List Tile → Type 0 = λ ts. KeepsHeld ts (tiles_in new held) in
    subst R viewed (held-row spot k c.args.colours.now (tiles_in squares held) (tiles_in new held) is)
