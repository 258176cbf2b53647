use Rattle.std.proofs.Common.{◌≡◌, ◌∙◌, List, Some, ap, subst}
use Rattle.tile_store.specs.declared.shelf.Entry.{Entry}
use Rattle.tile_store.specs.Tile.{Tile}
use Rattle.tile_store.specs.Spots.{spot_at, pixel_of}
use Rattle.tile_store.specs.Held.{TilesView, tile_at, pixel_in, written}
use Rattle.tile_store.specs.Contents.{ColoursOne, KeepsHeld}
use Rattle.tile_store.specs.Kept.{tiles_in}
use Rattle.tile_store.proofs.ContentLemmas.{put-colours, put-held}
use Rattle.tile_store.proofs.WholeLemmas.{whole-written}
use Rattle.tile_store.proofs.RiseLemmas.{rises-written}
use Rattle.tile_store.proofs.KeepLemmas.{kept-squares}
use Rattle.tile_store.proofs.tiles.Tiles.put.Goals as goal

pub invariant_of-self : goal.invariant_of-self
invariant_of-self c =
    let kept = c.self.invariant in
    let held = c.self.inside.held.items in
    let squares = c.self.inside.squares.items in
    let new = c.write.new.squares.items in
    let P : List Entry → Type 0 = λ es. tiles_in new es ≡ written c.lies_in.result c.index_of.result c.args.colour (tiles_in squares es) in
    let is = subst P c.deref.ensures.value c.write.ensures.held in
    kept-squares new (written c.lies_in.result c.index_of.result c.args.colour (tiles_in squares held)) _ kept is
    (rises-written c.lies_in.result c.index_of.result c.args.colour (tiles_in squares held) kept.rising)
    (whole-written c.lies_in.result c.index_of.result c.args.colour (tiles_in squares held) kept.whole)
    c.write.ensures.count c.write.ensures.capacity

pub returns-clause-put : goal.returns-clause-put
returns-clause-put c =
    let held = c.self.inside.held.items in
    let squares = c.self.inside.squares.items in
    let new = c.write.new.squares.items in
    let P : List Entry → Type 0 = λ es. tiles_in new es ≡ written c.lies_in.result c.index_of.result c.args.colour (tiles_in squares es) in
    let is = subst P c.deref.ensures.value c.write.ensures.held in
    let ts = tiles_in squares held in
    let F : List Tile → TilesView = λ us. record { number = c.self.inside.number; held = us } in
    let put_in : TilesView → TilesView = λ v.
    record { number = v.number; held = written (spot_at c.args.slot c.args.p) (pixel_of c.args.p) c.args.colour v.held } in
    ap F
    (is ∙ ap (λ s. written s c.index_of.result c.args.colour ts) c.lies_in.ensures
    ∙ ap (λ k. written (spot_at c.args.slot c.args.p) k c.args.colour ts) c.index_of.ensures.pixel)
    ∙ ap put_in c.self.view_is

pub returns-clause-one : goal.returns-clause-one
returns-clause-one c =
    let held = c.self.inside.held.items in
    let squares = c.self.inside.squares.items in
    let new = c.write.new.squares.items in
    let P : List Entry → Type 0 = λ es. tiles_in new es ≡ written c.lies_in.result c.index_of.result c.args.colour (tiles_in squares es) in
    let is = subst P c.deref.ensures.value c.write.ensures.held in
    let viewed : tiles_in squares held ≡ c.args.self.now.held = ap (λ (v : TilesView). v.held) c.self.view_is in
    let Q : List Entry → Type 0 = λ es. pixel_in c.index_of.result (tile_at c.lies_in.result (tiles_in new es)) ≡ Some c.args.colour in
    let read = subst Q c.deref.ensures.value c.write.ensures.read in
    let R : List Tile → Type 0 = λ ts. ColoursOne c.args.slot c.args.p c.args.colour ts (tiles_in new held) in
    subst R viewed
    (put-colours c.args.slot c.args.p c.args.colour c.index_of.result c.lies_in.result (tiles_in squares held) (tiles_in new held)
    c.lies_in.ensures c.index_of.ensures.pixel is read)

pub returns-clause-stay : goal.returns-clause-stay
returns-clause-stay c =
    let held = c.self.inside.held.items in
    let squares = c.self.inside.squares.items in
    let new = c.write.new.squares.items in
    let P : List Entry → Type 0 = λ es. tiles_in new es ≡ written c.lies_in.result c.index_of.result c.args.colour (tiles_in squares es) in
    let is = subst P c.deref.ensures.value c.write.ensures.held in
    let viewed : tiles_in squares held ≡ c.args.self.now.held = ap (λ (v : TilesView). v.held) c.self.view_is in
    let R : List Tile → Type 0 = λ ts. KeepsHeld ts (tiles_in new held) in
    subst R viewed (put-held c.lies_in.result c.index_of.result c.args.colour (tiles_in squares held) (tiles_in new held) is)
