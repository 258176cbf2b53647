use Rattle.std.proofs.Common.{◌≡◌, ◌∙◌, Bool, List, true, not, eqb, filter, refl, sym, ap, subst}
use Rattle.tile_store.specs.Tile.{Tile}
use Rattle.tile_store.specs.Held.{TilesView, is_whole, dropped}
use Rattle.tile_store.specs.Contents.{Empties}
use Rattle.tile_store.specs.Kept.{tile_in, tiles_in, stays}
use Rattle.tile_store.proofs.RiseLemmas.{all-filter, rises-filter}
use Rattle.tile_store.proofs.SweepLemmas.{filter-tiles}
use Rattle.tile_store.proofs.CutLemmas.{dropped-empties}
use Rattle.tile_store.proofs.KeepLemmas.{kept-fewer}
use Rattle.tile_store.proofs.tiles.Tiles.drop_slot.Goals as goal

pub invariant_of-self : goal.invariant_of-self
invariant_of-self c =
    let kept = c.self.invariant in
    let slot = c.args.slot in
    let held = c.self.inside.held.items in
    let squares = c.self.inside.squares.items in
    let ts = tiles_in squares held in
    let is : tiles_in squares c.close_up.new.held.items ≡ dropped slot ts =
    ap (tiles_in squares) (c.close_up.ensures.held ∙ ap (λ s. filter (λ e. stays true slot (tile_in s e)) held) c.deref.ensures.value)
    ∙ filter-tiles squares (stays true slot) held in
    let p : Tile → Bool = λ t. not (eqb t.spot.slot slot) in
    kept-fewer c.close_up.new.held.items squares c.close_up.new.spare.items (dropped slot ts) _ _ _ kept is
    (rises-filter p ts kept.rising) (all-filter is_whole p ts kept.whole) refl
    c.close_up.ensures.owned c.close_up.ensures.together c.close_up.ensures.held_room refl c.close_up.ensures.spare_room

pub returns-clause-dropped : goal.returns-clause-dropped
returns-clause-dropped c =
    let slot = c.args.slot in
    let held = c.self.inside.held.items in
    let squares = c.self.inside.squares.items in
    let ts = tiles_in squares held in
    let is : tiles_in squares c.close_up.new.held.items ≡ dropped slot ts =
    ap (tiles_in squares) (c.close_up.ensures.held ∙ ap (λ s. filter (λ e. stays true slot (tile_in s e)) held) c.deref.ensures.value)
    ∙ filter-tiles squares (stays true slot) held in
    let F : List Tile → TilesView = λ us. record { number = c.self.inside.number; held = us } in
    let drop_in : TilesView → TilesView = λ v. record { number = v.number; held = dropped slot v.held } in
    ap F is ∙ ap drop_in c.self.view_is

pub returns-clause-pixels : goal.returns-clause-pixels
returns-clause-pixels c =
    let slot = c.args.slot in
    let held = c.self.inside.held.items in
    let squares = c.self.inside.squares.items in
    let ts = tiles_in squares held in
    let is : tiles_in squares c.close_up.new.held.items ≡ dropped slot ts =
    ap (tiles_in squares) (c.close_up.ensures.held ∙ ap (λ s. filter (λ e. stays true slot (tile_in s e)) held) c.deref.ensures.value)
    ∙ filter-tiles squares (stays true slot) held in
    let viewed : ts ≡ c.args.self.now.held = ap (λ (v : TilesView). v.held) c.self.view_is in
    let P : List Tile → Type 0 = λ us. Empties slot ts us in
    let Q : List Tile → Type 0 = λ us. Empties slot us (tiles_in squares c.close_up.new.held.items) in
    subst Q viewed (subst P (sym is) (dropped-empties slot ts c.self.invariant.rising))
