use Rattle.std.proofs.Common.{◌≡◌, ◌∙◌, ◌<◌, false, length, sym, ap, arith}
use Rattle.std.proofs.lemmas.List.{length-map}
use Rattle.tile_store.specs.Held.{TilesView, rises, are_whole, is_held}
use Rattle.tile_store.specs.Kept.{tile_in, tiles_in}
use Rattle.tile_store.proofs.WholeLemmas.{whole-with}
use Rattle.tile_store.proofs.RiseLemmas.{rises-with}
use Rattle.tile_store.proofs.tiles.Tiles.open_one.Goals as goal

pub invariant_of-self : goal.invariant_of-self
invariant_of-self c =
    let kept = c.self.invariant in
    let held = c.self.inside.held.items in
    let squares = c.self.inside.squares.items in
    let ts = tiles_in squares held in
    let viewed : ts ≡ c.args.self.now.held = ap (λ (v : TilesView). v.held) c.self.view_is in
    let room : is_held c.args.spot ts ≡ false → length held < c.self.inside.number = λ out.
    let few = c.requires (ap (is_held c.args.spot) (sym viewed) ∙ out) in
    omega (arith, few, ap length viewed, length-map held (tile_in squares), ap (λ (v : TilesView). v.number) c.self.view_is) in
    record {
      rising = ap rises c.add.ensures.held ∙ rises-with c.args.spot ts kept.rising;
      whole = ap are_whole c.add.ensures.held ∙ whole-with c.args.spot ts kept.whole;
      owned = c.add.ensures.owned;
      together = c.add.ensures.together;
      taken = c.add.ensures.taken c.self.inside.number kept.taken room;
      few = kept.few;
      held_fits = omega (arith, kept.held_fits, c.add.ensures.held_room);
      squares_fit = omega (arith, kept.squares_fit, c.add.ensures.squares_room);
      spare_fits = omega (arith, kept.spare_fits, c.add.ensures.spare_room);
    }
