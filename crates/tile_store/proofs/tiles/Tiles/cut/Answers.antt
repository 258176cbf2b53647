use Rattle.std.proofs.Common.{◌≡◌, ◌∙◌, List, sym, ap, subst, arith}
use Rattle.tile_store.specs.Tile.{Tile}
use Rattle.tile_store.specs.Held.{TilesView, rises, are_whole}
use Rattle.tile_store.specs.Contents.{CutsAway}
use Rattle.tile_store.specs.Kept.{tiles_in}
use Rattle.tile_store.proofs.CutLemmas.{swept-cuts}
use Rattle.tile_store.proofs.WholeLemmas.{whole-swept}
use Rattle.tile_store.proofs.RiseLemmas.{rises-swept}
use Rattle.tile_store.proofs.tiles.Tiles.cut.Goals as goal

pub invariant_of-self : goal.invariant_of-self
invariant_of-self c =
    let kept = c.self.invariant in
    let ts = tiles_in c.self.inside.squares.items c.self.inside.held.items in
    record {
      rising = ap rises c.sweep.ensures.held ∙ rises-swept c.args.slot c.args.w c.args.h ts kept.rising;
      whole = ap are_whole c.sweep.ensures.held ∙ whole-swept c.args.slot c.args.w c.args.h ts kept.whole;
      owned = c.sweep.ensures.owned;
      together = c.sweep.ensures.together ∙ kept.together ∙ sym c.sweep.ensures.count;
      taken = omega (arith, kept.taken, c.sweep.ensures.count);
      few = kept.few;
      held_fits = omega (arith, kept.held_fits, c.sweep.ensures.held_room);
      squares_fit = omega (arith, kept.squares_fit, c.sweep.ensures.squares_room);
      spare_fits = omega (arith, kept.spare_fits, c.sweep.ensures.spare_room);
    }

pub returns-clause-pixels : goal.returns-clause-pixels
returns-clause-pixels c =
    let ts = tiles_in c.self.inside.squares.items c.self.inside.held.items in
    let viewed : ts ≡ c.args.self.now.held = ap (λ (v : TilesView). v.held) c.self.view_is in
    let P : List Tile → Type 0 = λ us. CutsAway c.args.slot c.args.w c.args.h ts us in
    let Q : List Tile → Type 0 = λ us. CutsAway c.args.slot c.args.w c.args.h us (tiles_in c.sweep.new.squares.items c.sweep.new.held.items) in
    subst Q viewed (subst P (sym c.sweep.ensures.held) (swept-cuts c.args.slot c.args.w c.args.h ts c.self.invariant.rising))
