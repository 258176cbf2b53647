use Rattle.std.proofs.Common.{List, Option, ℕ, length, refl, sym, subst}
use Rattle.tile_store.specs.Squares.{blank}
use Rattle.tile_store.specs.Kept.{TakesSquare}
use Rattle.tile_store.proofs.ShelfLemmas.{spare-below, taken-again}
use Rattle.tile_store.proofs.shelf.take_square.Goals as goal

pub blank_out-requires : goal.blank_out-requires
blank_out-requires c =
    spare-below (length c.args.squares.now.items) c.in-Some.number c.args.spare.now.items c.pop.new.self.items c.requires.once c.in-Some.ensures.items

pub returns-in-Some-clause-takes : goal.returns-in-Some-clause-takes
returns-in-Some-clause-takes c =
    let old = c.args.squares.now.items in
    let P : List (List (Option ℕ)) → Type 0 = λ new. TakesSquare old new c.args.spare.now.items c.pop.new.self.items c.in-Some.number in
    subst P (sym c.blank_out.ensures.blank)
    (taken-again old c.args.spare.now.items c.pop.new.self.items c.in-Some.number blank c.requires.once c.in-Some.ensures.items refl)
