use Rattle.std.proofs.Common.{◌∙◌, ap, length, arith}
use Rattle.std.proofs.lemmas.List.{length-map}
use Rattle.tile_store.specs.Squares.{shown, all_shown, cut_from}
use Rattle.tile_store.proofs.SquareLemmas.{length-cut, shown-cut, cut-inside}
use Rattle.tile_store.proofs.square.Square.cut.Goals as goal

pub invariant_of-self : goal.invariant_of-self
invariant_of-self c = ap length c.cut_all.ensures ∙ length-cut 0 c.args.w c.args.h c.self.inside.words ∙ c.self.invariant

pub returns-then-w-lt-TILE_SIDE : goal.returns-then-w-lt-TILE_SIDE
returns-then-w-lt-TILE_SIDE c =
    ap all_shown c.cut_all.ensures ∙ shown-cut 0 c.args.w c.args.h c.self.inside.words
    ∙ ap (cut_from 0 c.args.w c.args.h) c.self.view_is

pub returns-else-h-lt-TILE_SIDE : goal.returns-else-h-lt-TILE_SIDE
returns-else-h-lt-TILE_SIDE c =
    cut-inside 0 c.args.w c.args.h c.args.self.now c.if-w-lt-TILE_SIDE.false c.if-h-lt-TILE_SIDE.false
    (omega (arith, c.self.told, length-map c.self.inside.words shown, ap length c.self.view_is))
