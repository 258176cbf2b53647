use Rattle.std.proofs.Common.{◌∙◌, ap, set, Some, arith}
use Rattle.tile_store.proofs.SquareLemmas.{shown-set, read-set}
use Rattle.tile_store.proofs.square.Square.set.Goals as goal

pub returns-clause-pixels : goal.returns-clause-pixels
returns-clause-pixels c =
    shown-set c.self.inside.words c.args.k c.args.colour c.requires.colour
    ∙ ap (λ pixels. set pixels c.args.k (Some c.args.colour)) c.self.view_is

pub returns-clause-read : goal.returns-clause-read
returns-clause-read c =
    read-set c.self.inside.words c.args.k c.args.colour c.requires.colour (omega (arith, c.requires.k, c.self.invariant))
