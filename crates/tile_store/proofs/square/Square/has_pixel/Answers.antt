use Rattle.std.proofs.Common.{◌∙◌, ap}
use Rattle.tile_store.specs.Squares.{has_pixel}
use Rattle.tile_store.proofs.SquareLemmas.{some-shown}
use Rattle.tile_store.proofs.square.Square.has_pixel.Goals as goal

pub returns : goal.returns
returns c =
    c.some_colour.ensures ∙ some-shown c.self.inside.words
    ∙ ap has_pixel c.self.view_is
