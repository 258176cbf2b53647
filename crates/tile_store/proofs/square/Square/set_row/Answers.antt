use Rattle.std.proofs.Common.{◌∙◌, ap, arith}
use Rattle.tile_store.specs.Squares.{all_shown, coloured_from}
use Rattle.tile_store.proofs.SquareLemmas.{shown-row}
use Rattle.tile_store.proofs.square.Square.set_row.Goals as goal

pub returns : goal.returns
returns c =
    let k = c.args.k in
    let put = c.args.colours.now in
    let words = c.self.inside.words in
    ap all_shown c.put_words.ensures
    ∙ shown-row k put words (omega (arith, c.requires.pixels, c.self.invariant)) c.requires.colours
    ∙ ap (coloured_from k put) c.self.view_is
