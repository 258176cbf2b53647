use Rattle.tile_store.proofs.SquareLemmas.{shown-nothing}
use Rattle.tile_store.proofs.square.Square.clear.Goals as goal

pub returns : goal.returns
returns c = shown-nothing 4096
