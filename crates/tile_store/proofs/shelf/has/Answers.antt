use Rattle.std.proofs.Common.{◌∙◌}
use Rattle.tile_store.specs.Kept.{laid}
use Rattle.tile_store.proofs.HeldLemmas.{held-here}
use Rattle.tile_store.proofs.shelf.has.Goals as goal

pub returns : goal.returns
returns c = c.is_at.ensures ∙ held-here c.args.spot (laid c.args.held.now) c.place_for.result c.requires c.place_for.ensures
