use Rattle.std.proofs.Common.{◌∙◌, sym}
use Rattle.tile_store.specs.Kept.{laid}
use Rattle.tile_store.proofs.HeldLemmas.{there-place}
use Rattle.tile_store.proofs.shelf.place_near.Goals as goal

pub returns-then-is_at : goal.returns-then-is_at
returns-then-is_at c = there-place c.args.spot (laid c.args.held.now) c.args.near c.requires (sym c.is_at.ensures ∙ c.if-is_at.true)
