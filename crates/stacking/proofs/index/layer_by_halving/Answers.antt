use Rattle.std.proofs.Common.{◌∙◌, sym}
use Rattle.stacking.specs.Keys.{first_id}
use Rattle.stacking.proofs.KeyLemmas.{layer-here}
use Rattle.stacking.proofs.index.layer_by_halving.Goals as goal

pub returns : goal.returns
returns c = c.layer_at.ensures ∙ sym (layer-here c.args.id first_id c.args.keys.now c.place_for.result c.requires c.place_for.ensures)
