use Rattle.std.proofs.Common.{◌∙◌, sym}
use Rattle.stacking.specs.Keys.{first_id}
use Rattle.stacking.proofs.KeyLemmas.{layer-near}
use Rattle.stacking.proofs.index.layer_near.Goals as goal

pub returns-in-Some : goal.returns-in-Some
returns-in-Some c =
    sym (layer-near c.args.id c.in-Some.over first_id c.args.keys.now c.args.near c.requires (sym c.layer_at.ensures ∙ c.in-Some.is)).1
