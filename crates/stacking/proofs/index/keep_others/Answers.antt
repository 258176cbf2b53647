use Rattle.std.proofs.Common.{not, rules}
use Rattle.std.specs.Prelude.{◌==◌}
use Rattle.std.proofs.lemmas.Fn.{filter_same}
use Rattle.stacking.proofs.index.keep_others.Goals as goal

pub returns-clause-items : goal.returns-clause-items
returns-clause-items c =
    filter_same _ (λ key. not (key.id.guest == c.args.guest)) _ (λ x b f h. search rules) _ _ c.retain.ensures.filtered
