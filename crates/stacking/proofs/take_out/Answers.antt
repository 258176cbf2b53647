use Rattle.std.proofs.Common.{not, rules}
use Rattle.std.proofs.lemmas.Fn.{filter_same}
use Rattle.desk_laws.specs.Rows.{same_row}
use Rattle.stacking.proofs.take_out.Goals as goal

pub returns-clause-items : goal.returns-clause-items
returns-clause-items c =
    filter_same _ (λ other. not (same_row c.args.id other)) _ (λ x b f h. search rules) _ _ c.retain.ensures.filtered
