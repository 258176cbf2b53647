use Rattle.std.proofs.Common.{◌∙◌, ◌==◌, not, ap, sym, subst}
use Rattle.stacking.specs.Keys.{RiseFrom, first_id, layer_in}
use Rattle.stacking.proofs.KeyLemmas.{layer-filter, rise-filter}
use Rattle.stacking.proofs.index.take_guest_keys.Goals as goal

pub returns-clause-rising : goal.returns-clause-rising
returns-clause-rising c =
    subst (RiseFrom first_id) (sym c.keep_others.ensures.items)
    (rise-filter (λ key. not (key.id.guest == c.args.guest)) first_id c.args.keys.now.items c.requires.rising)

pub returns-clause-layers : goal.returns-clause-layers
returns-clause-layers c = λ other.
    ap (layer_in other) c.keep_others.ensures.items ∙ layer-filter c.args.guest other c.args.keys.now.items
