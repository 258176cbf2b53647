use Rattle.std.proofs.Common.{◌∙◌, List, ap, sym, subst}
use Rattle.stacking.specs.declared.index.Key.{Key}
use Rattle.stacking.specs.Keys.{IsPlaceFor, RiseFrom, first_id, layer_in}
use Rattle.stacking.proofs.KeyLemmas.{rise-put, layer-put}
use Rattle.stacking.proofs.OrderLemmas.{none-first}
use Rattle.stacking.proofs.index.put_key.Goals as goal

pub returns-clause-rising : goal.returns-clause-rising
returns-clause-rising c =
    let keys = c.args.keys.now.items in
    let P : List Key → Type 0 = λ ks. IsPlaceFor c.args.id ks c.place_for-i.result in
    let place = subst P c.deref.ensures.value c.place_for-i.ensures in
    subst (RiseFrom first_id) (sym c.insert_at.ensures.items)
    (rise-put c.args.id c.args.over first_id keys c.place_for-i.result c.requires.rising place c.requires.unknown (none-first c.args.id))

pub returns-clause-layers : goal.returns-clause-layers
returns-clause-layers c = λ other.
    ap (layer_in other) c.insert_at.ensures.items
    ∙ layer-put c.args.id c.args.over other c.args.keys.now.items c.place_for-i.result c.requires.unknown
