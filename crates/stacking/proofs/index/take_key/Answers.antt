use Rattle.std.proofs.Common.{◌≡◌, ◌∙◌, ◌<◌, List, true, drop, is_some, length, ap, sym, subst, arith}
use Rattle.stacking.specs.declared.index.Key.{Key}
use Rattle.stacking.specs.Keys.{IsPlaceFor, RiseFrom, first_id, first_layer, layer_in}
use Rattle.stacking.proofs.KeyLemmas.{has-first, layer-here, layer-remove, rise-remove}
use Rattle.stacking.proofs.index.take_key.Goals as goal

pub remove_at-requires : goal.remove_at-requires
remove_at-requires c =
    let keys = c.args.keys.now.items in
    let P : List Key → Type 0 = λ ks. IsPlaceFor c.args.id ks c.place_for-i.result in
    let place = subst P c.deref.ensures.value c.place_for-i.ensures in
    let some : is_some (first_layer c.args.id (drop c.place_for-i.result keys)) ≡ true =
    ap is_some (sym (layer-here c.args.id first_id keys c.place_for-i.result c.requires.rising place)) ∙ c.requires.known in
    let inside : c.place_for-i.result < length keys = has-first c.args.id keys c.place_for-i.result some in
    omega (arith, inside, ap length c.deref.ensures.value, c.deref.ensures.len)

pub returns-clause-rising : goal.returns-clause-rising
returns-clause-rising c =
    subst (RiseFrom first_id) (sym c.remove_at.ensures.items) (rise-remove first_id c.args.keys.now.items c.place_for-i.result c.requires.rising)

pub returns-clause-layers : goal.returns-clause-layers
returns-clause-layers c = λ other.
    let keys = c.args.keys.now.items in
    let P : List Key → Type 0 = λ ks. IsPlaceFor c.args.id ks c.place_for-i.result in
    let place = subst P c.deref.ensures.value c.place_for-i.ensures in
    let some : is_some (first_layer c.args.id (drop c.place_for-i.result keys)) ≡ true =
    ap is_some (sym (layer-here c.args.id first_id keys c.place_for-i.result c.requires.rising place)) ∙ c.requires.known in
    ap (layer_in other) c.remove_at.ensures.items
    ∙ layer-remove c.args.id other first_id keys c.place_for-i.result c.requires.rising place some
