use Rattle.std.proofs.Common.{◌≡◌, ◌∙◌, ◌<◌, List, true, drop, is_some, length, ap, sym, subst, arith}
use Rattle.window_table.specs.declared.index.Key.{Key}
use Rattle.window_table.specs.Keys.{IsPlaceFor, RiseFrom, first_slot, slot_in}
use Rattle.window_table.proofs.KeyLemmas.{has-first, rise-remove, slot-here, slot-remove}
use Rattle.window_table.proofs.index.take_out.Goals as goal

pub remove_at-requires : goal.remove_at-requires
remove_at-requires c =
    let keys = c.args.keys.now.items in
    let P : List Key → Type 0 = λ ks. IsPlaceFor c.args.window ks c.place_for-i.result in
    let place = subst P c.deref.ensures.value c.place_for-i.ensures in
    let some : is_some (first_slot c.args.window (drop c.place_for-i.result keys)) ≡ true =
    ap is_some (sym (slot-here c.args.window 0 keys c.place_for-i.result c.requires.rising place)) ∙ c.requires.known in
    let inside : c.place_for-i.result < length keys = has-first c.args.window keys c.place_for-i.result some in
    omega (arith, inside, ap length c.deref.ensures.value, c.deref.ensures.len)

pub returns-clause-rising : goal.returns-clause-rising
returns-clause-rising c =
    subst (RiseFrom 0) (sym c.remove_at.ensures.items) (rise-remove 0 c.args.keys.now.items c.place_for-i.result c.requires.rising)

pub returns-clause-slots : goal.returns-clause-slots
returns-clause-slots c = λ other.
    let keys = c.args.keys.now.items in
    let P : List Key → Type 0 = λ ks. IsPlaceFor c.args.window ks c.place_for-i.result in
    let place = subst P c.deref.ensures.value c.place_for-i.ensures in
    let some : is_some (first_slot c.args.window (drop c.place_for-i.result keys)) ≡ true =
    ap is_some (sym (slot-here c.args.window 0 keys c.place_for-i.result c.requires.rising place)) ∙ c.requires.known in
    ap (slot_in other) c.remove_at.ensures.items
    ∙ slot-remove c.args.window other 0 keys c.place_for-i.result c.requires.rising place some
