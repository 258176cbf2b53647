use Rattle.std.proofs.Common.{◌∙◌, List, ap, sym, subst, arith}
use Rattle.window_table.specs.declared.index.Key.{Key}
use Rattle.window_table.specs.Keys.{IsPlaceFor, RiseFrom, slot_in}
use Rattle.window_table.proofs.KeyLemmas.{rise-put, slot-put}
use Rattle.window_table.proofs.index.put_in.Goals as goal

pub returns-clause-rising : goal.returns-clause-rising
returns-clause-rising c =
    let keys = c.args.keys.now.items in
    let P : List Key → Type 0 = λ ks. IsPlaceFor c.args.window ks c.place_for-i.result in
    let place = subst P c.deref.ensures.value c.place_for-i.ensures in
    subst (RiseFrom 0) (sym c.insert_at.ensures.items)
    (rise-put c.args.window c.args.slot 0 keys c.place_for-i.result c.requires.rising place c.requires.unknown (omega arith))

pub returns-clause-slots : goal.returns-clause-slots
returns-clause-slots c = λ other.
    ap (slot_in other) c.insert_at.ensures.items
    ∙ slot-put c.args.window c.args.slot other c.args.keys.now.items c.place_for-i.result c.requires.unknown
