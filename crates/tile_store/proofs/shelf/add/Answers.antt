use Rattle.std.proofs.Common.{◌∙◌, List, true, false, ap, sym, subst, length, arith}
use Rattle.std.proofs.lemmas.Bool.{cond-true}
use Rattle.tile_store.specs.declared.shelf.Entry.{Entry}
use Rattle.tile_store.specs.Held.{is_held, placed, blank_tile}
use Rattle.tile_store.specs.Places.{IsPlaceFor}
use Rattle.tile_store.specs.Kept.{tiles_in, laid, AreOwned}
use Rattle.tile_store.proofs.ShelfLemmas.{known-laid, added-tile, added-owned}
use Rattle.tile_store.proofs.shelf.add.Goals as goal

pub take_square-number-requires-clause-room : goal.take_square-number-requires-clause-room
take_square-number-requires-clause-room c =
    let squares = c.args.squares.now.items in
    let held = c.args.held.now.items in
    let spot = c.args.spot in
    let i = c.place_for-i.result in
    let out = known-laid squares spot held c.deref.result.now c.deref-2.result.now i c.is_at.result false
    c.requires.rising c.deref.ensures.value c.deref-2.ensures.value c.place_for-i.ensures c.is_at.ensures c.if-not-is_at.true in
    λ none. let fits = c.requires.square out in omega (arith, fits, none, c.requires.together)

pub put_in-requires-clause-room : goal.put_in-requires-clause-room
put_in-requires-clause-room c =
    let squares = c.args.squares.now.items in
    let held = c.args.held.now.items in
    let spot = c.args.spot in
    let i = c.place_for-i.result in
    let out = known-laid squares spot held c.deref.result.now c.deref-2.result.now i c.is_at.result false
    c.requires.rising c.deref.ensures.value c.deref-2.ensures.value c.place_for-i.ensures c.is_at.ensures c.if-not-is_at.true in
    c.requires.room out

pub returns-then-not-is_at-clause-held : goal.returns-then-not-is_at-clause-held
returns-then-not-is_at-clause-held c =
    let squares = c.args.squares.now.items in
    let held = c.args.held.now.items in
    let spot = c.args.spot in
    let i = c.place_for-i.result in
    let out = known-laid squares spot held c.deref.result.now c.deref-2.result.now i c.is_at.result false
    c.requires.rising c.deref.ensures.value c.deref-2.ensures.value c.place_for-i.ensures c.is_at.ensures c.if-not-is_at.true in
    let P : List Entry → Type 0 = λ es. IsPlaceFor spot (laid es) i in
    let place = subst P c.deref.ensures.value c.place_for-i.ensures in
    ap (tiles_in c.take_square-number.new.squares.items) c.put_in.ensures.held
    ∙ added-tile squares c.take_square-number.new.squares.items held c.args.spare.now.items c.take_square-number.new.spare.items c.take_square-number.result c.requires.owned c.take_square-number.ensures.takes spot i c.requires.rising place out

pub returns-then-not-is_at-clause-owned : goal.returns-then-not-is_at-clause-owned
returns-then-not-is_at-clause-owned c =
    let Q : List Entry → Type 0 = λ es. AreOwned es c.take_square-number.new.spare.items (length c.take_square-number.new.squares.items) in
    let squares = c.args.squares.now.items in
    let held = c.args.held.now.items in
    subst Q (sym c.put_in.ensures.held) (added-owned squares c.take_square-number.new.squares.items held c.args.spare.now.items c.take_square-number.new.spare.items c.take_square-number.result c.requires.owned c.take_square-number.ensures.takes c.args.spot c.place_for-i.result)

pub returns-then-not-is_at-clause-together : goal.returns-then-not-is_at-clause-together
returns-then-not-is_at-clause-together c =
    omega (arith, c.put_in.ensures.len, c.take_square-number.ensures.takes.together, c.requires.together)

pub returns-then-not-is_at-clause-taken : goal.returns-then-not-is_at-clause-taken
returns-then-not-is_at-clause-taken c = λ most h less.
    let squares = c.args.squares.now.items in
    let held = c.args.held.now.items in
    let spot = c.args.spot in
    let i = c.place_for-i.result in
    let out = known-laid squares spot held c.deref.result.now c.deref-2.result.now i c.is_at.result false
    c.requires.rising c.deref.ensures.value c.deref-2.ensures.value c.place_for-i.ensures c.is_at.ensures c.if-not-is_at.true in
    c.take_square-number.ensures.takes.few most h (λ none. let few = less out in omega (arith, few, none, c.requires.together))

pub returns-else-not-is_at-clause-held : goal.returns-else-not-is_at-clause-held
returns-else-not-is_at-clause-held c =
    let squares = c.args.squares.now.items in
    let held = c.args.held.now.items in
    let there = known-laid squares c.args.spot held c.deref.result.now c.deref-2.result.now c.place_for-i.result c.is_at.result true
    c.requires.rising c.deref.ensures.value c.deref-2.ensures.value c.place_for-i.ensures c.is_at.ensures c.if-not-is_at.false in
    let ts = tiles_in squares held in
    sym (cond-true (is_held c.args.spot ts) ts (placed (blank_tile c.args.spot) ts) there)
